use Rattle.std.proofs.Common.{◌≡◌, ◌*◌, ◌≤◌, length}
use Rattle.slices.specs.Changed.{map_at, window, stored}
use Rattle.image.specs.Images.{mended, bad_places, listed}
use Rattle.image.proofs.salvage_all.Given as goal

abbrev pub invariant-loop-place : goal.invariant-loop-place
invariant-loop-place l = record {
  room : l.at ≤ l.place * 8;
  used : l.at ≡ length (listed l.initial.image (bad_places l.initial.image l.place));
  blocks : l.image ≡ map_at (window 0 (l.place * 512) (mended l.initial.image)) l.initial.image;
  places : l.list ≡ map_at (stored 0 (listed l.initial.image (bad_places l.initial.image l.place))) l.initial.list;
}
