use Rattle.std.proofs.Common.{◌≡◌, ◌*◌, drop}
use Rattle.slices.specs.Changed.{map_at, window}
use Rattle.image.specs.Images.{imaged}
use Rattle.image.proofs.write_all.Given as goal

abbrev pub invariant-loop-place : goal.invariant-loop-place
invariant-loop-place l = record {
  size : l.place-iterator.iter.size ≡ 504;
  rest : l.place-iterator.iter.rest.now ≡ drop (l.place-iterator.count * 504) l.array;
  written : l.image ≡ map_at (window 0 (l.place-iterator.count * 512) (imaged l.array)) l.initial.image;
}
