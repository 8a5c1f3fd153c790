use Rattle.std.proofs.Common.{◌≡◌, ◌*◌}
use Rattle.slices.specs.Changed.{map_at, window}
use Rattle.image.specs.Images.{unimaged}
use Rattle.image.proofs.read_all.Given as goal

abbrev pub invariant-loop-place : goal.invariant-loop-place
invariant-loop-place l = l.array ≡ map_at (window 0 (l.place * 504) (unimaged l.image)) l.initial.array
