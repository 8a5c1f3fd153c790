use Rattle.std.proofs.Common.{◌≡◌, []}
use Rattle.image.specs.Images.{bad_places}
use Rattle.image.proofs.first_bad.Given as goal

abbrev pub invariant-loop-place : goal.invariant-loop-place
invariant-loop-place l = bad_places l.image l.place ≡ []
