use mathlib.Core.Path.{◌≡◌}
use lib.ListN.{length, get_or}
use Rattle.slices.specs.Changed.{map_at, window}
use Rattle.slices.proofs.copy.Given as goal

abbrev pub invariant-loop-i : goal.invariant-loop-i
invariant-loop-i l = (length l.out ≡ length l.initial.out) × (l.out ≡ map_at (window 0 l.i (get_or l.src)) l.initial.out)
