use mathlib.Core.Path.{◌≡◌}
use Prim.Native.Nat.{◌+◌, ◌%◌}
use lib.ListN.{length}
use Rattle.slices.specs.Changed.{map_at, window}
use Rattle.memory.specs.Memory.{rolled}
use Rattle.memory.proofs.read_rolling.Given as goal

abbrev pub invariant-loop-from : goal.invariant-loop-from
invariant-loop-from l =
    (0 ≡ (l.address + l.from) % length l.array) × (l.out ≡ map_at (window 0 l.from (λ i x. rolled l.array l.address i)) l.fn.out)
