use mathlib.Core.Path.{◌≡◌}
use Prim.Native.Nat.{◌+◌}
use lib.ListN.{drop}
use Rattle.memory.specs.Memory.{filled}
use Rattle.memory.proofs.fill_slots.Given as goal

abbrev pub invariant-loop-k : goal.invariant-loop-k
invariant-loop-k l = filled l.slots (l.address + l.k) (drop l.k l.bytes) ≡ filled l.initial.slots l.address l.bytes
