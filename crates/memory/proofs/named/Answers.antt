-- `memory::named` meets its contract.
use mathlib.Core.Path.{ap}
use Prim.Native.Nat.{ℕ}
use native.Mathlib.Omega.{arith}
use lib.Dec.{ltb}
use Rattle.memory.specs.Memory.{named}
use Rattle.memory.proofs.named.Goals as goal

pub returns : goal.returns
unfolding named
returns c = ap (λ (k : ℕ). ltb k c.args.count) (omega arith)
