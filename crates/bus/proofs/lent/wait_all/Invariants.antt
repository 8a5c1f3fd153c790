use mathlib.Core.Path.{◌≡◌}
use Prim.Native.Nat.{◌≤◌}
use lib.ListN.{length}
use Rattle.bus.specs.Bus.{sum_of}
use Rattle.bus.proofs.Waits.{Going}
use Rattle.bus.proofs.lent.wait_all.Given as goal

abbrev pub invariant-loop-device : goal.invariant-loop-device
invariant-loop-device l = (length l.initial.row ≤ 8) × (length l.initial.array ≡ sum_of l.initial.row) × Going l.initial.row l.initial.array l.ticks l.device-index l.from l.row l.array
