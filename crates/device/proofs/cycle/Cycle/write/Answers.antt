-- `device::cycle::Cycle::write` meets its contract.
use Rattle.device.specs.Cycles.{write_cycle, no_cycle}
use Rattle.device.proofs.cycle.Cycle.write.Goals as goal

pub returns : goal.returns
unfolding write_cycle no_cycle
returns c = rw c.none.ensures
