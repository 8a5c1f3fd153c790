-- `device::cycle::Cycle::erase` meets its contract.
use Rattle.device.specs.Cycles.{erase_cycle, no_cycle}
use Rattle.device.proofs.cycle.Cycle.erase.Goals as goal

pub returns : goal.returns
unfolding erase_cycle no_cycle
returns c = rw c.none.ensures
