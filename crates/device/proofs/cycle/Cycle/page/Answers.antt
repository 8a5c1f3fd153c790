-- `device::cycle::Cycle::page` meets its contract.
use Rattle.device.specs.Cycles.{page_cycle, no_cycle}
use Rattle.device.proofs.cycle.Cycle.page.Goals as goal

pub returns : goal.returns
unfolding page_cycle no_cycle
returns c = rw c.none.ensures
