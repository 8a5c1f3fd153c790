-- `device::cycle::Cycle::all` meets its contract.
use Rattle.device.specs.Cycles.{all_cycle, no_cycle}
use Rattle.device.proofs.cycle.Cycle.all.Goals as goal

pub returns : goal.returns
unfolding all_cycle no_cycle
returns c = rw c.none.ensures
