-- `device::cycle::Cycle::settings` meets its contract.
use Rattle.device.specs.Cycles.{settings_cycle, no_cycle}
use Rattle.device.proofs.cycle.Cycle.settings.Goals as goal

pub returns : goal.returns
unfolding settings_cycle no_cycle
returns c = rw c.none.ensures
