-- `device::cycle::Cycle::none` meets its contract.
use mathlib.Core.Path.{refl}
use Rattle.device.specs.Cycles.{no_cycle, no_slots}
use Rattle.device.proofs.cycle.Cycle.none.Goals as goal

pub returns : goal.returns
unfolding no_cycle no_slots
returns c = refl
