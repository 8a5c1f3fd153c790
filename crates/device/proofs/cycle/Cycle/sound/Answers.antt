-- `device::cycle::Cycle::sound` meets its contract.
use borrow.Author.Rules.{rules}
use Rattle.device.specs.Cycles.{cycle_sound}
use Rattle.device.proofs.cycle.Cycle.sound.Goals as goal

pub returns-then-not-uses : goal.returns-then-not-uses
unfolding cycle_sound
returns-then-not-uses c = search rules

pub returns-else-not-uses : goal.returns-else-not-uses
unfolding cycle_sound
returns-else-not-uses c = search rules

pub returns-else-named_sound : goal.returns-else-named_sound
unfolding cycle_sound
returns-else-named_sound c = search rules
