-- `device::cycle::named_sound` meets its contract.
use borrow.Author.Rules.{rules}
use Rattle.device.specs.Cycles.{named_sound}
use Rattle.device.proofs.cycle.named_sound.Goals as goal

pub returns-then-used : goal.returns-then-used
unfolding named_sound
returns-then-used c = search rules

pub returns-else-used : goal.returns-else-used
unfolding named_sound
returns-else-used c = search rules
