-- `device::cycle::slots_sound` meets its contract.
use borrow.Author.Rules.{rules}
use Rattle.device.specs.Cycles.{no_slots, slots_sound}
use Rattle.device.proofs.cycle.slots_sound.Goals as goal

pub returns : goal.returns
unfolding slots_sound no_slots
returns c = search rules
