-- `memory::page_latch` meets its contract.
use Rattle.memory.specs.Memory.{blank}
use Rattle.memory.proofs.page_latch.Goals as goal

pub returns : goal.returns
unfolding blank
returns c = c.fill_slots.ensures
