-- `memory::program_page` meets its contract.
use Rattle.memory.specs.Memory.{anded, programmed}
use borrow.Author.Rules.{rules}
use Rattle.memory.proofs.program_page.Goals as goal

pub returns : goal.returns
unfolding programmed
returns c = c.change_sector.ensures (anded c.args.slots) (λ i x r l k h. search rules)
