-- `memory::write_page` meets its contract.
use Rattle.memory.specs.Memory.{placed, replaced}
use borrow.Author.Rules.{rules}
use Rattle.memory.proofs.write_page.Goals as goal

pub returns : goal.returns
unfolding replaced
returns c = c.change_sector.ensures (placed c.args.address c.args.count c.args.slots) (λ i x r l k h. search rules)
