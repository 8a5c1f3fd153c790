-- `memory::cut_sector` meets its contract.
use Rattle.memory.specs.Memory.{ored, cut_sector}
use borrow.Author.Rules.{rules}
use Rattle.memory.proofs.cut_sector.Goals as goal

pub returns : goal.returns
unfolding cut_sector
returns c = c.change_sector.ensures (ored c.args.mask.now) (λ i x r l k h. search rules)
