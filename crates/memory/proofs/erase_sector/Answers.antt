-- `memory::erase_sector` meets its contract.
use Rattle.slices.specs.Changed.{put}
use Rattle.memory.specs.Memory.{erased}
use borrow.Author.Rules.{rules}
use Rattle.memory.proofs.erase_sector.Goals as goal

pub returns : goal.returns
unfolding erased
returns c = c.change_sector.ensures (put 255) (λ i x r l k h. search rules)
