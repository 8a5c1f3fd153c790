-- `image::read_block` meets its contract.
use Rattle.std.proofs.Common.{◌∙◌, arith}
use Rattle.image.proofs.Blocks.{behind}
use Rattle.image.proofs.read_block.Goals as goal

pub returns : goal.returns
returns c = c.copy.ensures ∙ rw (behind 512 c.args.block.now (omega arith))
