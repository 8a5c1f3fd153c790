-- `m25p::m25p_image_read` meets its contract.
use Rattle.m25p.proofs.Image.{read_fits, did_read}
use Rattle.m25p.proofs.m25p_image_read.Goals as goal

pub blocks_answer-requires : goal.blocks_answer-requires
blocks_answer-requires c = read_fits c.read.ensures

pub returns : goal.returns
returns c = did_read c.read.ensures c.blocks_answer.ensures
