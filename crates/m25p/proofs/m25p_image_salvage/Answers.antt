-- `m25p::m25p_image_salvage` meets its contract.
use Rattle.m25p.proofs.Image.{salvage-fits, did-salvage}
use Rattle.m25p.proofs.m25p_image_salvage.Goals as goal

pub blocks_answer-requires : goal.blocks_answer-requires
blocks_answer-requires c = salvage-fits c.salvage.ensures

pub returns : goal.returns
returns c = did-salvage c.salvage.ensures c.blocks_answer.ensures
