-- `m25p::blocks_answer` meets its contract.
use Rattle.std.proofs.Common.{ap, ◌∙◌}
use Rattle.chip.specs.declared.Answer.{Answer}
use Rattle.m25p.specs.Calls.{packed_answer}
use Rattle.m25p.specs.Image.{with_blocks}
use Rattle.m25p.proofs.blocks_answer.Goals as goal

pub returns : goal.returns
unfolding with_blocks
returns c = c.packed_answer.ensures ∙ ap (λ (a : Answer). packed_answer (record { number = a.number; first = a.first; count = c.args.reply.blocks; missing = a.missing })) c.bare.ensures
