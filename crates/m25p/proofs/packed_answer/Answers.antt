-- `m25p::packed_answer` meets its contract.
use Rattle.m25p.specs.Calls.{packed_answer}
use borrow.Author.Rules.{rules}
use Rattle.m25p.proofs.packed_answer.Goals as goal

pub returns : goal.returns
unfolding packed_answer
returns c = search rules
