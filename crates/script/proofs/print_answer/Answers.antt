-- `print_answer` meets its contract: six pieces one after the other.
use Rattle.std.proofs.Common.{rules}
use Rattle.script.specs.Answers.{answer_line}
use Rattle.script.proofs.Printing.{printed_then, printed_as}
use Rattle.script.proofs.print_answer.Goals as goal

pub returns : goal.returns
unfolding answer_line
returns c =
    printed_as
    (printed_then
    (printed_then
    (printed_then (printed_then (printed_then c.decimal.ensures.printed c.push.ensures.printed) (rw c.from.ensures at c.decimal-2.ensures.printed)) c.push-2.ensures.printed)
    c.response.ensures.printed)
    c.push-3.ensures.printed)
    (search rules)
