-- `print_end` meets its contract: three pieces one after the other.
use Rattle.std.proofs.Common.{rules}
use Rattle.script.specs.Answers.{end_line}
use Rattle.script.proofs.Printing.{printed_then, printed_as}
use Rattle.script.proofs.print_end.Goals as goal

pub returns : goal.returns
unfolding end_line
returns c = printed_as (printed_then c.put.ensures.printed (printed_then c.decimal.ensures.printed c.push.ensures.printed)) (search rules)
