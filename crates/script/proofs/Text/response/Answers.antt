-- `Text::response` meets its contract: a dash, or the digits.
use Rattle.std.proofs.Common.{sym}
use Rattle.script.specs.Answers.{hex_or_dash}
use Rattle.script.proofs.Text.response.Goals as goal

pub returns-then-is_empty-clause-printed : goal.returns-then-is_empty-clause-printed
unfolding hex_or_dash
returns-then-is_empty-clause-printed c = rw (sym c.if-is_empty.ensures) c.push.ensures.printed

pub returns-else-is_empty-clause-printed : goal.returns-else-is_empty-clause-printed
unfolding hex_or_dash
returns-else-is_empty-clause-printed c = rw (sym c.if-is_empty.ensures) c.hex.ensures.printed
