-- `Text::byte` meets its contract: two characters one after the other.
use Rattle.std.proofs.Common.{◌≡◌, [], ◌∷◌}
use Rattle.script.specs.Answers.{hex_byte}
use Rattle.script.proofs.Printing.{printed_then}
use Rattle.script.proofs.Text.byte.Goals as goal

pub returns-clause-printed : goal.returns-clause-printed
returns-clause-printed c =
    let e : hex_byte c.args.b ≡ c.hex_digit.result ∷ c.hex_digit-2.result ∷ [] = cc in
    rw e (printed_then c.push.ensures.printed c.push-2.ensures.printed)
