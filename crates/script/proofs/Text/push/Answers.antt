-- `Text::push` meets its contract: the character goes where there is room.
use Rattle.std.proofs.Common.{[], ◌∷◌}
use Rattle.script.proofs.Printing.{printed_nowhere}
use Rattle.script.proofs.Text.push.Goals as goal

pub returns-else-self-clause-printed : goal.returns-else-self-clause-printed
returns-else-self-clause-printed c = let s = c.args.self.now in printed_nowhere (c.args.b ∷ []) s.bytes.now s.at c.if-self.false
