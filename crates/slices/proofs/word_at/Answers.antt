-- `slices::word_at` meets its contract.
use mathlib.Core.Path.{ap, ◌∙◌}
use Rattle.std.specs.Int.{w32, from_le_bytes}
use Rattle.slices.proofs.Words.{word-read}
use Rattle.slices.proofs.word_at.Goals as goal

pub returns : goal.returns
returns c = c.from_le_bytes.ensures ∙ ap (from_le_bytes w32) c.bytes_at-bytes.ensures ∙ word-read c.args.at c.args.s.now
