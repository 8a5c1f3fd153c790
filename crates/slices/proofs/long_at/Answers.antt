-- `slices::long_at` meets its contract.
use mathlib.Core.Path.{ap, ◌∙◌}
use Rattle.std.specs.Int.{w64, from_le_bytes}
use Rattle.slices.proofs.Words.{long_read}
use Rattle.slices.proofs.long_at.Goals as goal

pub returns : goal.returns
returns c = c.from_le_bytes.ensures ∙ ap (from_le_bytes w64) c.bytes_at-bytes.ensures ∙ long_read c.args.at c.args.s.now
