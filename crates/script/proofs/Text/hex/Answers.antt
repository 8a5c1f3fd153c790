-- `Text::hex` meets its contract: the digits of the bytes passed are printed.
use Rattle.std.proofs.Common.{◌∙◌, refl}
use Rattle.script.proofs.Printing.{printed_none, printed_then, hex-next}
use Rattle.script.proofs.Text.hex.Goals as goal

pub loop-b-init : goal.loop-b-init
loop-b-init c = record { same = refl; printed = printed_none _ _ _ c.min-self.ensures }

pub loop-b-preserved : goal.loop-b-preserved
loop-b-preserved c = record { same = c.byte.ensures.same ∙ c.loop-b.invariant.same; printed = rw (hex-next c.args.bytes.now c.loop-b.b-index c.loop-b-test.true) (printed_then c.loop-b.invariant.printed c.byte.ensures.printed) }
