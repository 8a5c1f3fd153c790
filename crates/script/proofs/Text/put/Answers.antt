-- `Text::put` meets its contract: the characters passed are printed.
use Rattle.std.proofs.Common.{◌∙◌, refl}
use Rattle.std.proofs.lemmas.List.{take_more}
use Rattle.script.proofs.Printing.{printed_none, printed_then}
use Rattle.script.proofs.Text.put.Goals as goal

pub loop-b-init : goal.loop-b-init
loop-b-init c = record { same = refl; printed = printed_none _ _ _ c.min-self.ensures }

pub loop-b-preserved : goal.loop-b-preserved
loop-b-preserved c =
    record {
      same = c.push.ensures.same ∙ c.loop-b.invariant.same;
      printed = rw (take_more c.args.line.now c.loop-b.b-index 0 c.loop-b-test.true) (printed_then c.loop-b.invariant.printed c.push.ensures.printed);
    }
