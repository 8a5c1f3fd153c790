-- `pins::too_long` meets its contract.
use Rattle.std.proofs.Common.{ℕ, List, ap, ◌∙◌, arith}
use lib.Seq.{take_all}
use Rattle.pins.specs.Pins.{next_pins, on_select, Pins, seen, too_long}
use Rattle.pins.proofs.Seen.{kept-rest, kept-after, counting-first, counting-next}
use Rattle.pins.proofs.too_long.Goals as goal

pub loop-sample-init : goal.loop-sample-init
loop-sample-init c = rw kept-rest (counting-first _)

pub loop-sample-preserved : goal.loop-sample-preserved
unfolding next_pins on_select
loop-sample-preserved c =
    let l = c.loop-sample in
    let inv = rw (← c.after-pins.ensures) at l.invariant in
    let t = ap (λ (p : Pins). p.select) c.on_select.ensures in
    counting-next _ l.sample-index c.loop-sample-test.true c.of-levels.ensures c.next_count-count.ensures (kept-after _ _ _ t c.on_hold-next.ensures c.of-levels.ensures ∙ (c.on_hold-next.ensures ∙ rw c.on_select.ensures)) inv

pub returns : goal.returns
unfolding too_long
returns c =
    let l = c.loop-sample in
    l.invariant.long ∙ ap (λ (xs : List ℕ). (seen xs).long) (take_all l.sample-index c.args.samples.now (omega arith))
