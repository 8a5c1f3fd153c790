-- `batch::measure` meets its contract.
use Rattle.std.proofs.Common.{sym, ◌∙◌, arith}
use Rattle.batch.proofs.Items.{measured-few, measured_next}
use Rattle.batch.proofs.measure.Goals as goal

pub overflow_add-sizes : goal.overflow_add-sizes
overflow_add-sizes c =
    let m = rw c.in-Some.ensures.steps at c.loop-item.invariant.2 in
    let h = (measured-few c.args.items.now m).0 in
    record { fits = omega (arith, c.room.ensures, c.well_formed) }

pub overflow_add-sizes-in-loop-item : goal.overflow_add-sizes-in-loop-item
overflow_add-sizes-in-loop-item c =
    let m = rw c.in-Some.ensures.steps at c.loop-item.invariant.2 in
    let h = (measured-few c.args.items.now m).1 in
    record { fits = omega (arith, c.well_formed) }

pub loop-item-preserved : goal.loop-item-preserved
loop-item-preserved c = (tt, tt, rw c.room.ensures (measured_next c.in-Some.item.now _ c.in-Some.ensures.steps (sym c.good.ensures ∙ c.if-not-good.false) c.loop-item.invariant.2))
