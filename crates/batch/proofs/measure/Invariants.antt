use Rattle.batch.specs.Items.{items_of}
use Rattle.batch.proofs.Items.{Measured}
use Rattle.batch.proofs.measure.Given as goal

abbrev pub invariant-loop-item : goal.invariant-loop-item
invariant-loop-item l =
    (goal.iterator-loop-item).can_next l.item-iterator × (goal.iterator-loop-item).is_finite l.item-iterator × Measured (items_of l.items) (items_of l.item-iterator.rest.now) l.sizes
