use Rattle.device.specs.Chip.{chip}
use Rattle.batch.specs.Items.{items_of, events_of}
use Rattle.batch.specs.Found.{carried_from}
use Rattle.batch.proofs.Going.{Going}
use Rattle.batch.proofs.carry_all.Given as goal

abbrev pub invariant-loop-k : goal.invariant-loop-k
invariant-loop-k l =
    (goal.iterator-loop-k).can_next l.k-iterator × (goal.iterator-loop-k).is_finite l.k-iterator
    × Going (items_of l.k-iterator.iter.rest.now) (carried_from (events_of l.items) (chip l.fn.device l.initial.array) 0 l.initial.responses 0 l.initial.answers 0) l.from l.k-iterator.count l.tally l.array l.responses l.answers
