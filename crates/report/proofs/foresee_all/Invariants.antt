use Rattle.std.proofs.Common.{◌≡◌, ℕ, List, length}
use Rattle.device.specs.Chip.{chip}
use Rattle.batch.specs.Items.{items_of, events_of}
use Rattle.report.specs.Totals.{totals}
use Rattle.report.specs.Report.{gained}
use Rattle.report.proofs.Going.{Going}
use Rattle.report.proofs.foresee_all.Given as goal

abbrev pub invariant-loop-item : goal.invariant-loop-item
invariant-loop-item l =
    (goal.iterator-loop-item).can_next l.item-iterator × (goal.iterator-loop-item).is_finite l.item-iterator × (length l.counts ≡ totals)
    × ((xs : List ℕ) → length xs ≡ l.array → Going (items_of l.item-iterator.rest.now) (length l.items) l.array l.part (gained (events_of l.items) (chip l.initial.device xs)) l.device l.counts)
