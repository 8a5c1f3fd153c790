use Rattle.pins.specs.Counted.{pins_after}
use Rattle.pins.proofs.Held.{Held}
use Rattle.pins.proofs.carry_all.Given as goal

abbrev pub invariant-loop-i : goal.invariant-loop-i
invariant-loop-i l = Held l.fn.device l.initial.array l.samples l.initial.output l.i l.array l.output l.sent l.device l.missing (pins_after l.before l.holding) l.under
