use Rattle.pins.specs.Counted.{pins_after}
use Rattle.pins.proofs.Seen.{Counting}
use Rattle.pins.proofs.too_long.Given as goal

abbrev pub invariant-loop-sample : goal.invariant-loop-sample
invariant-loop-sample l = Counting l.samples l.sample-index (pins_after l.before l.holding) l.count l.long
