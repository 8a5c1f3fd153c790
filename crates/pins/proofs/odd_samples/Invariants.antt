use Rattle.std.proofs.Common.{◌≡◌, false}
use lib.ListN.{drop}
use Rattle.pins.specs.Pins.{odd_from}
use Rattle.pins.proofs.odd_samples.Given as goal

abbrev pub invariant-loop-sample : goal.invariant-loop-sample
invariant-loop-sample l = odd_from l.odd (drop l.sample-index l.samples) ≡ odd_from false l.samples
