-- `pins::odd_samples` meets its contract.
use mathlib.Core.Path.{◌≡◌, refl, sym, ◌∙◌}
use mathlib.Core.List.{[]}
use native.Mathlib.Omega.{arith}
use lib.ListN.{drop, drop_of_length-le}
use Rattle.pins.specs.Pins.{odd_samples}
use Rattle.pins.proofs.Seen.{odd-next}
use Rattle.pins.proofs.odd_samples.Goals as goal

pub loop-sample-init : goal.loop-sample-init
loop-sample-init c = refl

pub loop-sample-preserved : goal.loop-sample-preserved
loop-sample-preserved c =
    let l = c.loop-sample in
    sym (odd-next l.odd c.args.samples.now l.sample-index c.loop-sample-test.true) ∙ l.invariant

pub returns : goal.returns
unfolding odd_samples
returns c =
    let l = c.loop-sample in
    let s = c.args.samples.now in
    let e : drop l.sample-index s ≡ [] = drop_of_length-le s {i = l.sample-index} (omega arith) in
    rw e at l.invariant
