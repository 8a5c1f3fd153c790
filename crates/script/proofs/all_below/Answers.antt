use mathlib.Core.Path.{refl, ◌∙◌}
use Rattle.script.proofs.Reading.{all-next}
use Rattle.script.proofs.all_below.Goals as goal

pub loop-x-init : goal.loop-x-init
loop-x-init c = refl

pub loop-x-preserved : goal.loop-x-preserved
loop-x-preserved c = rw c.digit.ensures (all-next _ _ _ _ c.loop-x-test.true ∙ c.loop-x.invariant)
