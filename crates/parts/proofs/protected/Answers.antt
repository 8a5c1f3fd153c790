-- `parts::protected` meets its contract. Assumes nothing.
use mathlib.Core.Path.{◌∙◌, sym}
use Rattle.parts.specs.Protected.{protected_of}
use Rattle.parts.proofs.Laws.{shifted, above}
use Rattle.parts.proofs.protected.Goals as goal

pub returns-then-bp-eq0 : goal.returns-then-bp-eq0
unfolding protected_of
returns-then-bp-eq0 c = rw c.if-bp-eq0.true

pub returns-then-bp-le64 : goal.returns-then-bp-le64
returns-then-bp-le64 c = c.min.ensures ∙ shifted _ _ c.if-bp-eq0.false c.if-bp-le64.true

pub returns-else-bp-le64 : goal.returns-else-bp-le64
returns-else-bp-le64 c = sym (above _ _ c.ranges.sectors.fits c.if-bp-le64.false)
