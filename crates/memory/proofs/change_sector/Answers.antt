-- `memory::change_sector` meets its contract.
use mathlib.Core.Path.{◌∙◌}
use native.Mathlib.Omega.{arith}
use Rattle.slices.proofs.Windows.{window-end}
use Rattle.memory.proofs.Laws.{sector-is, sector-none}
use Rattle.memory.proofs.change_sector.Goals as goal

pub returns-then-size-eq0 : goal.returns-then-size-eq0
returns-then-size-eq0 g c f h = c.change_part.ensures f h ∙ window-end _ f _ (omega arith) ∙ (sector-none c.args.address f _ ∙ rw c.if-size-eq0.true)

pub returns-else-size-eq0 : goal.returns-else-size-eq0
returns-else-size-eq0 g c f h = c.change_part-else-size-eq0.ensures f h ∙ sector-is c.args.size c.args.address f _ (omega arith)
