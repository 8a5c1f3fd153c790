-- `memory::cut_all` meets its contract.
use mathlib.Core.Path.{sym, ◌∙◌}
use Rattle.memory.specs.Memory.{ored, cut_sector}
use Rattle.memory.proofs.Laws.{sector-none}
use Rattle.memory.proofs.cut_all.Goals as goal

pub returns : goal.returns
unfolding cut_sector
returns c = c.cut_sector.ensures ∙ sym (sector-none 0 (ored c.args.mask.now) _)
