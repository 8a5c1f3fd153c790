-- `memory::missing` meets its contract.
use mathlib.Core.Path.{◌∙◌}
use Rattle.memory.specs.Missing.{page_of}
use Rattle.memory.proofs.Unmet.{missing-is, page-few}
use Rattle.memory.proofs.missing.Goals as goal

pub returns : goal.returns
unfolding page_of
returns c =
    let a = c.args in
    c.unmet_in.ensures
    ∙ rw (c.front.ensures, c.after.ensures, c.fill_slots-slots.ensures) (missing-is a.address a.bytes.now (page_of a.address a.array.now) (page-few a.address a.array.now))
