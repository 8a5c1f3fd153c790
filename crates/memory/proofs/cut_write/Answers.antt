-- `memory::cut_write` meets its contract.
use mathlib.Core.Path.{refl, sym, ◌∙◌}
use Prim.Native.Nat.{◌*◌, ◌/◌, min}
use native.Mathlib.Omega.{arith}
use lib.ListN.{length}
use Rattle.slices.proofs.Windows.{window-end}
use Rattle.memory.proofs.Writes.{rest-lent, write-cut}
use Rattle.memory.proofs.cut_write.Goals as goal

pub returns : goal.returns
returns c =
    let a = c.args in
    let page = a.address / 256 * 256 in
    let from = min page (length a.array.now) in
    c.write_page.ensures
    ∙ write-cut a.address a.count a.mask.now a.array.now from refl (rw (rest-lent page a.array.now from refl, ← c.after.ensures) c.copy.ensures) (c.cut_all.ensures ∙ sym (window-end 256 _ _ (omega arith)))
