-- `memory::cut_page` meets its contract.
use mathlib.Core.Path.{◌≡◌, sym, ◌∙◌}
use native.Mathlib.Omega.{arith}
use lib.ListN.{length}
use Rattle.slices.proofs.Windows.{window-end}
use Rattle.memory.proofs.Cuts.{page-cut}
use borrow.Author.Rules.{rules}
use Rattle.memory.proofs.cut_page.Goals as goal

pub returns : goal.returns
returns c =
    let a = c.args in
    let l : length a.slots ≡ 256 = search rules in
    c.program_page.ensures
    ∙ page-cut a.address a.slots a.mask.now a.array.now l (c.cut_all.ensures ∙ sym (window-end 256 _ _ (omega arith)))
