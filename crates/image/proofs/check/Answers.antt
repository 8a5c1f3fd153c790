-- `image::check` meets its contract.
use Rattle.std.proofs.Common.{◌≡◌, true, false, sym, refl, ◌∙◌}
use borrow.Author.Tests.{not-true, not-false}
use Rattle.image.specs.Blocks.{same_sums}
use Rattle.image.proofs.Blocks.{behind, by_sums}
use Rattle.image.proofs.check.Goals as goal

pub returns-then-ne : goal.returns-then-ne
returns-then-ne c =
    let x = c.args in
    let e : same_sums c.sums_in.result c.sums_of.result ≡ false = not-true _ (sym c.ne.ensures ∙ c.if-ne.true) in
    by_sums x.place x.block.now false (sym c.word_at.ensures ∙ c.if-word_at-place.false) (sym e ∙ rw (c.sums_in.ensures, c.sums_of.ensures, behind _ x.block.now refl))

pub returns : goal.returns
returns c =
    let x = c.args in
    let e : same_sums c.sums_in.result c.sums_of.result ≡ true = not-false _ (sym c.ne.ensures ∙ c.if-ne.false) in
    by_sums x.place x.block.now true (sym c.word_at.ensures ∙ c.if-word_at-place.false) (sym e ∙ rw (c.sums_in.ensures, c.sums_of.ensures, behind _ x.block.now refl))
