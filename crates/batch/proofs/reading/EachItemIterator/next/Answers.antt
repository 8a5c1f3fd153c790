-- `batch::reading::EachItem::next` meets its contract.
use Rattle.std.proofs.Common.{ℕ, ◌∷◌, refl, ap, ◌≡◌, ◌<◌, length, List, [], sym, ◌∙◌, arith, eqb-true, rules}
use Rattle.batch.specs.Items.{items_from}
use Rattle.batch.proofs.Items.{items_cut}
use Rattle.batch.proofs.reading.EachItemIterator.next.Goals as goal

empty : (xs : List ℕ) → length xs ≡ 0 → xs ≡ []
empty [] e = refl
empty (x ∷ xs) e = absurd (omega arith)

pub returns-then-is_empty-clause-steps : goal.returns-then-is_empty-clause-steps
unfolding items_from
returns-then-is_empty-clause-steps c = let z = empty c.args.self.now.rest.now (eqb-true _ 0 (sym c.is_empty.ensures ∙ c.if-is_empty.true)) in (rw z, rw z)

pub returns-clause-steps : goal.returns-clause-steps
returns-clause-steps c =
    let b = c.args.self.now.rest.now in
    let h : 0 < length b = search rules in
    rw (c.split_at.ensures.front, c.split_at.ensures.back) (items_cut b c.size.result c.size.ensures h)

pub returns-clause-goes : goal.returns-clause-goes
returns-clause-goes c =
    let b = c.args.self.now.rest.now in
    let h : 0 < length b = search rules in
    let n = ap length (items_cut b c.size.result c.size.ensures h) in
    rw c.split_at.ensures.back (record { on = λ f. (tt, tt, omega (arith, n)); keeps = tt; rests = λ f. tt })
