-- `report::add_all` meets its contract.
use Rattle.std.proofs.Common.{◌≡◌, ℕ, ◌+◌, ap, ◌∙◌, arith, List, get_or}
use Rattle.report.specs.Totals.{totals, total_in, added_to}
use Rattle.report.proofs.Adding.{none-exceeds, total_kept, added_none, added_next}
use Rattle.report.proofs.add_all.Goals as goal

pub loop-i-init : goal.loop-i-init
loop-i-init c = added_none _ _

pub overflow_add-sum : goal.overflow_add-sum
overflow_add-sum c =
    let l = c.loop-i in
    let more : ℕ → ℕ = λ k. get_or c.args.counts.now k 0 in
    let was = c.long_at.ensures ∙ (ap (λ (h : List ℕ). total_in h l.i) l.invariant ∙ total_kept more c.args.held.now l.i) in
    record { fits = omega (arith, was, none-exceeds more c.args.held.now c.requires l.i (omega arith)) }

pub loop-i-preserved : goal.loop-i-preserved
loop-i-preserved c =
    let l = c.loop-i in
    let more : ℕ → ℕ = λ k. get_or c.args.counts.now k 0 in
    c.store.ensures ∙ (rw c.to_le_bytes.ensures (added_next more c.args.held.now l.i l.invariant (ap (λ (k : ℕ). k + more l.i) c.long_at.ensures)))

pub returns : goal.returns
returns c =
    let l = c.loop-i in
    let z : l.i ≡ totals = omega arith in
    l.invariant ∙ ap (λ (n : ℕ). added_to n (λ k. get_or c.args.counts.now k 0) c.args.held.now) z
