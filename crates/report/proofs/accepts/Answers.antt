-- `report::accepts` meets its contract.
use Rattle.std.proofs.Common.{sym, ◌∙◌}
use Rattle.std.proofs.lemmas.Result.{err_from_is_err_and}
use borrow.Author.Tests.{eqb-false}
use Rattle.refusals.proofs.Laws.{refusal_some}
use Rattle.batch.proofs.Runs.{accepted}
use Rattle.report.proofs.Runs.{number-form, number-sums}
use Rattle.report.proofs.accepts.Goals as goal

pub returns-in_err-accepts-clause-number : goal.returns-in_err-accepts-clause-number
returns-in_err-accepts-clause-number c =
    let a = c.args in
    let r = c.in_err-accepts.field-0.0 in
    let p = err_from_is_err_and c.from_residual.result c.from_residual.ensures.1 in
    let n = number-form a.device a.array.now a.items.now a.responses.now a.answers.now a.held.now (λ z. eqb-false _ 0 (refusal_some r) (c.in_err-accepts.ensures ∙ z)) in
    rw (p.1, p.2) (c.in_err-accepts.ensures ∙ sym n)

pub foresee_all-counts-requires : goal.foresee_all-counts-requires
foresee_all-counts-requires c =
    let a = c.args in
    let k = accepted a.device a.array.now a.items.now _ _ _ (sym c.in_ok-accepts.ensures) in
    (k.good.sound, k.good.whole, k.formed)

pub returns-then-exceeding-clause-number : goal.returns-then-exceeding-clause-number
returns-then-exceeding-clause-number c =
    let a = c.args in
    sym (number-sums a.device a.array.now a.items.now a.responses.now a.answers.now a.held.now (sym c.in_ok-accepts.ensures) c.foresee_all-counts.ensures ∙ rw (sym c.exceeding.ensures ∙ c.if-exceeding.true))

pub returns-clause-number : goal.returns-clause-number
returns-clause-number c =
    let a = c.args in
    sym (number-sums a.device a.array.now a.items.now a.responses.now a.answers.now a.held.now (sym c.in_ok-accepts.ensures) c.foresee_all-counts.ensures ∙ rw (sym c.exceeding.ensures ∙ c.if-exceeding.false))
