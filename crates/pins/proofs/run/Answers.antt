-- `pins::run` meets its contract.
use Rattle.std.proofs.Common.{refl, sym, ◌∙◌, length, rules}
use borrow.Author.Tests.{eqb-false}
use Rattle.refusals.proofs.Laws.{refusal_some}
use Rattle.pins.proofs.Runs.{accepted, refused, carried}
use Rattle.pins.proofs.run.Goals as goal

pub returns-in-Err : goal.returns-in-Err
returns-in-Err c =
    let a = c.args in
    refused a.device a.array.now a.samples.now a.output.now _ (c.into.ensures ∙ c.in-Err.ensures) (λ z. eqb-false _ 0 (refusal_some c.in-Err.refusal) (sym c.into.ensures ∙ z)) c.bare-answer.ensures refl

pub carry_all-all-requires : goal.carry_all-all-requires
carry_all-all-requires c =
    let a = c.args in
    let k = accepted a.device (length a.array.now) a.samples.now (length a.output.now) (sym c.in_default.ensures) in
    (k.short, k.room, search rules, search rules)

pub returns : goal.returns
returns c =
    let a = c.args in
    rw c.bare.ensures (carried a.device a.array.now a.samples.now a.output.now (sym c.in_default.ensures) c.carry_all-all.ensures)
