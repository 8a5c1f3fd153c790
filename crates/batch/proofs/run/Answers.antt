-- `batch::run` meets its contract.
use Rattle.std.proofs.Common.{length, sym, rules}
use borrow.Author.Tests.{eqb-false}
use Rattle.refusals.proofs.Laws.{refusal_some}
use Rattle.batch.proofs.Runs.{accepted, refused, done}
use Rattle.batch.proofs.run.Goals as goal

pub returns-in-Err : goal.returns-in-Err
returns-in-Err c =
    let a = c.args in
    rw c.into.ensures (refused a.device a.array.now a.items.now a.responses.now a.answers.now a.missing.now _ c.in-Err.ensures (eqb-false _ 0 (refusal_some c.in-Err.refusal)))

pub carry_all-all-requires : goal.carry_all-all-requires
carry_all-all-requires c =
    let a = c.args in
    let k = accepted a.device a.array.now a.items.now (length a.responses.now) (length a.answers.now) (length a.missing.now) (sym c.in_default.ensures) in
    (k.good, k.formed, k.room, k.places)

pub returns : goal.returns
returns c =
    let a = c.args in
    done a.device a.array.now a.items.now a.responses.now a.answers.now a.missing.now (sym c.in_default.ensures) c.carry_all-all.ensures (search rules)
