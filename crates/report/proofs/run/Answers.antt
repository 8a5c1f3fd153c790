-- `report::run` meets its contract.
use Rattle.std.proofs.Common.{sym, lit≤}
use borrow.Author.Tests.{eqb-false}
use Rattle.chip.proofs.Verdicts.{refusal_some}
use Rattle.report.proofs.Runs.{number-none, sums-fit, refused, done}
use Rattle.report.proofs.run.Goals as goal

pub returns-in-Err : goal.returns-in-Err
returns-in-Err c =
    let a = c.args in
    rw c.into.ensures (refused a.device a.array.now a.items.now a.responses.now a.answers.now a.totals.now _ c.in-Err.ensures.number (eqb-false _ 0 (refusal_some c.in-Err.refusal)))

pub add_all-requires : goal.add_all-requires
add_all-requires c =
    let a = c.args in
    let n = sym c.in-Ok.ensures.number in
    let z = number-none a.device a.array.now a.items.now a.responses.now a.answers.now a.totals.now n in
    sums-fit a.device a.array.now a.items.now a.responses.now a.answers.now a.totals.now z c.in-Ok.ensures.sums n

pub returns : goal.returns
returns c =
    let a = c.args in
    let n = sym c.in-Ok.ensures.number in
    let z = number-none a.device a.array.now a.items.now a.responses.now a.answers.now a.totals.now n in
    done a.device a.array.now a.items.now a.responses.now a.answers.now a.totals.now z c.in-Ok.ensures.sums n (lit≤ tt) c.run-done.ensures c.add_all.ensures
