-- `m25p::m25p_report` meets its contract.
use Rattle.m25p.proofs.Report.{refused, carried}
use Rattle.m25p.proofs.m25p_report.Goals as goal

pub returns-then-came-ne0 : goal.returns-then-came-ne0
returns-then-came-ne0 c =
    let a = c.args in
    refused a.packed.now a.array.now a.items.now a.responses.now a.answers.now a.totals.now c.unpack-came.ensures c.if-came-ne0.true c.bare.ensures

pub returns : goal.returns
returns c =
    let a = c.args in
    carried a.packed.now a.array.now a.items.now a.responses.now a.answers.now a.totals.now c.unpack-came.ensures c.if-came-ne0.false c.run.ensures c.checked.ensures.bytes c.checked.ensures.number
