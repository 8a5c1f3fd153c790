-- `m25p::rows::write` meets its contract.
use Rattle.std.proofs.Common.{◌<◌, length, ◌∙◌, arith, add-one}
use Rattle.bus.proofs.Rows.{at-any}
use Rattle.m25p.proofs.Records.{write-next, write-last}
use Rattle.m25p.proofs.rows.write.Goals as goal

pub loop-record-preserved : goal.loop-record-preserved
loop-record-preserved c =
    let l = c.loop-record in
    let a = c.args in
    let i = l.invariant in
    let more : l.record-index < length a.records.now = omega arith in
    let v = write-next a.first l.record-index a.records.now a.row.now (omega arith) c.requires.0 c.requires.1 more l.row l.from i.1 i.0 (at-any a.records.now l.record-index _ more) c.write.ensures in
    (omega (arith, i.0), rw (add-one l.record-index) v)

pub returns : goal.returns
returns c = let l = c.loop-record in l.invariant.1 ∙ write-last c.args.first l.record-index c.args.records.now c.args.row.now (omega arith)
