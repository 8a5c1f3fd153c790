-- `report::foresee_one` meets its contract.
use Rattle.std.proofs.Common.{◌≤◌, ◌+◌, ap, arith, length}
use Rattle.batch.specs.Batch.{room_of}
use Rattle.batch.proofs.One.{item-long}
use Rattle.batch.proofs.Fits.{item_room}
use Rattle.report.proofs.Counts.{spare-less}
use Rattle.report.proofs.Foresee.{seen-number, seen-count, seen-sends}
use Rattle.report.proofs.foresee_one.Goals as goal

pub count-requires : goal.count-requires
count-requires c =
    let a = c.args in
    let t = c.in-Transaction in
    let p = c.foreseen-done.ensures in
    let i = a.item.now in
    let n = ap room_of t.ensures in
    let l : 3 + length t.sent.now ≤ length i = omega (arith, item-long i c.requires.0, item_room i c.requires.0) in
    let f = seen-count a.device a.array a.part t.sent.now t.pulses t.w p in
    (spare-less c.requires.3 (omega arith), seen-number a.device a.array a.part t.sent.now t.pulses t.w p)

pub returns-in-Transaction : goal.returns-in-Transaction
returns-in-Transaction c =
    let a = c.args in
    let t = c.in-Transaction in
    rw (← t.ensures) (seen-sends a.device a.array a.part t.sent.now t.pulses t.w c.foreseen-done.ensures c.count.ensures)
