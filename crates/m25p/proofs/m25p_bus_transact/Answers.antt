-- `m25p::m25p_bus_transact` meets its contract.
use Rattle.std.proofs.Common.{◌≡◌, length, arith, rules}
use Rattle.m25p.proofs.Bus.{turn_odd, turn-few, turn-kept, turn-fits, turn-wrote}
use Rattle.m25p.proofs.m25p_bus_transact.Goals as goal

pub returns-then-row-ne0 : goal.returns-then-row-ne0
returns-then-row-ne0 c =
    let a = c.args in
    turn_odd a.row.now a.array.now a.chip a.sent.now a.pulses a.w a.response.now c.if-row-ne0.true (rw c.into.ensures at c.bare.ensures)

pub packed_answer-requires : goal.packed_answer-requires
packed_answer-requires c =
    let t = c in
    let r = t in
    let a = r.args in
    turn-few a.row.now a.array.now a.chip a.sent.now a.pulses a.w a.response.now r.read-records.result r.read-records.ensures r.if-row-ne0.false t.transact-done.ensures

pub returns-then-answer-ne0 : goal.returns-then-answer-ne0
returns-then-answer-ne0 c =
    let t = c in
    let r = t in
    let a = r.args in
    turn-kept a.row.now a.array.now a.chip a.sent.now a.pulses a.w a.response.now r.read-records.result r.read-records.ensures r.if-row-ne0.false t.transact-done.ensures c.if-answer-ne0.true c.packed_answer.ensures

pub slice_bounds-write-end : goal.slice_bounds-write-end
slice_bounds-write-end c =
    let t = c in
    let r = t in
    let a = r.args in
    let f = turn-fits a.row.now a.array.now a.chip a.sent.now a.pulses a.w a.response.now r.read-records.result r.read-records.ensures r.if-row-ne0.false t.transact-done.ensures c.if-answer-ne0.false in
    let n : length c.transact-done.result.row ≡ 9 = search rules in
    omega (arith, f.0, n)

pub write-requires : goal.write-requires
write-requires c =
    let t = c in
    let r = t in
    let a = r.args in
    let f = turn-fits a.row.now a.array.now a.chip a.sent.now a.pulses a.w a.response.now r.read-records.result r.read-records.ensures r.if-row-ne0.false t.transact-done.ensures c.if-answer-ne0.false in
    (omega (arith, f.1), f.2)

pub packed_answer-requires-2 : goal.packed_answer-requires-2
packed_answer-requires-2 c =
    let t = c in
    let r = t in
    let a = r.args in
    turn-few a.row.now a.array.now a.chip a.sent.now a.pulses a.w a.response.now r.read-records.result r.read-records.ensures r.if-row-ne0.false t.transact-done.ensures

pub returns : goal.returns
returns c =
    let t = c in
    let r = t in
    let a = r.args in
    turn-wrote a.row.now a.array.now a.chip a.sent.now a.pulses a.w a.response.now r.read-records.result r.read-records.ensures r.if-row-ne0.false t.transact-done.ensures c.if-answer-ne0.false c.write.ensures c.packed_answer-2.ensures
