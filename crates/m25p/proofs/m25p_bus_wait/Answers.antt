-- `m25p::m25p_bus_wait` meets its contract.
use Rattle.std.proofs.Common.{arith}
use Rattle.m25p.proofs.Bus.{wait-odd, wait-kept, wait-fits, wait-wrote}
use Rattle.m25p.proofs.m25p_bus_wait.Goals as goal

pub returns-then-row-ne0 : goal.returns-then-row-ne0
returns-then-row-ne0 c =
    let a = c.args in
    wait-odd a.row.now a.array.now a.ticks c.if-row-ne0.true (rw c.into.ensures at c.bare.ensures)

pub returns-then-done-ne0 : goal.returns-then-done-ne0
returns-then-done-ne0 c =
    let w = c in
    let r = w in
    let a = r.args in
    wait-kept a.row.now a.array.now a.ticks r.read-records.result r.read-records.ensures r.if-row-ne0.false w.wait-done.ensures c.if-done-ne0.true c.bare-then-done-ne0.ensures

pub shared_ref_as_front-write : goal.shared_ref_as_front-write
shared_ref_as_front-write c =
    let w = c in
    let r = w in
    let a = r.args in
    let f = wait-fits a.row.now a.array.now a.ticks r.read-records.result r.read-records.ensures r.if-row-ne0.false w.wait-done.ensures c.if-done-ne0.false in
    omega (arith, f.0)

pub write-requires : goal.write-requires
write-requires c =
    let w = c in
    let r = w in
    let a = r.args in
    let f = wait-fits a.row.now a.array.now a.ticks r.read-records.result r.read-records.ensures r.if-row-ne0.false w.wait-done.ensures c.if-done-ne0.false in
    (f.1, f.2)

pub returns : goal.returns
returns c =
    let w = c in
    let r = w in
    let a = r.args in
    wait-wrote a.row.now a.array.now a.ticks r.read-records.result r.read-records.ensures r.if-row-ne0.false w.wait-done.ensures c.if-done-ne0.false c.write.ensures c.bare-2.ensures
