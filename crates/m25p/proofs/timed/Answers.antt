-- `m25p::timed` meets its contract.
use Rattle.m25p.proofs.Laws.{came_refused, came-carried}
use Rattle.m25p.proofs.timed.Goals as goal

pub returns-then-came-ne0 : goal.returns-then-came-ne0
returns-then-came-ne0 g c = λ meant does keeps. let a = c.args in came_refused meant a.packed.now a.array.now c.unpack-came.ensures c.if-came-ne0.true c.bare.ensures

pub returns : goal.returns
returns g c = λ meant does keeps.
    let a = c.args in
    came-carried meant a.packed.now a.array.now c.unpack-came.ensures keeps c.if-came-ne0.false (does _ _ _ _ c.call.ensures) c.checked.ensures.bytes c.checked.ensures.number
