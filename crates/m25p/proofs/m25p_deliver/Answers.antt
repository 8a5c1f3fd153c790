-- `m25p::m25p_deliver` meets its contract.
use mathlib.Core.Path.{◌≡◌, ◌∙◌}
use lib.ListN.{length}
use Rattle.device.specs.Packing.{packed_length}
use Rattle.m25p.proofs.Laws.{stores, same_next, another-length, delivers, as-delivered}
use Rattle.m25p.proofs.m25p_deliver.Goals as goal

pub returns-then-packed-ne-LENGTH : goal.returns-then-packed-ne-LENGTH
returns-then-packed-ne-LENGTH c =
    let a = c.args in
    another-length a.packed.now a.part a.array.now _ _ _ _ c.if-packed-ne-LENGTH.true (rw c.into.ensures at c.bare.ensures)

pub returns : goal.returns
returns c =
    let b = c in
    let a = b.args in
    let l : length a.packed.now ≡ packed_length = b.if-packed-ne-LENGTH.false in
    let d = as-delivered a.part a.array.now _ _ _ _ b.deliver-done.ensures in
    let k = b.deliver-done.result.answer in
    delivers a.packed.now a.part a.array.now _ _ _ _ l b.deliver-done.ensures c.checked.ensures.number
    (stores k b.deliver-done.result.device a.packed.now c.checked.ensures.bytes l (λ z. (d z).1) ∙ same_next k _ _ a.packed.now (λ z. (d z).0))
