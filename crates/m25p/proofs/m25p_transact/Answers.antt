-- `m25p::m25p_transact` meets its contract.
use mathlib.Core.Path.{◌≡◌, sym, ap, ◌∙◌}
use Prim.Native.Nat.{ℕ}
use Rattle.device.specs.declared.Checked.{Checked}
use Rattle.device.specs.Packing.{unpack_of}
use Rattle.device.proofs.Inverse.{opened}
use Rattle.chip.specs.Outcome.{bare, transacted, Meets}
use Rattle.m25p.specs.Calls.{packed_answer, high}
use Rattle.m25p.proofs.Laws.{stores, refused, carried, next-sound, few-missing}
use Rattle.m25p.proofs.m25p_transact.Goals as goal

pub carried-requires : goal.carried-requires
carried-requires c = few-missing _ _ _ _ _ _ c.transact.ensures

pub returns-then-came-ne0 : goal.returns-then-came-ne0
returns-then-came-ne0 c =
    let a = c.args in
    let e = ap (λ (x : Checked). x.answer) c.unpack-came.ensures in
    refused a.packed.now a.array.now a.sent.now a.pulses a.w a.response.now (λ z. c.if-came-ne0.true (e ∙ z)) (c.bare.ensures ∙ ap (λ (k : ℕ). packed_answer (bare k)) e)

pub returns : goal.returns
returns c =
    let a = c.args in
    let z : (unpack_of a.packed.now).answer ≡ 0 = sym (ap (λ (x : Checked). x.answer) c.unpack-came.ensures) ∙ c.if-came-ne0.false in
    let m : Meets (transacted (unpack_of a.packed.now).device a.array.now a.sent.now a.pulses (high a.w) a.response.now) c.transact.result.answer c.transact.result.device c.transact.new.array c.transact.new.response =
    rw (← c.unpack-came.ensures) c.transact.ensures in
    let s = next-sound a.packed.now a.array.now a.sent.now a.pulses (high a.w) a.response.now z m in
    carried a.packed.now a.array.now a.sent.now a.pulses a.w a.response.now z m c.carried.ensures.number
    (stores c.transact.result.answer.number c.transact.result.device a.packed.now c.carried.ensures.bytes (opened a.packed.now z).long (λ y. s))
