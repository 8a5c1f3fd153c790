-- `m25p::m25p_pins` meets its contract.
use mathlib.Core.Path.{◌≡◌, sym, ap, ◌∙◌}
use Prim.Native.Nat.{ℕ}
use Rattle.device.specs.declared.Checked.{Checked}
use Rattle.device.specs.Packing.{unpack_of}
use Rattle.device.proofs.Inverse.{opened}
use Rattle.chip.specs.Outcome.{bare}
use Rattle.pins.specs.Run.{Ran}
use Rattle.pins.proofs.Theorems.{run_sound, run-few}
use Rattle.m25p.specs.Calls.{packed_answer}
use Rattle.m25p.proofs.Laws.{unpacked-sound, stores, same_next}
use Rattle.m25p.proofs.Pins.{refused, ran, next-is}
use Rattle.m25p.proofs.m25p_pins.Goals as goal

pub carried-requires : goal.carried-requires
carried-requires c = run-few c.run.ensures

pub returns-then-came-ne0 : goal.returns-then-came-ne0
returns-then-came-ne0 c =
    let a = c.args in
    let e = ap (λ (x : Checked). x.answer) c.unpack-came.ensures in
    refused a.packed.now a.array.now a.samples.now a.output.now (λ z. c.if-came-ne0.true (e ∙ z)) (c.bare.ensures ∙ ap (λ (k : ℕ). packed_answer (bare k)) e)

pub returns : goal.returns
returns c =
    let a = c.args in
    let z : (unpack_of a.packed.now).answer ≡ 0 = sym (ap (λ (x : Checked). x.answer) c.unpack-came.ensures) ∙ c.if-came-ne0.false in
    let m : Ran (unpack_of a.packed.now).device a.array.now a.samples.now a.output.now c.run.result c.run.new.array c.run.new.output = rw (← c.unpack-came.ensures) c.run.ensures in
    let s = run_sound m (unpacked-sound a.packed.now z) in
    let k = c.run.result.answer.number in
    ran a.packed.now a.array.now a.samples.now a.output.now z m c.carried.ensures.number
    (stores k c.run.result.device a.packed.now c.carried.ensures.bytes (opened a.packed.now z).long (λ y. s) ∙ same_next k _ _ a.packed.now (next-is m))
