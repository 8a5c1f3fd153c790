-- The promises of the five calls admit one outcome each.
-- Assumes nothing.
use mathlib.Core.Path.{◌≡◌, sym, ◌∙◌}
use mathlib.Core.List.{List}
use Prim.Native.Nat.{ℕ}
use Rattle.slices.proofs.Outcomes.{one-outcome}
use Rattle.device.specs.declared.Device.{Device}
use Rattle.device.specs.declared.Checked.{Checked}
use Rattle.device.specs.Time.{Timed, Handed}
use Rattle.device.specs.Packing.{Packed, unpack_of}

-- an answer and a record handed back are equal where both are
pub same-checked : {r s : Checked} → r.answer ≡ s.answer → r.device ≡ s.device → r ≡ s
same-checked {r} {s} e f =
    let x : ◌≡◌ {A = Checked} (record { answer = r.answer; device = r.device }) (record { answer = s.answer; device = s.device }) = rw (e, f) in
    x

-- wait, power-up and power loss: the answer, the record and every byte of the array
pub time-one-outcome : {o : Timed} {r₁ r₂ : Checked} {a₁ a₂ : List ℕ} → Handed o r₁ a₁ → Handed o r₂ a₂ → (r₁ ≡ r₂) × (a₁ ≡ a₂)
time-one-outcome p q = (same-checked (p.answer ∙ sym q.answer) (p.device ∙ sym q.device), p.memory ∙ sym q.memory)

-- pack: the answer and every lent byte
pub pack-one-outcome : {d : Device} {out : List ℕ} {r₁ r₂ : ℕ} {out₁ out₂ : List ℕ} → Packed d out r₁ out₁ → Packed d out r₂ out₂ → (r₁ ≡ r₂) × (out₁ ≡ out₂)
pack-one-outcome p q = (p.answer ∙ sym q.answer, p.bytes ∙ sym q.bytes)

-- unpack
pub unpack-one-outcome : (b : List ℕ) {r₁ r₂ : Checked} → r₁ ≡ unpack_of b → r₂ ≡ unpack_of b → r₁ ≡ r₂
unpack-one-outcome b p q = one-outcome p q
