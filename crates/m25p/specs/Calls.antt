-- The C calls over the packed bytes: the answer in 64 bits, and every byte of record, array and response.
use Rattle.std.specs.Prelude.{◌≡◌, Bool, true, cond, not, List, ℕ, ◌+◌, ◌*◌, eqb, length}
use denote.Param.Members.{Once}
use denote.Ref.{MutBor}
use Rattle.slices.specs.Changed.{map_at, put}
use Rattle.device.specs.declared.Device.{Device}
use Rattle.device.specs.declared.Checked.{Checked}
use Rattle.device.specs.Chip.{Chip, chip}
use Rattle.device.specs.Device.{on_zero, delivered, sound}
use Rattle.device.specs.Time.{Timed, Handed}
use Rattle.device.specs.Packing.{packed_length, pack_of, unpack_answer, unpack_of}
use Rattle.chip.specs.declared.Answer.{Answer}
use Rattle.chip.specs.declared.answers.Verdict.TheVariants.{Refused}
use Rattle.chip.specs.Answers.{delivery_answer}
use Rattle.chip.specs.Outcome.{Outcome, bare, outcome_of, transacted}

-- bits 0 to 7 the answer number, 8 to 15 the first driven position, 16 to 47 the driven count, 48 to 63 the bits missing
unfoldable pub packed_answer : Answer → ℕ
packed_answer a = a.number + 256 * a.first + 65536 * a.count + 281474976710656 * a.missing

-- W is low for 0, else high; a loss says no for 0, else yes
abbrev pub high : ℕ → Bool
high w = not (eqb w 0)

-- what a call does with packed bytes: only an answer of 0 changes them
abbrev pub packed_by : ℕ → Device → List ℕ → List ℕ
packed_by number next packed = on_zero number (pack_of next) packed

-- ---- a transaction: 8 or 6 of the packing, else that of the record

unfoldable pub transacted_c : List ℕ → List ℕ → List ℕ → ℕ → ℕ → List ℕ → Outcome
transacted_c packed array sent pulses w response =
    on_zero (unpack_answer packed) (transacted (unpack_of packed).device array sent pulses (high w) response)
    (outcome_of (Refused (unpack_answer packed)) (unpack_of packed).device array sent response)

-- what the call promises of its answer and of the bytes as they are handed back
pub record Called (o : Outcome) (packed : List ℕ) (r : ℕ) (packed' array' response' : List ℕ) : Type 0 where
  pub answer : r ≡ packed_answer o.answer
  pub bytes : packed' ≡ packed_by o.answer.number o.device packed
  pub memory : array' ≡ o.array
  pub line : response' ≡ o.response

-- ---- wait, power-up and power loss: 8 or 6 of the packing, else the call on the record beside the array

unfoldable pub timed_c : (Chip → Timed) → List ℕ → List ℕ → Timed
timed_c call packed array =
    let c = chip (unpack_of packed).device array in
    on_zero (unpack_answer packed) (call c) (record { answer = unpack_answer packed; chip = c })

-- a call that leaves a sound record sound
abbrev pub Keeps : (Chip → Timed) → Type 0
Keeps call = (c : Chip) → sound c.device ≡ true → sound (call c).chip.device ≡ true

-- a closure does to a record and an array what the call does to the chip that they are
abbrev pub Does : {F : Type 0} → Once F (Device × (MutBor (List ℕ) × Unit {0})) (Checked × (MutBor (List ℕ) × Unit {0})) → F → (Chip → Timed) → Type 0
Does g f call = (d : Device) (lent : MutBor (List ℕ)) (r : Checked) (back : MutBor (List ℕ)) → g.post f (d, (lent, tt)) (r, (back, tt)) → Handed (call (chip d lent.now)) r back.now

pub record CalledOn (o : Timed) (packed : List ℕ) (r : ℕ) (packed' array' : List ℕ) : Type 0 where
  pub answer : r ≡ packed_answer (bare o.answer)
  pub bytes : packed' ≡ packed_by o.answer o.chip.device packed
  pub memory : array' ≡ o.chip.array

-- ---- delivery: 8, then 1, 2, 7

unfoldable pub delivery_c : List ℕ → ℕ → ℕ → ℕ → ℕ → ℕ → ℕ → ℕ
delivery_c packed part array program sector bulk status = cond (eqb (length packed) packed_length) (delivery_answer part array program sector bulk status) 8

pub record DeliveredC (packed : List ℕ) (part : ℕ) (array : List ℕ) (program sector bulk status r : ℕ) (packed' array' : List ℕ) : Type 0 where
  pub answer : r ≡ packed_answer (bare (delivery_c packed part (length array) program sector bulk status))
  pub bytes : packed' ≡ packed_by (delivery_c packed part (length array) program sector bulk status) (delivered part program sector bulk status) packed
  pub memory : array' ≡ on_zero (delivery_c packed part (length array) program sector bulk status) (map_at (put 255) array) array
