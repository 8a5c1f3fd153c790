-- The proofs of `bus::lent::transact_lent`: what the numbers give, a refused call, and one chip that did what a transaction does.
-- Assumes nothing.
use mathlib.Core.Path.{◌≡◌, refl, sym, ap, ap₂, ◌∙◌}
use mathlib.Core.Bool.{Bool}
use mathlib.Core.List.{List, ◌++◌}
use Prim.Native.Nat.{ℕ, ◌+◌, ◌-◌}
use native.Mathlib.Omega.{arith}
use lib.ListN.{length, set, take, drop, length-set}
use Rattle.slices.proofs.Choices.{other, zero-ind}
use Rattle.refusals.specs.declared.Refusal.{Refusal}
use Rattle.refusals.specs.Numbers.{number_of}
use Rattle.device.specs.declared.Device.{Device}
use Rattle.device.specs.Chip.{Chip, chip}
use Rattle.chip.specs.declared.Answer.{Answer}
use Rattle.chip.specs.Outcome.{Outcome, bare, transacted, Meets}
use Rattle.chip.specs.Events.{left}
use Rattle.bus.specs.Bus.{bytes_of, sum_of, chips_in, row_of, array_of, at, nth}
use Rattle.bus.specs.Calls.{bus_number, Shared, chosen, bused, Bused}
use Rattle.bus.specs.Found.{partly}
use Rattle.bus.proofs.Numbers.{bus-zero}
use Rattle.refusals.proofs.Laws.{refused_by}
use Rattle.bus.proofs.Chips.{chip-at, row-set, array-set}

-- what is left when chip k did what o says, and the others nothing
abbrev pub shared : List Device → List ℕ → ℕ → Outcome → Shared
shared row array k o = record { answer = o.answer; row = row_of (set (chips_in row array) k (left o)); array = array_of (set (chips_in row array) k (left o)); response = o.response }

-- 0: that is what a transaction with chip k leaves
pub done-is : (row : List Device) (array : List ℕ) (k : ℕ) (sent : List ℕ) (pulses : ℕ) (w : Bool) (response : List ℕ) → bus_number row (length array) k ≡ 0
    → bused row array k sent pulses w response ≡ shared row array k (transacted (nth (chips_in row array) k).device (nth (chips_in row array) k).array sent pulses w response)
unfolding bused chosen
done-is row array k sent pulses w response z = rw z

-- any other number: everything as it came
pub refused-is : (row : List Device) (array : List ℕ) (k : ℕ) (sent : List ℕ) (pulses : ℕ) (w : Bool) (response : List ℕ) → (bus_number row (length array) k ≡ 0 → ⊥)
    → record { answer = bare (bus_number row (length array) k); row = row; array = array; response = response } ≡ bused row array k sent pulses w response
unfolding bused
refused-is row array k sent pulses w response h = other (bus_number row (length array) k) _ _ h

-- as many records as before
pub turned-length : (row : List Device) (array : List ℕ) (k : ℕ) (sent : List ℕ) (pulses : ℕ) (w : Bool) (response : List ℕ) → length (bused row array k sent pulses w response).row ≡ length row
unfolding bused
turned-length row array k sent pulses w response = zero-ind (λ (s : Shared). length s.row ≡ length row) (bus_number row (length array) k) (ap length (row-set row array k _) ∙ length-set row k _) refl

module _ (ds : List Device) (k : ℕ) (xs : List ℕ) (sent : List ℕ) (pulses : ℕ) (w : Bool) (response : List ℕ) where
  -- refused: everything as it came
  pub turn-refused : (q : Refusal) → number_of q ≡ bus_number ds (length xs) k → {a : Answer} → a ≡ bare (number_of q) → Bused (bused ds xs k sent pulses w response) a ds xs response
  turn-refused q e {a} p =
      let r = refused-is ds xs k sent pulses w response (λ z. refused_by q (e ∙ z)) in
      record { answer = p ∙ (ap bare e ∙ ap (λ (s : Shared). s.answer) r); records = ap (λ (s : Shared). s.row) r; memory = ap (λ (s : Shared). s.array) r; line = ap (λ (s : Shared). s.response) r }

  -- the chosen chip did what a transaction does to it on its own bytes, and its record was stored
  pub turn-done : bus_number ds (length xs) k ≡ 0 → (a e : ℕ) → a ≡ sum_of (take k ds) → e ≡ a + bytes_of (at ds k) → {r : Answer} {next : Device} {ys us : List ℕ}
      → Meets (partly a e (at ds k) xs sent pulses w response) r next ys us → Bused (bused ds xs k sent pulses w response) r (set ds k next) ys us
  unfolding bused chosen partly
  turn-done z a e p q {r} {next} {ys} {us} m =
      let h = bus-zero ds (length xs) k z in
      let b : e - a ≡ bytes_of (at ds k) = omega arith in
      let o = transacted (at ds k) (take (e - a) (drop a xs)) sent pulses w response in
      let cs = chips_in ds xs in
      let together : Outcome → Shared = shared ds xs k in
      let c : nth cs k ≡ chip (at ds k) (take (e - a) (drop a xs)) = rw b (chip-at ds xs k h.1 ∙ ap (λ (f : ℕ). chip (at ds k) (take (bytes_of (at ds k)) (drop f xs))) (sym p)) in
      let s : bused ds xs k sent pulses w response ≡ together o = done-is ds xs k sent pulses w response z ∙ ap (λ (v : Chip). together (transacted v.device v.array sent pulses w response)) c in
      record {
        answer = m.answer ∙ ap (λ (v : Shared). v.answer) (sym s);
        records = ap (set ds k) m.device ∙ (sym (row-set ds xs k (left o)) ∙ ap (λ (v : Shared). v.row) (sym s));
        memory = m.memory
            ∙ (sym (array-set ds xs k (left o) h.1 h.0.sum ∙ ap₂ (λ (f g : ℕ). take f xs ++ (o.array ++ drop g xs)) (sym p) (ap (λ (f : ℕ). f + bytes_of (at ds k)) (sym p) ∙ sym q))
            ∙ ap (λ (v : Shared). v.array) (sym s));
        line = m.line ∙ ap (λ (v : Shared). v.response) (sym s);
      }
