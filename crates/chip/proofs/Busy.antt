-- A chip in a cycle, its record sound or not: none of the chip's numbers depends on its latch, no transaction changes record or array or has bits missing, and nothing but the status byte is driven.
-- Assumes nothing.
use mathlib.Core.Path.{◌≡◌, refl, sym, ◌∙◌}
use mathlib.Core.Bool.{Bool, true, false, cond, not, false≢true}
use mathlib.Core.List.{List, [], ◌∷◌}
use Prim.Native.Nat.{ℕ, ◌≤◌}
use native.Mathlib.Omega.{arith}
use borrow.Author.Tests.{eqb-true, le-leb}
use lib.Dec.{eqb, leb}
use lib.ListN.{length, get_or, take}
use Rattle.slices.specs.Changed.{sum_at}
use Rattle.slices.proofs.Choices.{cond_ind}
use Rattle.parts.specs.declared.Figures.{Figures}
use Rattle.parts.specs.Parts.{figures_of}
use Rattle.device.specs.declared.Mode.{Mode}
use Rattle.device.specs.declared.Mode.TheVariants.{Standby, Busy, Deep}
use Rattle.device.specs.declared.Device.{Device}
use Rattle.device.specs.Device.{is_busy, is_deep, latched, status_byte}
use Rattle.chip.specs.declared.table.Turn.TheVariants.{Keep}
use Rattle.chip.specs.Table.{row_of}
use Rattle.chip.specs.Answers.{as_needed, chip_number}
use Rattle.chip.specs.Line.{Driven, silent, drives, by_row, heard, heard_row, driven, driving, driving_at, first_from, first_of, count_of}
use Rattle.chip.specs.Change.{missing_of, turned}
use Rattle.chip.specs.Outcome.{Outcome, outcome_of, transacted}
use Rattle.chip.proofs.Rows.{rows-ind}
use Rattle.chip.proofs.Rules.{outcome-ind}

awake : (m : Mode) → is_busy m ≡ true → is_deep m ≡ false
awake Standby h = refl
awake (Busy left) h = refl
awake Deep h = absurd (false≢true h)

-- no bytes 11, an unknown code 14, all but RDSR 12; RDSR 0, or 15 where n is not as needed. BP, SRWD, W, the address and the latch do not count
pub busy-number : (d : Device) (n pulses : ℕ) (w : Bool) (at : ℕ) → is_busy d.mode ≡ true → (f : Figures) (code : ℕ)
    → chip_number d (row_of f code) n pulses w at ≡ cond (eqb n 0) 11 (cond (not (row_of f code).known) 14 (cond (row_of f code).busy (cond (not (as_needed (row_of f code) n pulses)) 15 0) 12))
unfolding chip_number
busy-number d n pulses w at h f =
    rows-ind (λ code r. chip_number d r n pulses w at ≡ cond (eqb n 0) 11 (cond (not r.known) 14 (cond r.busy (cond (not (as_needed r n pulses)) 15 0) 12))) f
    (rw h) (rw h) (λ e. rw h) (rw (h, awake d.mode h)) (rw h) (rw h) (rw h) (rw h) (rw h) (rw h) (λ e. rw h) (λ e. rw h) (λ e. rw h) (λ e. rw h) (λ e. rw h) (λ e. rw h) (λ e. rw h) (λ e. rw h) (λ code. refl)

-- with two latches at most one record is sound, so this is said of the chip's rule alone
pub latch-unread : (d : Device) (l : Bool) (n pulses : ℕ) (w : Bool) (at : ℕ) → is_busy d.mode ≡ true → (f : Figures) (code : ℕ)
    → chip_number (latched d l) (row_of f code) n pulses w at ≡ chip_number d (row_of f code) n pulses w at
unfolding latched
latch-unread d l n pulses w at h f code = busy-number (latched d l) n pulses w at h f code ∙ sym (busy-number d n pulses w at h f code)

-- what a busy chip takes changes nothing
keeps : (f : Figures) (code : ℕ) → (row_of f code).busy ≡ true → (row_of f code).turn ≡ Keep
keeps f =
    rows-ind (λ code r. r.busy ≡ true → r.turn ≡ Keep) f
    no no (λ e. no) (λ b. refl) no no no no no no (λ e. no) (λ e. no) (λ e. no) (λ e. no) (λ e. no) (λ e. no) (λ e. no) (λ e. no) (λ code. no)
  where
    no : {A : Type 0} → false ≡ true → A
    no b = absurd (false≢true b)

-- a transaction in a cycle leaves the record and every byte of the array, and no bits are missing
pub busy-stays : (d : Device) (array sent : List ℕ) (pulses : ℕ) (w : Bool) (response : List ℕ) → is_busy d.mode ≡ true
    → ((transacted d array sent pulses w response).device ≡ d) × ((transacted d array sent pulses w response).array ≡ array) × ((transacted d array sent pulses w response).answer.missing ≡ 0)
unfolding outcome_of turned missing_of
busy-stays d array sent pulses w response h =
    outcome-ind d array sent pulses w response (λ (o : Outcome). (o.device ≡ d) × (o.array ≡ array) × (o.answer.missing ≡ 0)) (λ a. (refl, refl, refl)) (λ a b. (refl, refl, refl))
    (λ a t. let k = keeps (figures_of d.part) (get_or sent 0 0) (t.busy h) in (rw k, refl, rw k))

-- ---- the line

-- RDSR alone is heard
unheard : (d : Device) → is_busy d.mode ≡ true → (f : Figures) (code : ℕ) → eqb code 0x05 ≡ false → heard d (row_of f code) ≡ false
unfolding heard
unheard d h f =
    rows-ind (λ code r. eqb code 0x05 ≡ false → heard d r ≡ false) f
    (λ e. rw h) (λ e. rw h) (λ i e. rw h) (λ e. absurd (false≢true (sym e))) (λ e. rw h) (λ e. rw h) (λ e. rw h) (λ e. rw h) (λ e. rw h) (λ e. rw h) (λ i e. rw h) (λ i e. rw h) (λ i e. rw h) (λ i e. rw h) (λ i e. rw h) (λ i e. rw h) (λ i e. rw h) (λ i e. rw h) (λ code e. refl)

-- in a cycle RDSR drives the status byte, and nothing else drives anything
pub busy-line : (d : Device) (array before : List ℕ) → is_busy d.mode ≡ true → driven d array before ≡ cond (eqb (get_or before 0 0) 0x05) (drives (status_byte d)) silent
unfolding driven by_row heard heard_row row_of
busy-line d array [] h = refl
busy-line d array (x ∷ xs) h = go (eqb x 0x05) refl
  where
    some : leb 1 (length (x ∷ xs)) ≡ true
    some = let k : 1 ≤ length (x ∷ xs) = omega arith in le-leb 1 (length (x ∷ xs)) k

    quiet : cond (leb 1 (length (x ∷ xs))) silent silent ≡ silent
    quiet = cond_ind (λ (y : Driven). y ≡ silent) (leb 1 (length (x ∷ xs))) refl refl

    go : (b : Bool) → eqb x 0x05 ≡ b → driven d array (x ∷ xs) ≡ cond b (drives (status_byte d)) silent
    go true e = rw (eqb-true x 0x05 e, h, awake d.mode h, some)
    go false e = rw (unheard d h (figures_of d.part) x e) quiet

-- whether something is driven does not depend on the latch, and so neither do first and count
driving-unread : (d : Device) (l : Bool) (array sent : List ℕ) → is_busy d.mode ≡ true → (i : ℕ) → driving_at (latched d l) array sent i ≡ driving_at d array sent i
unfolding driving_at latched
driving-unread d l array sent h i = rw (busy-line (latched d l) array (take i sent) h, busy-line d array (take i sent) h) (go (eqb (get_or (take i sent) 0 0) 0x05))
  where
    go : (b : Bool) → driving (cond b (drives (status_byte (latched d l))) silent) ≡ driving (cond b (drives (status_byte d)) silent)
    go true = refl
    go false = refl

pub span-unread : (d : Device) (l : Bool) (array sent : List ℕ) → is_busy d.mode ≡ true → (first_of (latched d l) array sent ≡ first_of d array sent) × (count_of (latched d l) array sent ≡ count_of d array sent)
unfolding first_of count_of
span-unread d l array sent h = (λ j. first_from (λ (i : ℕ). driving-unread d l array sent h i j) 0 sent, λ j. sum_at (λ (i x : ℕ). driving-unread d l array sent h i j) sent)
