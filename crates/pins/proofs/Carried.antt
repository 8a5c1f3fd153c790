-- The chip under the pins: a transaction carried out, and the one under way.
-- Assumes nothing.
use mathlib.Core.Path.{◌≡◌, refl, sym, ap, ◌∙◌}
use mathlib.Core.Bool.{Bool, true, false, cond, not, ◌&&◌, ◌||◌, false≢true}
use mathlib.Core.List.{List, [], ◌∷◌, ◌++◌}
use Prim.Native.Nat.{ℕ, ◌+◌, ◌-◌, ◌/◌, ◌%◌, ◌^◌, ◌≤◌, ◌<◌}
use native.Mathlib.Omega.{arith}
use native.Mathlib.Nat.{add-zero}
use native.Mathlib.Numerals.{add-one}
use borrow.Author.Tests.{eq-eqb, eqb-true, eqb-false}
use lib.Dec.{eqb, lit≤}
use lib.ListN.{length, get_or, take, set, length-append}
use lib.Seq.{take-suc-set}
use Rattle.memory.specs.Missing.{most_missing}
use Rattle.device.specs.declared.Device.{Device}
use Rattle.chip.specs.Line.{Driven, silent, drives, driven}
use Rattle.chip.specs.Line.{line_byte}
use Rattle.chip.specs.Events.{Event, sends, every, reply, missed}
use Rattle.chip.proofs.Lines.{driven-before, heard-laws}
use Rattle.chip.proofs.Events.{sent-room, missed-append}
use Rattle.chip.proofs.Missed.{is_sent, missed-few}
use Rattle.pins.specs.declared.levels.Levels.{Levels}
use Rattle.pins.specs.declared.underway.Bit.TheVariants.{Low, High}
use Rattle.pins.specs.declared.underway.Underway.{Underway}
use Rattle.pins.specs.Pins.{levels_of, Pins, changes, ends, takes, moves, Transaction, Shown, nothing, after, Taking, anew, shifted, bit_taken, moved_on, clocked, next_taking, next_found, Seen, step, seen}
use Rattle.pins.specs.Run.{Chip, carried_out, events_of, carried_all, chip_after, missed_in, bit_in, bit_shown}
use Rattle.pins.specs.Counted.{underway_of, none_yet, bit_now, level, bit_held, shown_on, stored, one_more, Clocked, ended_with, missed_with}
use Rattle.pins.proofs.Seen.{seen_next, unchanged}

-- ---- a transaction carried out

-- the transaction under way, were Select to rise
abbrev pub ending : Taking → Levels → Transaction
ending t now = record { sent = t.sent; pulses = t.pulses; w = now.w }

-- the bits missing in one transaction
abbrev pub missed_by : Chip → Transaction → ℕ
missed_by c t = (reply (sends t.sent t.pulses t.w) c).answer.missing

-- what the code carries out
pub ended_is : (c : Chip) (p : Pins) (now : Levels) (t : Taking) (response : List ℕ) → length t.sent ≤ length response
    → ended_with c p now t.sent t.pulses response ≡ cond (ends p now) (carried_out c (ending t now)) c
unfolding ended_with
ended_is c p now t response room = let e = sent-room c t.sent t.pulses now.w response room in rw (e.1, e.2)

-- and the bits missing in it
pub missed-is : (c : Chip) (p : Pins) (now : Levels) (t : Taking) (response : List ℕ) → length t.sent ≤ length response
    → missed_with c p now t.sent t.pulses response ≡ cond (ends p now) (missed_by c (ending t now)) 0
unfolding missed_with
missed-is c p now t response room = let e = sent-room c t.sent t.pulses now.w response room in rw e.0

pub all_append : (c : Chip) (ts us : List Transaction) → carried_all c (ts ++ us) ≡ carried_all (carried_all c ts) us
all_append c [] us = refl
all_append c (t ∷ ts) us = all_append (carried_out c t) ts us

-- transactions alone are no waits
all-send : (ts : List Transaction) → every is_sent (events_of ts) ≡ true
all-send [] = refl
all-send (t ∷ ts) = all-send ts

pub events-append : (ts us : List Transaction) → events_of (ts ++ us) ≡ events_of ts ++ events_of us
events-append [] us = refl
events-append (t ∷ ts) us = ap (λ (es : List Event). sends t.sent t.pulses t.w ∷ es) (events-append ts us)

-- the chip after one sample more
pub chip-next : (d : Device) (array samples : List ℕ) (i : ℕ) → i < length samples
    → chip_after d array (take (i + 1) samples)
    ≡ cond (ends (seen (take i samples)).pins (levels_of (get_or samples i 0))) (carried_out (chip_after d array (take i samples)) (ending (seen (take i samples)).taking (levels_of (get_or samples i 0)))) (chip_after d array (take i samples))
unfolding chip_after step next_found
chip-next d array samples i h =
    ap (λ (x : Seen). carried_all (record { device = d; array = array }) x.found) (seen_next samples i h)
    ∙ go (seen (take i samples)) (levels_of (get_or samples i 0)) (ends (seen (take i samples)).pins (levels_of (get_or samples i 0)))
  where
    go : (x : Seen) (now : Levels) (b : Bool)
        → carried_all (record { device = d; array = array }) (cond b (x.found ++ (ending x.taking now ∷ [])) x.found)
        ≡ cond b (carried_out (carried_all (record { device = d; array = array }) x.found) (ending x.taking now)) (carried_all (record { device = d; array = array }) x.found)
    go x now true = all_append (record { device = d; array = array }) x.found (ending x.taking now ∷ [])
    go x now false = refl

-- the bits missing after one sample more
pub missed-next : (d : Device) (array samples : List ℕ) (i : ℕ) → i < length samples
    → missed_in d array (take (i + 1) samples)
    ≡ missed_in d array (take i samples) + cond (ends (seen (take i samples)).pins (levels_of (get_or samples i 0))) (missed_by (chip_after d array (take i samples)) (ending (seen (take i samples)).taking (levels_of (get_or samples i 0)))) 0
unfolding missed_in chip_after step next_found
missed-next d array samples i h =
    ap (λ (x : Seen). missed (events_of x.found) c) (seen_next samples i h)
    ∙ go (seen (take i samples)) (levels_of (get_or samples i 0)) (ends (seen (take i samples)).pins (levels_of (get_or samples i 0)))
  where
    c : Chip
    c = record { device = d; array = array }

    go : (x : Seen) (now : Levels) (b : Bool)
        → missed (events_of (cond b (x.found ++ (ending x.taking now ∷ [])) x.found)) c ≡ missed (events_of x.found) c + cond b (missed_by (carried_all c x.found) (ending x.taking now)) 0
    go x now true =
        ap (λ (es : List Event). missed es c) (events-append x.found (ending x.taking now ∷ []))
        ∙ (missed-append (events_of x.found) (events_of (ending x.taking now ∷ [])) c ∙ ap (λ (n : ℕ). missed (events_of x.found) c + n) (add-zero (missed_by (carried_all c x.found) (ending x.taking now))))
    go x now false = sym (add-zero (missed (events_of x.found) c))

-- they are 2,048 at the most
pub missed-most : (d : Device) (array samples : List ℕ) → missed_in d array samples ≤ most_missing
unfolding missed_in
missed-most d array samples = missed-few (events_of (seen samples).found) (record { device = d; array = array }) (all-send (seen samples).found)

ends-changes : (a b h : Bool) → a && not b || not a && b ≡ false → not a && b && h ≡ false
ends-changes true true h e = refl
ends-changes true false h e = refl
ends-changes false true h e = absurd (false≢true (sym e))
ends-changes false false h e = refl

-- without a Select change no transaction ends
pub no_end : (p : Pins) (now : Levels) → changes p now ≡ false → ends p now ≡ false
unfolding changes ends
no_end p now e = ends-changes p.select now.select (not p.holding) e

-- else it goes by the clock
pub by-clock : (p : Pins) (now : Levels) (t : Taking) → changes p now ≡ false → next_taking p now t ≡ clocked p now t
unfolding next_taking clocked
by-clock p now t e = let u = unchanged p now e in rw (e, u.0, u.1)

-- ---- the transaction under way

-- before the first whole byte nothing is driven
pub driven-first : (d : Device) (array : List ℕ) → driven d array [] ≡ silent
driven-first d array = driven-before d array [] 0 (lit≤ tt) (heard-laws d []).coded

-- as Select changes there is none
pub none-yet : (c : Chip) → none_yet ≡ underway_of c anew
unfolding underway_of none_yet anew
none-yet c = rw (driven-first c.device c.array)

-- the level of a bit is the bit
two : (n : ℕ) → level (cond (eqb (n % 2) 1) High Low) ≡ n % 2
two n = let h : n % 2 < 2 = omega arith in go (eqb (n % 2) 1) refl
  where
    go : (b : Bool) → eqb (n % 2) 1 ≡ b → level (cond b High Low) ≡ n % 2
    go true e = let z = eqb-true (n % 2) 1 e in omega arith
    go false e = let z = eqb-false (n % 2) 1 e in omega arith

bit_is : (x : Driven) (k : ℕ) → level (bit_now (line_byte x) k) ≡ bit_in x k
bit_is silent k = refl
bit_is (drives b) k = two (b / 2 ^ (7 - k))

pub held-is : (c : Chip) (x : Shown) → level (bit_held c x) ≡ bit_shown c x
held-is c nothing = refl
held-is c (after sent k) = bit_is (driven c.device c.array sent) k

moved-on : (c : Chip) (t : Taking) → shown_on (underway_of c t) ≡ underway_of c (moved_on t)
unfolding shown_on underway_of moved_on
moved-on c t = refl

-- the eighth bit makes a byte
pub byte_more : (p : Pins) (now : Levels) (t : Taking) → takes p now ≡ true → t.pulses ≡ 7 → length (clocked p now t).sent ≡ length t.sent + 1
unfolding clocked bit_taken
byte_more p now t e f = rw (e, eq-eqb t.pulses 7 f, length-append t.sent (shifted t.register now.«data» ∷ []))

-- `sent` holds the bytes taken so far
module _ (c : Chip) (t : Taking) (sent : List ℕ) (bytes : take (length t.sent) sent ≡ t.sent) where
  -- one bit more, with the bytes as they are stored
  abbrev BitMore : Bool → Type 0
  BitMore bit = (one_more (underway_of c t) c.device c.array sent bit ≡ underway_of c (bit_taken t bit)) × (take (length (bit_taken t bit).sent) (stored sent (underway_of c t) bit) ≡ (bit_taken t bit).sent)

  bit-more : (bit : Bool) → (t.pulses ≡ 7 → length t.sent < length sent) → BitMore bit
  unfolding one_more stored underway_of bit_taken
  bit-more bit room = go (eqb t.pulses 7) refl
    where
      go : (b : Bool) → eqb t.pulses 7 ≡ b → BitMore bit
      go true e =
          let n = length t.sent in
          let r = shifted t.register bit in
          let l : length (t.sent ++ (r ∷ [])) ≡ n + 1 = length-append t.sent (r ∷ []) in
          let k : take (n + 1) (set sent n r) ≡ t.sent ++ (r ∷ []) = rw (add-one n, take-suc-set sent n r (room (eqb-true t.pulses 7 e)), bytes) in
          rw e (rw (l, k), rw (l, k))
      go false e = rw e (refl, bytes)

  -- the clock, with Select taken
  pub clock-more : (p : Pins) (now : Levels) → (takes p now ≡ true → t.pulses ≡ 7 → length t.sent < length sent) → {u : Underway} {sent' : List ℕ} → Clocked (underway_of c t) c.device c.array sent p now u sent'
      → (u ≡ underway_of c (clocked p now t)) × (take (length (clocked p now t).sent) sent' ≡ (clocked p now t).sent)
  unfolding clocked moved_on
  clock-more p now room {u} {sent'} q = go (takes p now) refl (moves p now) refl
    where
      go : (a : Bool) → takes p now ≡ a → (m : Bool) → moves p now ≡ m → (u ≡ underway_of c (clocked p now t)) × (take (length (clocked p now t).sent) sent' ≡ (clocked p now t).sent)
      go true e m f = let b = bit-more now.«data» (room e) in (q.under ∙ rw e b.0, rw (q.bytes, e) b.1)
      go false e true f = (q.under ∙ rw (e, f) (moved-on c t), rw (q.bytes, e, f) bytes)
      go false e false f = (q.under ∙ rw (e, f), rw (q.bytes, e, f) bytes)
