-- The pins alone: one sample more, and what holds after any samples.
-- Assumes nothing.
use mathlib.Core.Path.{◌≡◌, refl, sym, ap, ◌∙◌}
use mathlib.Core.Bool.{Bool, true, false, cond, not, ◌&&◌, ◌||◌, false≢true}
use mathlib.Core.List.{List, [], ◌∷◌, ◌++◌}
use Prim.Native.Nat.{ℕ, ◌+◌, ◌≤◌, ◌<◌}
use native.Mathlib.Numerals.{add-one}
use native.Mathlib.Omega.{arith}
use borrow.Author.Tests.{eqb-true, eqb-false, ltb-true, ltb-false, le-leb, lt-leb}
use lib.Dec.{eqb, ltb, leb, lit<, lit≤}
use lib.ListN.{length, get_or, take, drop, length-append, take-append-drop}
use lib.Seq.{drop-cons, take-suc}
use Rattle.std.specs.List.{list_any}
use Rattle.slices.proofs.Choices.{cond_ind, cond-case}
use Rattle.pins.specs.declared.levels.Levels.{Levels}
use Rattle.pins.specs.Pins.{levels_of, Pins, rest, on_select, on_clock, on_hold, next_pins, changes, takes, moves, Taking, anew, shifted, bit_taken, moved_on, clocked, next_taking, Seen, at_rest, step, seen_from, seen, too_long, odd_from, odd_samples}
use Rattle.pins.specs.declared.levels.Kept.{Kept}
use Rattle.pins.specs.Counted.{pins_of, pins_after, bits_taken, next_count}

-- ---- one sample more

-- 25 has Select, W and Hold high: before the first sample the pins are as after it
pub kept-rest : pins_after 25 false ≡ rest
unfolding pins_after levels_of rest
kept-rest = refl

-- of the pins after a sample, that byte and whether there is a hold say all
pub kept-after : (k : Kept) (q : Pins) (s : ℕ) {now : Levels} → q.select ≡ now.select → pins_of k ≡ on_hold (on_clock q now) now → now ≡ levels_of s → pins_after s k.holding ≡ pins_of k
unfolding pins_after pins_of on_hold on_clock
kept-after k q s {now} t e n =
    let a = ap (λ (p : Pins). p.select) e in
    let b = ap (λ (p : Pins). p.clock) e in
    let d = ap (λ (p : Pins). p.hold) e in
    rw (a, b, d, t, ← n) refl

pub from-append : (x : Seen) (xs ys : List ℕ) → seen_from x (xs ++ ys) ≡ seen_from (seen_from x xs) ys
from-append x [] ys = refl
from-append x (s ∷ xs) ys = from-append (step x (levels_of s)) xs ys

pub seen_next : (samples : List ℕ) (i : ℕ) → i < length samples → seen (take (i + 1) samples) ≡ step (seen (take i samples)) (levels_of (get_or samples i 0))
unfolding seen
seen_next samples i h =
    ap (λ (xs : List ℕ). seen_from at_rest xs) (ap (λ (k : ℕ). take k samples) (add-one i) ∙ take-suc samples i 0 h)
    ∙ from-append at_rest (take i samples) (get_or samples i 0 ∷ [])

ind-from : (P : Seen → Type 0) → ((x : Seen) (now : Levels) → P x → P (step x now)) → (x : Seen) → P x → (samples : List ℕ) → P (seen_from x samples)
ind-from P s x h [] = h
ind-from P s x h (y ∷ samples) = ind-from P s (step x (levels_of y)) (s x (levels_of y) h) samples

-- what holds at rest, and after a sample if before it, holds after any samples
pub seen-ind : (P : Seen → Type 0) → P at_rest → ((x : Seen) (now : Levels) → P x → P (step x now)) → (samples : List ℕ) → P (seen samples)
unfolding seen
seen-ind P h s samples = ind-from P s at_rest h samples

-- ---- a Select change

pub same-level : (a b : Bool) → a && not b || not a && b ≡ false → (b ≡ a) × (a && not b ≡ false)
same-level true true e = (refl, refl)
same-level true false e = absurd (false≢true (sym e))
same-level false true e = absurd (false≢true (sym e))
same-level false false e = (refl, refl)

-- without one, taking Select changes nothing for the clock
pub unchanged : (p : Pins) (now : Levels) → changes p now ≡ false → (takes (on_select p now) now ≡ takes p now) × (moves (on_select p now) now ≡ moves p now)
unfolding changes on_select takes moves
unchanged p now h = let e = same-level p.select now.select h in (rw (e.1, e.0), rw (e.1, e.0))

-- where Select stays, nothing is to be taken
pub stays : (p : Pins) (now : Levels) → changes p now ≡ false → p ≡ on_select p now
unfolding changes on_select
stays p now h = let e = same-level p.select now.select h in rw (e.1, e.0)

-- with Select taken it is as in the sample
pub select-taken : (k : Kept) (q : Pins) (now : Levels) → pins_of k ≡ on_select q now → pins_of (record { select = now.select; clock = k.clock; hold = k.hold; holding = k.holding }) ≡ on_select q now
unfolding pins_of on_select
select-taken k q now e = λ j. record { select = now.select; clock = (e j).clock; hold = (e j).hold; holding = (e j).holding }

aside : (s h a : Bool) → s || h ≡ true → not s && not h && a ≡ false
aside true h a e = refl
aside false true a e = refl
aside false false a e = absurd (false≢true e)

-- with Select high, or in a hold, the clock does nothing
pub clock-aside : (k : Kept) (now : Levels) → k.select || k.holding ≡ true → (takes (pins_of k) now ≡ false) × (moves (pins_of k) now ≡ false)
unfolding pins_of takes moves
clock-aside k now e = (aside k.select k.holding (not k.clock && now.clock) e, aside k.select k.holding (k.clock && not now.clock) e)

exclusive : (s h a b : Bool) → s && h && (a && not b) ≡ true → s && h && (not a && b) ≡ false
exclusive true true true true e = refl
exclusive true true true false e = refl
exclusive true true false true e = absurd (false≢true e)
exclusive true true false false e = refl
exclusive true false a b e = refl
exclusive false h a b e = refl

-- the clock does not both fall and rise
pub moves-takes : (p : Pins) (now : Levels) → moves p now ≡ true → takes p now ≡ false
unfolding moves takes
moves-takes p now h = exclusive (not p.select) (not p.holding) p.clock now.clock h

-- ---- the bits taken

-- each bit counts once
pub one-taken : (t : Taking) (bit : Bool) → bits_taken (bit_taken t bit) ≡ bits_taken t + 1
unfolding bit_taken
one-taken t bit =
    cond-case (λ (u : Taking). bits_taken u ≡ bits_taken t + 1) (eqb t.pulses 7)
    (λ e. let k = eqb-true t.pulses 7 e in omega (arith, length-append t.sent (shifted t.register bit ∷ [])))
    (λ e. omega arith)

count-begun : (b : Bool) (t : Taking) → cond b 0 (bits_taken t) ≡ bits_taken (cond b anew t)
unfolding anew
count-begun true t = refl
count-begun false t = refl

count-moved : (t : Taking) → bits_taken t ≡ bits_taken (moved_on t)
unfolding moved_on
count-moved t = refl

pub count_next : (p : Pins) (now : Levels) (t : Taking) → next_count (bits_taken t) p now ≡ bits_taken (next_taking p now t)
unfolding next_count next_taking clocked
count_next p now t = go (changes p now) (takes (on_select p now) now) (moves (on_select p now) now)
  where
    go : (a b m : Bool) → cond b (cond a 0 (bits_taken t) + 1) (cond a 0 (bits_taken t)) ≡ bits_taken (cond b (bit_taken (cond a anew t) now.«data») (cond m (moved_on (cond a anew t)) (cond a anew t)))
    go a true m = rw (count-begun a t) (sym (one-taken (cond a anew t) now.«data»))
    go a false true = count-begun a t ∙ count-moved (cond a anew t)
    go a false false = count-begun a t

-- 65,537 whole bytes are 524,296 bits
pub long-bits : (t : Taking) → t.pulses < 8 → leb 524296 (bits_taken t) ≡ ltb 65536 (length t.sent)
long-bits t h = go (ltb 65536 (length t.sent)) refl
  where
    go : (b : Bool) → ltb 65536 (length t.sent) ≡ b → leb 524296 (bits_taken t) ≡ b
    go true e = let k = ltb-true 65536 (length t.sent) e in le-leb 524296 (bits_taken t) (omega arith)
    go false e = let k = ltb-false 65536 (length t.sent) e in lt-leb 524296 (bits_taken t) (omega arith)

-- ---- what holds after any samples

few_bits : (t : Taking) (bit : Bool) → t.pulses < 8 → (bit_taken t bit).pulses < 8
unfolding bit_taken
few_bits t bit h =
    cond-case (λ (u : Taking). u.pulses < 8) (eqb t.pulses 7) (λ e. lit< tt) (λ e. let n = eqb-false t.pulses 7 e in omega arith)

few-clocked : (p : Pins) (now : Levels) (t : Taking) → t.pulses < 8 → (clocked p now t).pulses < 8
unfolding clocked moved_on
few-clocked p now t h = cond_ind (λ (u : Taking). u.pulses < 8) (takes p now) (few_bits t now.«data» h) (cond_ind (λ (u : Taking). u.pulses < 8) (moves p now) h h)

-- as Select changes there are none
pub few-begun : (b : Bool) (t : Taking) → t.pulses < 8 → (cond b anew t).pulses < 8
unfolding anew
few-begun b t h = cond_ind (λ (u : Taking). u.pulses < 8) b (lit< tt) h

pub few-next : (p : Pins) (now : Levels) (t : Taking) → t.pulses < 8 → (next_taking p now t).pulses < 8
unfolding next_taking
few-next p now t h = few-clocked (on_select p now) now (cond (changes p now) anew t) (few-begun (changes p now) t h)

-- fewer than eight further pulses
pub few-pulses : (samples : List ℕ) → (seen samples).taking.pulses < 8
unfolding at_rest anew step
few-pulses samples = seen-ind (λ (x : Seen). x.taking.pulses < 8) (lit< tt) (λ x now h. few-next x.pins now x.taking h) samples

-- the register holds a byte
pub shift-few : (r : ℕ) (bit : Bool) → shifted r bit < 256
unfolding shifted
shift-few r bit = cond_ind (λ (n : ℕ). n < 256) bit (omega arith) (omega arith)

pub neither : (a b : Bool) → a || b ≡ false → (a ≡ false) × (b ≡ false)
neither true b e = absurd (false≢true (sym e))
neither false b e = (refl, e)

long-stays : (x : Seen) (samples : List ℕ) → (seen_from x samples).long ≡ false → x.long ≡ false
unfolding step
long-stays x [] h = h
long-stays x (s ∷ samples) h = (neither x.long (ltb 65536 (length (next_taking x.pins (levels_of s) x.taking).sent)) (long-stays (step x (levels_of s)) samples h)).0

-- where no transaction is above 65,536 bytes, none is at any moment
pub short : (samples : List ℕ) (i : ℕ) → too_long samples ≡ false → length (seen (take i samples)).taking.sent ≤ 65536
unfolding too_long seen step at_rest anew
short samples i h =
    seen-ind (λ (x : Seen). x.long ≡ false → length x.taking.sent ≤ 65536) (λ e. lit≤ tt)
    (λ x now p e. ltb-false 65536 (length (next_taking x.pins now x.taking).sent) (neither x.long (ltb 65536 (length (next_taking x.pins now x.taking).sent)) e).1) (take i samples)
    (long-stays (seen (take i samples)) (drop i samples) (ap (λ (x : Seen). x.long) (sym (from-append at_rest (take i samples) (drop i samples)) ∙ ap (λ (xs : List ℕ). seen_from at_rest xs) (take-append-drop i samples)) ∙ h))

-- the test of bits 5 to 7, one sample more
pub odd-next : (odd : Bool) (samples : List ℕ) (i : ℕ) → i < length samples → odd_from odd (drop i samples) ≡ odd_from (odd || leb 32 (get_or samples i 0)) (drop (i + 1) samples)
odd-next odd samples i h = rw (drop-cons samples i 0 h, add-one i)

odd-or : (odd : Bool) (samples : List ℕ) → odd_from odd samples ≡ odd || list_any (leb 32) samples
odd-or true [] = refl
odd-or false [] = refl
odd-or true (s ∷ samples) = odd-or true samples
odd-or false (s ∷ samples) = odd-or (leb 32 s) samples

pub odd_any : (samples : List ℕ) → list_any (leb 32) samples ≡ odd_samples samples
unfolding odd_samples
odd_any samples = sym (odd-or false samples)

-- what the code holds after i samples while it looks for a transaction above 65,536 bytes
pub record Counting (samples : List ℕ) (i : ℕ) (p : Pins) (n : ℕ) (l : Bool) : Type 0 where
  pub pins : p ≡ (seen (take i samples)).pins
  pub count : n ≡ bits_taken (seen (take i samples)).taking
  pub long : l ≡ (seen (take i samples)).long
  pub few : n ≤ i

pub counting-first : (samples : List ℕ) → Counting samples 0 rest 0 false
unfolding seen at_rest anew
counting-first samples = record { pins = refl; count = refl; long = refl; few = lit≤ tt }

count-few : (n : ℕ) (p : Pins) (now : Levels) → next_count n p now ≤ n + 1
unfolding next_count
count-few n p now = go (takes (on_select p now) now) (changes p now)
  where
    go : (a b : Bool) → cond a (cond b 0 n + 1) (cond b 0 n) ≤ n + 1
    go true true = omega arith
    go true false = omega arith
    go false true = omega arith
    go false false = omega arith

pub counting-next : (samples : List ℕ) (i : ℕ) → i < length samples → {p p' : Pins} {n : ℕ} {l : Bool} {now : Levels} {n' : ℕ}
    → now ≡ levels_of (get_or samples i 0) → n' ≡ next_count n p now → p' ≡ next_pins p now → Counting samples i p n l → Counting samples (i + 1) p' n' (l || leb 524296 n')
unfolding step
counting-next samples i h {p} {p'} {n} {l} {now} {n'} en ec ep k =
    let x = seen (take i samples) in
    let s : seen (take (i + 1) samples) ≡ step x now = seen_next samples i h ∙ ap (step x) (sym en) in
    let c : n' ≡ bits_taken (next_taking x.pins now x.taking) = ec ∙ (rw (k.count, k.pins) (count_next x.pins now x.taking)) in
    record {
      pins = rw (s, ep, k.pins);
      count = rw s c;
      long = rw (s, c, k.long, long-bits (next_taking x.pins now x.taking) (few-next x.pins now x.taking (few-pulses (take i samples))));
      few = omega (arith, count-few n p now, k.few);
    }
