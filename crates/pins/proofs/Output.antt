-- The output within a transaction: it changes as Select changes and as the clock falls, and shows what the chip drives.
-- Assumes nothing.
use mathlib.Core.Path.{◌≡◌, refl, ap, ◌∙◌}
use mathlib.Core.Bool.{Bool, true, false, cond, ◌||◌}
use mathlib.Core.List.{List, [], ◌∷◌, ◌++◌}
use Prim.Native.Nat.{ℕ, ◌/◌, ◌%◌, ◌^◌, ◌-◌, ◌≤◌, ◌<◌}
use native.Mathlib.Nat.{mod-lt}
use native.Mathlib.Omega.{arith}
use lib.Dec.{eqb, lit≤, lit<}
use lib.ListN.{length, take}
use lib.Seq.{take-length}
use Rattle.slices.proofs.Choices.{cond_ind}
use Rattle.device.specs.declared.Device.{Device}
use Rattle.chip.specs.Line.{Driven, silent, drives, driven}
use Rattle.pins.specs.declared.levels.Levels.{Levels}
use Rattle.pins.specs.Pins.{levels_of, Pins, on_select, on_clock, on_hold, next_pins, changes, takes, moves, Shown, nothing, after, Taking, anew, bit_taken, moved_on, clocked, next_taking, next_found, Seen, at_rest, step, seen_from, seen}
use Rattle.pins.specs.Counted.{bits_taken}
use Rattle.pins.specs.Run.{Chip, chip_after, bit_in, bit_shown, output_of, output_after}
use Rattle.pins.proofs.Seen.{from-append, same-level, moves-takes, few-pulses}
use Rattle.pins.proofs.Carried.{no_end, by-clock, driven-first}

-- ---- the bits taken

-- the first m / 8 bytes are the whole ones, and m % 8 are the further pulses
whole-bytes : (t : Taking) → t.pulses < 8 → (take (bits_taken t / 8) t.sent ≡ t.sent) × (bits_taken t % 8 ≡ t.pulses)
whole-bytes t h =
    let e : bits_taken t / 8 ≡ length t.sent = omega arith in
    (rw e (take-length t.sent), omega arith)

-- ---- samples in which the output does not change

-- Select stays, and the clock does not fall outside a hold
abbrev pub Still : Seen → List ℕ → Type 0
Still x [] = Unit
Still x (s ∷ samples) = (changes x.pins (levels_of s) ≡ false) × (moves x.pins (levels_of s) ≡ false) × Still (step x (levels_of s)) samples

moved : (p : Pins) (now : Levels) (t : Taking) → moves p now ≡ true → clocked p now t ≡ moved_on t
unfolding clocked
moved p now t m = rw (moves-takes p now m, m)

anew-silent : (c : Chip) (p : Pins) (now : Levels) → bit_shown c (clocked p now anew).shown ≡ 2
unfolding clocked bit_taken moved_on anew
anew-silent c p now =
    cond_ind (λ (t : Taking). bit_shown c t.shown ≡ 2) (takes p now) refl (cond_ind (λ (t : Taking). bit_shown c t.shown ≡ 2) (moves p now) (rw (driven-first c.device c.array)) refl)

record Same (x y : Seen) : Type 0 where
  shown : y.taking.shown ≡ x.taking.shown
  found : y.found ≡ x.found
  select : y.pins.select ≡ x.pins.select

shown-kept : (p : Pins) (now : Levels) (t : Taking) → moves p now ≡ false → (clocked p now t).shown ≡ t.shown
unfolding clocked bit_taken
shown-kept p now t h =
    cond_ind (λ (u : Taking). u.shown ≡ t.shown) (takes p now) (cond_ind (λ (u : Taking). u.shown ≡ t.shown) (eqb t.pulses 7) refl refl) (rw h)

select-is : (p : Pins) (now : Levels) → changes p now ≡ false → (next_pins p now).select ≡ p.select
unfolding next_pins on_hold on_clock on_select changes
select-is p now h = (same-level p.select now.select h).0

still-step : (x : Seen) (now : Levels) → changes x.pins now ≡ false → moves x.pins now ≡ false → Same x (step x now)
unfolding step next_found
still-step x now e m =
    record {
      shown = ap (λ (t : Taking). t.shown) (by-clock x.pins now x.taking e) ∙ shown-kept x.pins now x.taking m;
      found = rw (no_end x.pins now e);
      select = select-is x.pins now e;
    }

still-same : (x : Seen) (samples : List ℕ) → Still x samples → Same x (seen_from x samples)
still-same x [] h = record { shown = refl; found = refl; select = refl }
still-same x (s ∷ samples) h =
    let a = still-step x (levels_of s) h.0 h.1 in
    let b = still-same (step x (levels_of s)) samples h.2 in
    record { shown = b.shown ∙ a.shown; found = b.found ∙ a.found; select = b.select ∙ a.select }

no_found : (x : Seen) (now : Levels) → changes x.pins now ≡ false → (step x now).found ≡ x.found
unfolding step next_found
no_found x now e = rw (no_end x.pins now e)

select-next : (x : Seen) (now : Levels) → changes x.pins now ≡ false → (step x now).pins.select ≡ x.pins.select
unfolding step
select-next x now e = select-is x.pins now e

fall-sets : (x : Seen) (now : Levels) → changes x.pins now ≡ false → moves x.pins now ≡ true → (step x now).taking.shown ≡ after x.taking.sent x.taking.pulses
unfolding step moved_on
fall-sets x now e m =
    ap (λ (t : Taking). t.shown) (by-clock x.pins now x.taking e ∙ moved x.pins now x.taking m)

-- as Select changes nothing shows
begins-silent : (c : Chip) (x : Seen) (now : Levels) → changes x.pins now ≡ true → bit_shown c (step x now).taking.shown ≡ 2
unfolding step next_taking
begins-silent c x now e = rw e (anew-silent c (on_select x.pins now) now)

bit-few : (x : Driven) (k : ℕ) → bit_in x k ≤ 2
bit-few silent k = lit≤ tt
bit-few (drives b) k = let h = mod-lt (b / 2 ^ (7 - k)) {m = 2} (lit< tt) in omega arith

shown-few : (c : Chip) (x : Shown) → bit_shown c x ≤ 2
shown-few c nothing = lit≤ tt
shown-few c (after sent k) = bit-few (driven c.device c.array sent) k

-- ---- the output

module _ (d : Device) (array samples : List ℕ) (s : ℕ) (more : List ℕ) where
  abbrev before : Seen
  before = seen samples

  abbrev next : Seen
  next = step before (levels_of s)

  abbrev last : Seen
  last = seen (samples ++ (s ∷ more))

  last-is : last ≡ seen_from next more
  unfolding seen
  last-is = from-append at_rest samples (s ∷ more)

  module _ (still : Still next more) where
    same : Same next last
    same = rw last-is (still-same next more still)

    -- after a fall of the clock outside a hold, with m bits taken, and as long as nothing changes it, the output is bit 7 - m % 8 of what is driven after the first m / 8 bytes, or 2 where that is nothing; in a hold it is 2
    pub fall-shows : before.pins.select ≡ false → changes before.pins (levels_of s) ≡ false → moves before.pins (levels_of s) ≡ true
        → output_after d array (samples ++ (s ∷ more))
        ≡ cond last.pins.holding 2
        (bit_in (driven (chip_after d array samples).device (chip_after d array samples).array (take (bits_taken before.taking / 8) before.taking.sent)) (bits_taken before.taking % 8))
    unfolding output_after output_of chip_after
    fall-shows low e m =
        let f : last.found ≡ before.found = same.found ∙ found-same e in
        let l : last.pins.select ≡ false = same.select ∙ (select-next before (levels_of s) e ∙ low) in
        let k : last.taking.shown ≡ after before.taking.sent before.taking.pulses = same.shown ∙ shown-now e m in
        let w = whole-bytes before.taking (few-pulses samples) in
        rw (f, l, k, w.0, w.1)
      where
        found-same : changes before.pins (levels_of s) ≡ false → next.found ≡ before.found
        found-same e = no_found before (levels_of s) e

        shown-now : changes before.pins (levels_of s) ≡ false → moves before.pins (levels_of s) ≡ true → next.taking.shown ≡ after before.taking.sent before.taking.pulses
        shown-now e m = fall-sets before (levels_of s) e m

    -- after a Select change, and as long as nothing changes it, the output is 2
    pub change-silences : changes before.pins (levels_of s) ≡ true → output_after d array (samples ++ (s ∷ more)) ≡ 2
    unfolding output_after output_of
    change-silences e =
        let k : bit_shown (chip_after d array (samples ++ (s ∷ more))) last.taking.shown ≡ 2 = rw same.shown (begins-silent (chip_after d array (samples ++ (s ∷ more))) before (levels_of s) e) in
        two (last.pins.select || last.pins.holding) k
      where
        two : {n : ℕ} (b : Bool) → n ≡ 2 → cond b 2 n ≡ 2
        two true h = refl
        two false h = h

-- with Select high, or in a hold, the output is 2
pub silent-high : (d : Device) (array samples : List ℕ) → (seen samples).pins.select ≡ true → output_after d array samples ≡ 2
unfolding output_after output_of
silent-high d array samples e = rw e

pub silent-held : (d : Device) (array samples : List ℕ) → (seen samples).pins.holding ≡ true → output_after d array samples ≡ 2
unfolding output_after output_of
silent-held d array samples e = rw e (either (seen samples).pins.select (bit_shown (chip_after d array samples) (seen samples).taking.shown))
  where
    either : (b : Bool) (n : ℕ) → cond (b || true) 2 n ≡ 2
    either true n = refl
    either false n = refl

-- an output byte is 0, 1 or 2
pub output-few : (d : Device) (array samples : List ℕ) → output_after d array samples ≤ 2
unfolding output_after output_of
output-few d array samples = cond_ind (λ (n : ℕ). n ≤ 2) ((seen samples).pins.select || (seen samples).pins.holding) (lit≤ tt) (shown-few (chip_after d array samples) (seen samples).taking.shown)
