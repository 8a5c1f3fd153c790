-- What a run answers, and that its promise admits one outcome only.
-- Assumes nothing.
use mathlib.Core.Path.{◌≡◌, refl, sym, ap, ◌∙◌}
use mathlib.Core.Bool.{Bool, true, false, ◌||◌, false≢true}
use mathlib.Core.List.{List, [], ◌∷◌}
use mathlib.Core.Logic.{◌⊎◌, inl, inr, ⊎_elim}
use Prim.Native.Nat.{ℕ, zero, suc, ◌≤◌, ◌<◌}
use borrow.Author.Tests.{eqb-true, eq-eqb, ne_eqb, ltb-true, ltb-false, lt-ltb, not-false}
use lib.Dec.{eqb, ltb, lit≤}
use lib.ListN.{length, take}
use Rattle.slices.specs.Changed.{map_at, window}
use Rattle.slices.proofs.Choices.{past, zero-ind}
use Rattle.memory.specs.Missing.{most_missing}
use Rattle.parts.specs.Parts.{figures_of}
use Rattle.device.specs.declared.Device.{Device}
use Rattle.device.specs.Device.{sound, on_zero}
use Rattle.chip.specs.declared.Done.{Done}
use Rattle.chip.specs.Outcome.{bare}
use Rattle.pins.specs.declared.Tally.{Tally}
use Rattle.pins.specs.Pins.{levels_of, next_taking, Seen, at_rest, step, seen_from, seen, odd_samples, too_long}
use Rattle.pins.specs.Run.{chip_after, output_at, run_answer, answer_of, Ran}
use Rattle.pins.specs.Counted.{CarriedAll}
use Rattle.pins.proofs.Carried.{missed-most}

-- no refusal: every test passed
pub record Accepted (d : Device) (array : ℕ) (samples : List ℕ) (output : ℕ) : Type 0 where
  pub sound : sound d ≡ true
  pub whole : array ≡ (figures_of d.part).bytes
  pub even : odd_samples samples ≡ false
  pub short : too_long samples ≡ false
  pub room : length samples ≤ output

pub accepted : (d : Device) (array : ℕ) (samples : List ℕ) (output : ℕ) → run_answer d array samples output ≡ 0 → Accepted d array samples output
unfolding run_answer
accepted d array samples output h =
    let p6 = past _ 5 _ h in
    let p2 = past _ 1 _ p6.1 in
    let p21 = past _ 20 _ p2.1 in
    let p22 = past _ 21 _ p21.1 in
    let p23 = past _ 22 _ p22.1 in
    record {
      sound = not-false (sound d) p6.0;
      whole = eqb-true array (figures_of d.part).bytes (not-false (eqb array (figures_of d.part).bytes) p2.0);
      even = p21.0;
      short = p22.0;
      room = ltb-false output (length samples) p23.0;
    }

-- 6, 2, 21, 22, 23, in that order: each is the answer where it applies and none before it does, whatever the rest
pub record InOrder (d : Device) (array : ℕ) (samples : List ℕ) (output : ℕ) : Type 0 where
  pub unsound : sound d ≡ false → run_answer d array samples output ≡ 6
  pub other-array : sound d ≡ true → (array ≡ (figures_of d.part).bytes → ⊥) → run_answer d array samples output ≡ 2
  pub odd : sound d ≡ true → array ≡ (figures_of d.part).bytes → odd_samples samples ≡ true → run_answer d array samples output ≡ 21
  pub long : sound d ≡ true → array ≡ (figures_of d.part).bytes → odd_samples samples ≡ false → too_long samples ≡ true → run_answer d array samples output ≡ 22
  pub no_room : sound d ≡ true → array ≡ (figures_of d.part).bytes → odd_samples samples ≡ false → too_long samples ≡ false → output < length samples → run_answer d array samples output ≡ 23

pub in_order : (d : Device) (array : ℕ) (samples : List ℕ) (output : ℕ) → InOrder d array samples output
unfolding run_answer
in_order d array samples output =
    let bytes = (figures_of d.part).bytes in
    record {
      unsound = λ s. rw s;
      other-array = λ s n. rw (s, ne_eqb array bytes n);
      odd = λ s a o. rw (s, eq-eqb array bytes a, o);
      long = λ s a o l. rw (s, eq-eqb array bytes a, o, l);
      no_room = λ s a o l r. rw (s, eq-eqb array bytes a, o, l, lt-ltb output (length samples) r);
    }

-- after some of these samples more than 65,536 bytes were taken
abbrev pub LongIn : Seen → List ℕ → Type 0
LongIn x samples = (i : ℕ) × (65536 < length (seen_from x (take i samples)).taking.sent)

long-first : (x : Seen) (s : ℕ) (samples : List ℕ) → (step x (levels_of s)).long ≡ true → (x.long ≡ true) ⊎ LongIn x (s ∷ samples)
unfolding step
long-first x s samples = go x.long (ltb 65536 (length (next_taking x.pins (levels_of s) x.taking).sent)) refl
  where
    go : (a b : Bool) → ltb 65536 (length (next_taking x.pins (levels_of s) x.taking).sent) ≡ b → a || b ≡ true → (a ≡ true) ⊎ LongIn x (s ∷ samples)
    go true b e h = inl refl
    go false b e h = inr (1, ltb-true 65536 (length (next_taking x.pins (levels_of s) x.taking).sent) (e ∙ h))

long-from : (x : Seen) (samples : List ℕ) → (seen_from x samples).long ≡ true → (x.long ≡ true) ⊎ LongIn x samples
long-from x [] h = inl h
long-from x (s ∷ samples) h = ⊎_elim (long-first x s samples) (λ l. inr (suc l.0, l.1)) (long-from (step x (levels_of s)) samples h)

-- 22 means that more than 65,536 bytes were taken after some of the samples; by `short` no such transaction is missed
pub long-means : (samples : List ℕ) → too_long samples ≡ true → LongIn at_rest samples
unfolding too_long seen at_rest
long-means samples h = ⊎_elim (λ e. absurd (false≢true e)) (λ l. l) (long-from at_rest samples h)

kept : {A : Type 0} (k : ℕ) (x y : A) → (k ≡ 0 → ⊥) → y ≡ on_zero k x y
kept zero x y n = absurd (n refl)
kept (suc k) x y n = refl

-- a number that is not 0 answers alone
pub answer-bare : (k : ℕ) (d : Device) (array samples : List ℕ) → (k ≡ 0 → ⊥) → bare k ≡ answer_of k d array samples
unfolding answer_of
answer-bare zero d array samples n = absurd (n refl)
answer-bare (suc k) d array samples n = refl

-- no answer has more than 2,048 bits missing
pub answer-few : (k : ℕ) (d : Device) (array samples : List ℕ) → (answer_of k d array samples).missing ≤ most_missing
unfolding answer_of
answer-few k d array samples = zero-ind (λ (n : ℕ). n ≤ most_missing) k (missed-most d array samples) (lit≤ tt)

-- refused: nothing changes
pub refused : (d : Device) (array samples output : List ℕ) (k : ℕ) → k ≡ run_answer d (length array) samples (length output) → (k ≡ 0 → ⊥) → {r : Done} → r.answer ≡ bare k → r.device ≡ d
    → Ran d array samples output r array output
refused d array samples output k e n a m =
    let z : run_answer d (length array) samples (length output) ≡ 0 → ⊥ = λ w. n (e ∙ w) in
    record {
      answer = a ∙ (answer-bare k d array samples n ∙ ap (λ (j : ℕ). answer_of j d array samples) e);
      device = m ∙ kept (run_answer d (length array) samples (length output)) (chip_after d array samples).device d z;
      memory = kept (run_answer d (length array) samples (length output)) (chip_after d array samples).array array z;
      shown = kept (run_answer d (length array) samples (length output)) (map_at (window 0 (length samples) (output_at d array samples)) output) output z;
    }

-- not refused
pub carried : (d : Device) (array samples output : List ℕ) → run_answer d (length array) samples (length output) ≡ 0 → {r : Tally} {array' output' : List ℕ} → CarriedAll d array samples output r array' output'
    → Ran d array samples output (record { answer = record { number = 0; first = 0; count = 0; missing = r.missing }; device = r.device }) array' output'
unfolding answer_of
carried d array samples output e c = record { answer = rw (e, c.missing); device = rw e c.device; memory = rw e c.memory; shown = rw e c.shown }

same-done : {r s : Done} → r.answer ≡ s.answer → r.device ≡ s.device → r ≡ s
same-done {r} {s} a d = λ j. record { answer = a j; device = d j }

-- the promise admits one outcome only
pub one-outcome : {d : Device} {array samples output : List ℕ} {r s : Done} {array' array'' output' output'' : List ℕ}
    → Ran d array samples output r array' output' → Ran d array samples output s array'' output'' → (r ≡ s) × (array' ≡ array'') × (output' ≡ output'')
one-outcome p q = (same-done (p.answer ∙ sym q.answer) (p.device ∙ sym q.device), p.memory ∙ sym q.memory, p.shown ∙ sym q.shown)
