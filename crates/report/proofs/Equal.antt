-- THEOREM: the answers over all numbers are the transactions; the executed over all first bytes are the answers 0; the page programs over all sectors are the executed 02.
-- Assumes nothing.
use mathlib.Core.Path.{◌≡◌, refl, sym, ◌∙◌}
use mathlib.Core.Bool.{Bool, true, false, cond, ◌&&◌}
use mathlib.Core.List.{List, [], ◌∷◌, map}
use Prim.Native.Nat.{ℕ, zero, suc, ◌+◌, ◌-◌, ◌≤◌, ◌<◌}
use native.Mathlib.Omega.{arith}
use borrow.Author.Tests.{eqb-true, eqb-false, ne_eqb, lt-ltb, le-ltb}
use lib.Dec.{eqb, lit≤}
use lib.ListN.{length, get_or, take, replicate, length-take}
use lib.Seq.{get_or-take, get_or-drop}
use Rattle.slices.proofs.Choices.{cond_ind}
use Rattle.parts.specs.declared.Figures.{Figures}
use Rattle.parts.specs.Parts.{figures_of}
use Rattle.chip.specs.Table.{sector_in}
use Rattle.chip.specs.Events.{Chip, Event, sends, waits, starts, loses, sent, after}
use Rattle.chip.proofs.Rules.{Bytes, answer-few}
use Rattle.batch.specs.Items.{length_in, flag_in, first_in, items_from, event_in, events_of}
use Rattle.batch.proofs.Fits.{byte-any}
use Rattle.report.specs.Totals.{Dealt, count_of, code_of, number_of, was_executed, was_program, executed_as, answered_as, driven_in, programs_in, total_of}
use Rattle.report.specs.Report.{dealt_by, gained}
use Rattle.report.specs.Theorems.{sum_below}
use Rattle.report.proofs.Counts.{sector-few}

-- ---- one law of the three

-- of each transaction of a list
abbrev pub Each : (Dealt → Type 0) → List Dealt → Type 0
Each P [] = Unit {0}
Each P (t ∷ ts) = P t × Each P ts

sum-none : (n : ℕ) → sum_below n (λ k. 0) ≡ 0
sum-none zero = refl
sum-none (suc n) = omega (arith, sum-none n)

sum_both : (n : ℕ) (f g : ℕ → ℕ) → sum_below n (λ k. f k + g k) ≡ sum_below n f + sum_below n g
sum_both zero f g = refl
sum_both (suc n) f g = omega (arith, sum_both n f g)

-- a place beyond n is none of them
one-beyond : (n k : ℕ) → n ≤ k → sum_below n (λ j. cond (eqb k j) 1 0) ≡ 0
one-beyond zero k h = refl
one-beyond (suc n) k h = let z : eqb k n ≡ false = ne_eqb k n (λ e. omega arith) in rw z (omega (arith, one-beyond n k (omega arith)))

-- a place below n is one of them
one_place : (n k : ℕ) → k < n → sum_below n (λ j. cond (eqb k j) 1 0) ≡ 1
one_place zero k h = absurd (omega arith)
one_place (suc n) k h = go (one_place n k) (eqb k n) refl
  where
    go : (k < n → sum_below n (λ j. cond (eqb k j) 1 0) ≡ 1) → (b : Bool) → eqb k n ≡ b → sum_below n (λ j. cond (eqb k j) 1 0) + cond (eqb k n) 1 0 ≡ 1
    go before true e = let z = eqb-true k n e in rw e (omega (arith, one-beyond n k (omega arith)))
    go before false e = let z = eqb-false k n e in rw e (omega (arith, before (omega arith)))

one-test : (n : ℕ) (b : Bool) (k : ℕ) → k < n → sum_below n (λ j. cond (b && eqb k j) 1 0) ≡ cond b 1 0
one-test n true k h = one_place n k h
one-test n false k h = sum-none n

-- what passes a test, counted by places below n, is counted once
pub by-places : (n : ℕ) (test : Dealt → Bool) (place : Dealt → ℕ) (ts : List Dealt) → Each (λ t. place t < n) ts → sum_below n (λ k. count_of (λ t. test t && eqb (place t) k) ts) ≡ count_of test ts
by-places n test place [] h = sum-none n
by-places n test place (t ∷ ts) h =
    sum_both n (λ k. cond (test t && eqb (place t) k) 1 0) (λ k. count_of (λ u. test u && eqb (place u) k) ts)
    ∙ (let a = one-test n (test t) (place t) h.0 in let b = by-places n test place ts h.1 in omega arith)

count-all : (ts : List Dealt) → count_of (λ t. true) ts ≡ length ts
count-all [] = refl
count-all (t ∷ ts) = omega (arith, count-all ts)

-- ---- the three

-- a number of an answer, a first byte, a sector
pub answers-are-all : (ts : List Dealt) → Each (λ t. number_of t < 32) ts → sum_below 32 (λ k. answered_as k ts) ≡ length ts
answers-are-all ts h = by-places 32 (λ t. true) number_of ts h ∙ count-all ts

pub executed-are-zeros : (ts : List Dealt) → Each (λ t. code_of t < 256) ts → sum_below 256 (λ k. executed_as k ts) ≡ answered_as 0 ts
executed-are-zeros ts h = by-places 256 was_executed code_of ts h

pub programs-are-02 : (p : ℕ) (ts : List Dealt) → sum_below 64 (λ s. programs_in (figures_of p) s ts) ≡ executed_as 2 ts
programs-are-02 p ts = by-places 64 was_program (λ t. sector_in (figures_of p) t.sent) ts (sectors ts)
  where
    sectors : (ts : List Dealt) → Each (λ t. sector_in (figures_of p) t.sent < 64) ts
    sectors [] = tt
    sectors (t ∷ ts) = (sector-few p t.sent, sectors ts)

-- ---- the numbers in their order

module _ (f : Figures) (ts : List Dealt) where
  pub total-executed : (k : ℕ) → k < 256 → total_of f ts k ≡ executed_as k ts
  total-executed k h = rw (lt-ltb k 256 h)

  pub total-answered : (k : ℕ) → k < 32 → total_of f ts (256 + k) ≡ answered_as k ts
  total-answered k h = let z : 256 + k - 256 ≡ k = omega arith in rw (le-ltb (256 + k) 256 (omega arith), lt-ltb (256 + k) 288 (omega arith), z)

  pub total-driven : total_of f ts 288 ≡ driven_in ts
  total-driven = refl

  pub total-programs : (s : ℕ) → total_of f ts (289 + s) ≡ programs_in f s ts
  total-programs s =
      let z : 289 + s - 289 ≡ s = omega arith in
      rw (le-ltb (289 + s) 256 (omega arith), le-ltb (289 + s) 288 (omega arith), le-ltb (289 + s) 289 (omega arith), z)

sum-agree : (n : ℕ) (f g : ℕ → ℕ) → ((k : ℕ) → k < n → f k ≡ g k) → sum_below n f ≡ sum_below n g
sum-agree zero f g h = refl
sum-agree (suc n) f g h = omega (arith, sum-agree n f g (λ k lt. h k (omega arith)), h n (omega arith))

-- ---- those of a batch

-- an answer has one of the numbers below 32
numbered : (es : List Event) (c : Chip) → Each (λ t. number_of t < 32) (dealt_by es c)
unfolding sent
numbered [] c = tt
numbered (sends bytes p w ∷ es) c = (omega (arith, (answer-few c.device c.array bytes p w (replicate (length bytes) 0)).number), numbered es (after (sends bytes p w) c))
numbered (waits t ∷ es) c = numbered es (after (waits t) c)
numbered (starts ∷ es) c = numbered es (after starts c)
numbered (loses mask told ∷ es) c = numbered es (after (loses mask told) c)

-- an event that begins with a byte, if it sends any
abbrev Coded : Event → Type 0
Coded (sends bytes p w) = get_or bytes 0 0 < 256
Coded (waits t) = Unit {0}
Coded starts = Unit {0}
Coded (loses mask told) = Unit {0}

abbrev AllCoded : List Event → Type 0
AllCoded [] = Unit {0}
AllCoded (e ∷ es) = Coded e × AllCoded es

coded : (es : List Event) (c : Chip) → AllCoded es → Each (λ t. code_of t < 256) (dealt_by es c)
coded [] c h = tt
coded (sends bytes p w ∷ es) c h = (h.0, coded es (after (sends bytes p w) c) h.1)
coded (waits t ∷ es) c h = coded es (after (waits t) c) h.1
coded (starts ∷ es) c h = coded es (after starts c) h.1
coded (loses mask told ∷ es) c h = coded es (after (loses mask told) c) h.1

taken-bytes : (n : ℕ) (xs : List ℕ) → Bytes xs → Bytes (take n xs)
taken-bytes n xs b i h = let l = length-take n xs in rw (get_or-take n xs i 0 (omega arith)) (b i (omega arith))

item-coded : (i : List ℕ) → Bytes i → Coded (event_in i)
unfolding event_in
item-coded i b = cond_ind Coded (eqb (flag_in i) 16) tt (rw (get_or-drop 3 i 0 0) (byte-any i b 3))

items-coded : (xs : List ℕ) (k : ℕ) → Bytes xs → AllCoded (map event_in (items_from xs k))
unfolding items_from first_in
items-coded [] k b = tt
items-coded (x ∷ xs) (suc k) b = items-coded xs k (λ i lt. b (suc i) (omega arith))
items-coded (x ∷ xs) zero b = (item-coded _ (taken-bytes (3 + length_in (x ∷ xs)) (x ∷ xs) b), items-coded xs (2 + length_in (x ∷ xs)) (λ i lt. b (suc i) (omega arith)))

-- what a batch adds to the totals
pub record Equals (es : List Event) (c : Chip) : Type 0 where
  -- the sum of the answers is the number of transactions
  pub all : sum_below 32 (λ k. gained es c (256 + k)) ≡ length (dealt_by es c)
  -- the sum of the executed is the answer 0's total
  pub zeros : sum_below 256 (gained es c) ≡ gained es c 256
  -- the page programs over all sectors are code 02's total
  pub programs : sum_below 64 (λ s. gained es c (289 + s)) ≡ gained es c 2

-- THEOREM: of every batch
pub totals-equal : (items : List ℕ) → Bytes items → (c : Chip) → Equals (events_of items) c
totals-equal items b c =
    let es = events_of items in
    let f = figures_of c.device.part in
    let ts = dealt_by es c in
    record {
      all = sum-agree 32 (λ k. gained es c (256 + k)) (λ k. answered_as k ts) (total-answered f ts) ∙ answers-are-all ts (numbered es c);
      zeros = sum-agree 256 (gained es c) (λ k. executed_as k ts) (total-executed f ts) ∙ (executed-are-zeros ts (coded es c (items-coded items 0 b)) ∙ sym (total-answered f ts 0 (lit≤ tt)));
      programs = sum-agree 64 (λ s. gained es c (289 + s)) (λ s. programs_in f s ts) (λ s h. total-programs f ts s) ∙ (programs-are-02 c.device.part ts ∙ sym (total-executed f ts 2 (lit≤ tt)));
    }
