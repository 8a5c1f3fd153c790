-- Laws of `specs/Missing.antt`: what a latch that is all 00 at first counts, how many bits can be missing, and which slots the data reaches.
-- Assumes nothing.
use mathlib.Core.Path.{◌≡◌, refl, sym, ap, ap₂, ◌∙◌}
use mathlib.Core.Bool.{Bool, true, false, cond, ◌||◌, false≢true}
use mathlib.Core.List.{List, [], ◌∷◌}
use Prim.Native.Nat.{ℕ, zero, suc, ◌+◌, ◌-◌, ◌*◌, ◌/◌, ◌%◌, ◌≤◌, ◌<◌}
use native.Mathlib.Nat.{add-zero, zero-add, add-suc, suc-add}
use native.Mathlib.Omega.{arith}
use borrow.Author.Tests.{eq-eqb}
use lib.Dec.{eqb, lit≤}
use lib.ListN.{length, get_or, drop, replicate, length-take, length-replicate, get_or-replicate}
use lib.Seq.{get_or-take, get_or-drop}
use lib.Bits.{bit_and, and_le_r, and_zero_l}
use lib.Count.{ones, ones-le}
use Rattle.std.specs.List.{sum_by, zip}
use Rattle.std.proofs.lemmas.List.Sums.{sum_by-cons, sum_by-le}
use Rattle.std.proofs.lemmas.Slice.Zip.{length-zip}
use Rattle.slices.specs.Changed.{sum_from, sum_at}
use Rattle.slices.proofs.Sums.{sum-agree, sum-le, zeros-sum}
use Rattle.slices.proofs.Choices.{cond_ind}
use Rattle.memory.specs.Memory.{filled, reached, landed}
use Rattle.memory.specs.Missing.{unmet, missing_at, missing, page_of, most_missing}
use Rattle.memory.proofs.Laws.{filled-slot, not-reached}

-- ---- what the code counts

-- a slot that a data byte reached holds it, whatever it held
reached-any : (at : ℕ) (s : List ℕ) (j h k : ℕ) → reached at s j ≡ true → landed at s j h ≡ landed at s j k
unfolding reached landed
reached-any at [] j h k e = absurd (false≢true e)
reached-any at (b ∷ s) j h k e = go (eqb (at % 256) j) e (reached-any (at + 1) s j h k)
  where
    go : (t : Bool) → t || reached (at + 1) s j ≡ true → (reached (at + 1) s j ≡ true → landed (at + 1) s j h ≡ landed (at + 1) s j k)
        → landed (at + 1) s j (cond t b h) ≡ landed (at + 1) s j (cond t b k)
    go true e ih = refl
    go false e ih = ih e

nothing : (x : ℕ) → unmet 0 x ≡ 0
unfolding ones
nothing x = rw (and_zero_l (255 - x))

-- a latch that is all 00 at first wants nothing where no data byte went
wanted-is : (at : ℕ) (s : List ℕ) (j x : ℕ) → j < 256 → unmet (get_or (filled (replicate 256 0) at s) j 0) x ≡ missing_at at s j x
unfolding missing_at
wanted-is at s j x h =
    rw (filled-slot (replicate 256 0) at s j 0 (length-replicate {A = ℕ} 256 0), get_or-replicate {A = ℕ} 256 j 0 0 h)
    (go (reached at s j) (reached-any at s j 0 255) (not-reached at s j 0))
  where
    go : (t : Bool) → (t ≡ true → landed at s j 0 ≡ landed at s j 255) → (t ≡ false → landed at s j 0 ≡ 0)
        → unmet (landed at s j 0) x ≡ cond t (unmet (landed at s j 255) x) 0
    go true p q = rw (p refl)
    go false p q = rw (q refl) (nothing x)

pub missing-is : (at : ℕ) (s page : List ℕ) → length page ≤ 256 → sum_at (λ k x. unmet (get_or (filled (replicate 256 0) at s) k 0) x) page ≡ missing at s page
unfolding missing
missing-is at s page few = sum-agree _ _ page (λ i x l. wanted-is at s i x (omega arith))

-- slots and the bytes of a page, pair by pair: where there is no slot, nothing is wanted
pairs-from : (k : ℕ) (all slots page : List ℕ) → ((j : ℕ) → get_or slots j 0 ≡ get_or all (k + j) 0) → sum_by (λ p. unmet p.0 p.1) (zip slots page) ≡ sum_from k (λ i x. unmet (get_or all i 0) x) page
pairs-from k all [] page h = sym (zeros-sum k (λ i x. unmet (get_or all i 0) x) page (λ i l. rw (← h i) (nothing (get_or page i 0))))
pairs-from k all (s ∷ slots) [] h = refl
pairs-from k all (s ∷ slots) (x ∷ page) h =
    let e : get_or all k 0 ≡ s = rw (← add-zero k) (sym (h 0)) in
    sum_by-cons (λ p. unmet p.0 p.1) (s, x) (zip slots page)
    ∙ ap₂ (λ (a b : ℕ). unmet a x + b) (sym e) (pairs-from (suc k) all slots page (λ j. h (suc j) ∙ ap (λ (i : ℕ). get_or all i 0) (add-suc k j ∙ sym (suc-add k j))))

pub pairs-unmet : (slots page : List ℕ) → sum_by (λ p. unmet p.0 p.1) (zip slots page) ≡ sum_at (λ k x. unmet (get_or slots k 0) x) page
unfolding sum_at
pairs-unmet slots page = pairs-from 0 slots slots page (λ j. ap (λ (i : ℕ). get_or slots i 0) (sym (zero-add j)))

-- ---- the page

-- it has 256 bytes at the most
pub page-few : (at : ℕ) (xs : List ℕ) → length (page_of at xs) ≤ 256
unfolding page_of
page-few at xs = let e = length-take 256 (drop (at / 256 * 256) xs) in omega arith

-- byte k of the page is the array's, where it is there
pub page-byte : (at : ℕ) (xs : List ℕ) (k : ℕ) → k < 256 → get_or (page_of at xs) k 0 ≡ get_or xs (at / 256 * 256 + k) 0
unfolding page_of
page-byte at xs k h = get_or-take 256 (drop (at / 256 * 256) xs) k 0 h ∙ get_or-drop (at / 256 * 256) xs k 0

-- ---- how many

-- at most 8 in a byte
unmet-few : (slot x : ℕ) → unmet slot x ≤ 8
unmet-few slot x = ones-le 8 (bit_and slot (255 - x)) (omega (arith, and_le_r slot (255 - x)))

-- at most 8 in a pair
pub pairs-few : (slots page : List ℕ) → sum_by (λ p. unmet p.0 p.1) (zip slots page) ≤ length slots * 8
pairs-few slots page =
    omega (arith, sum_by-le (λ p. unmet p.0 p.1) 8 (zip slots page) (λ k d l. unmet-few (get_or (zip slots page) k d).0 (get_or (zip slots page) k d).1), length-zip slots page)

-- at most 8 for each slot that the data reached, and 0 for the others
pub missing-most : (at : ℕ) (s page : List ℕ) → missing at s page ≤ sum_at (λ slot x. cond (reached at s slot) 8 0) page
unfolding missing missing_at sum_at
missing-most at s page = sum-le 0 _ _ page (λ k x. go (reached at s k) (unmet (landed at s k 255) x) (unmet-few (landed at s k 255) x))
  where
    go : (t : Bool) (n : ℕ) → n ≤ 8 → cond t n 0 ≤ cond t 8 0
    go true n h = h
    go false n h = omega arith

eights : (k : ℕ) (xs : List ℕ) → sum_from k (λ i x. 8) xs ≡ 8 * length xs
eights k [] = refl
eights k (x ∷ xs) = omega (arith, eights (suc k) xs)

-- at most 2,048 in a page
pub missing-few : (at : ℕ) (s xs : List ℕ) → missing at s (page_of at xs) ≤ most_missing
unfolding sum_at
missing-few at s xs =
    omega (arith, missing-most at s (page_of at xs), sum-le 0 (λ slot x. cond (reached at s slot) 8 0) (λ i x. 8) (page_of at xs) (λ k x. cond_ind (λ (n : ℕ). n ≤ 8) (reached at s k) (lit≤ tt) (lit≤ tt)), eights 0 (page_of at xs), page-few at xs)

-- ---- which slots

-- data byte k reaches slot (address + k) modulo 256
pub byte-reaches : (at : ℕ) (s : List ℕ) (slot k : ℕ) → k < length s → (at + k) % 256 ≡ slot → reached at s slot ≡ true
unfolding reached
byte-reaches at [] slot k l e = absurd (omega arith)
byte-reaches at (b ∷ s) slot zero l e = rw (eq-eqb (at % 256) slot (omega arith))
byte-reaches at (b ∷ s) slot (suc k) l e = rw (byte-reaches (at + 1) s slot k (omega arith) (omega arith)) (either (eqb (at % 256) slot))
  where
    either : (a : Bool) → a || true ≡ true
    either true = refl
    either false = refl

-- where the data is 256 bytes or more, every slot is reached
pub all-reached : (at : ℕ) (s : List ℕ) (slot : ℕ) → slot < 256 → 256 ≤ length s → reached at s slot ≡ true
all-reached at s slot lt h = byte-reaches at s slot ((slot + 256 - at % 256) % 256) (omega arith) (omega arith)
