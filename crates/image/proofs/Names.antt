-- The list names exactly the bad blocks, in order: each entry a bad block and its reason, no block twice, none left out.
-- Assumes nothing.
use Rattle.std.proofs.Common.{◌≡◌, ℕ, zero, suc, ◌+◌, ◌-◌, ◌*◌, ◌<◌, ◌≤◌, Bool, true, false, eqb, ltb, List, [], ◌∷◌, ◌++◌, length, get_or, drop, sym, refl, ap, ◌∙◌, arith, length-append, drop-drop, get_or-append-add, ltb-false, ltb-true, eqb-true, le-leb}
use borrow.Author.Tests.{eqb-false}
use lib.ListN.{get_or-append, get_or-eq_default}
use Rattle.slices.specs.Changed.{map_at, stored}
use Rattle.slices.specs.Bytes.{word_at}
use Rattle.slices.proofs.Maps.{get_or-map, get_d_any}
use Rattle.slices.proofs.Words.{word-drop, word_number}
use Rattle.image.specs.Images.{part_of, reason_at, bad_places, entry_of, listed}
use Rattle.image.proofs.Blocks.{reason-most}
use Rattle.image.proofs.Lists.{past-good, past-bad, named}

-- the last of some places and one more
last : (xs : List ℕ) (p k : ℕ) → length xs ≤ k → k < length (xs ++ (p ∷ [])) → get_or (xs ++ (p ∷ [])) k 0 ≡ p
last xs p k h l =
    let w : length (xs ++ (p ∷ [])) ≡ length xs + 1 = length-append xs (p ∷ []) in
    let z : k ≡ length xs + 0 = omega arith in
    rw z (get_or-append-add xs (p ∷ []) 0 0)

-- the bad places are in order
pub in_order : (image : List ℕ) (n j k : ℕ) → j < k → k < length (bad_places image n) → get_or (bad_places image n) j 0 < get_or (bad_places image n) k 0
unfolding bad_places
in_order image zero j k h l = absurd (omega arith)
in_order image (suc n) j k h l = go (eqb (reason_at image n) 0) refl (λ m. in_order image n j k h m)
  where
    next : (reason_at image n ≡ 0 → ⊥) → (b : Bool) → ltb k (length (bad_places image n)) ≡ b → (k < length (bad_places image n) → get_or (bad_places image n) j 0 < get_or (bad_places image n) k 0)
        → k < length (bad_places image n ++ (n ∷ [])) → get_or (bad_places image n ++ (n ∷ [])) j 0 < get_or (bad_places image n ++ (n ∷ [])) k 0
    next bad true e more m =
        let t = ltb-true k (length (bad_places image n)) e in
        rw (get_or-append (bad_places image n) (n ∷ []) 0 j (omega arith), get_or-append (bad_places image n) (n ∷ []) 0 k t) (more t)
    next bad false e more m =
        let f = ltb-false k (length (bad_places image n)) e in
        let w : length (bad_places image n ++ (n ∷ [])) ≡ length (bad_places image n) + 1 = length-append (bad_places image n) (n ∷ []) in
        let u : j < length (bad_places image n) = omega arith in
        rw (get_or-append (bad_places image n) (n ∷ []) 0 j u, last (bad_places image n) n k f m) (named image n j u).0

    go : (b : Bool) → eqb (reason_at image n) 0 ≡ b → (k < length (bad_places image n) → get_or (bad_places image n) j 0 < get_or (bad_places image n) k 0)
        → get_or (bad_places image (suc n)) j 0 < get_or (bad_places image (suc n)) k 0
    go true e more = let q = past-good image n (eqb-true _ _ e) in rw q (more (rw (← q) l))
    go false e more =
        let q = past-bad image n (eqb-false _ _ e) in
        rw q (next (eqb-false _ _ e) (ltb k (length (bad_places image n))) refl more (rw (← q) l))

-- where a number stands in a list
pub record Stands (p : ℕ) (xs : List ℕ) : Type 0 where
  pub at : ℕ
  pub inside : at < length xs
  pub here : get_or xs at 0 ≡ p

-- it stands there when more follow
stands_on : {p : ℕ} {xs : List ℕ} → Stands p xs → (ys : List ℕ) → Stands p (xs ++ ys)
stands_on {p} {xs} s ys =
    record { at = s.at; inside = let i = s.inside in rw length-append (omega arith); here = get_or-append xs ys 0 s.at s.inside ∙ s.here }

-- every bad block is among them
pub all_named : (image : List ℕ) (n p : ℕ) → p < n → (reason_at image p ≡ 0 → ⊥) → Stands p (bad_places image n)
unfolding bad_places
all_named image zero p h bad = absurd (omega arith)
all_named image (suc n) p h bad = go (eqb p n) refl (eqb (reason_at image n) 0) refl (λ l. all_named image n p l bad)
  where
    go : (b : Bool) → eqb p n ≡ b → (c : Bool) → eqb (reason_at image n) 0 ≡ c → (p < n → Stands p (bad_places image n)) → Stands p (bad_places image (suc n))
    go true e true f more = absurd (bad (ap (reason_at image) (eqb-true p n e) ∙ eqb-true _ _ f))
    go true e false f more =
        let w : length (bad_places image n ++ (n ∷ [])) ≡ length (bad_places image n) + 1 = length-append (bad_places image n) (n ∷ []) in
        rw (past-bad image n (eqb-false _ _ f))
        (record {
          at = length (bad_places image n);
          inside = omega arith;
          here = last (bad_places image n) n (length (bad_places image n)) (omega arith) (omega arith) ∙ sym (eqb-true p n e);
        })
    go false e true f more =
        let ne = eqb-false p n e in
        rw (past-good image n (eqb-true _ _ f)) (more (omega (arith, ne)))
    go false e false f more =
        let ne = eqb-false p n e in
        rw (past-bad image n (eqb-false _ _ f)) (stands_on (more (omega (arith, ne))) (n ∷ []))

-- ---- the bytes of an entry

-- what the list has from entry k on
from-entry : (image xs : List ℕ) (k : ℕ) → k < length xs → drop (8 * k) (listed image xs) ≡ entry_of (get_or xs k 0) (reason_at image (get_or xs k 0)) ++ listed image (drop (suc k) xs)
unfolding listed
from-entry image [] k h = absurd (omega arith)
from-entry image (x ∷ xs) zero h = refl
from-entry image (x ∷ xs) (suc k) h =
    let z : 8 * suc k ≡ suc (suc (suc (suc (suc (suc (suc (suc (8 * k)))))))) = omega arith in
    rw z (from-entry image xs k (omega arith))

pub entry_place : (image xs : List ℕ) (k : ℕ) → k < length xs → get_or xs k 0 < 4294967296 → word_at (listed image xs) (8 * k) ≡ get_or xs k 0
entry_place image xs k h few = word-drop (8 * k) (listed image xs) ∙ (ap (λ (b : List ℕ). word_at b 0) (from-entry image xs k h) ∙ word_number (get_or xs k 0) few)

pub entry-reason : (image xs : List ℕ) (k : ℕ) → k < length xs → word_at (listed image xs) (8 * k + 4) ≡ reason_at image (get_or xs k 0)
entry-reason image xs k h =
    word-drop (8 * k + 4) (listed image xs)
    ∙ (ap (λ (b : List ℕ). word_at b 0) (sym (drop-drop 4 (8 * k) (listed image xs)) ∙ ap (drop 4) (from-entry image xs k h)) ∙ word_number (reason_at image (get_or xs k 0)) (omega (arith, reason-most (get_or xs k 0) (part_of 512 (get_or xs k 0) image))))

-- a list that was stored at the front is read as it is
pub word-stored : (xs ys : List ℕ) (j : ℕ) → j + 4 ≤ length xs → length xs ≤ length ys → word_at (map_at (stored 0 xs) ys) j ≡ word_at xs j
unfolding stored
word-stored xs ys j h l = rw (byte j (omega arith), byte (j + 1) (omega arith), byte (j + 2) (omega arith), byte (j + 3) (omega arith))
  where
    byte : (i : ℕ) → i < length xs → get_or (map_at (stored 0 xs) ys) i 0 ≡ get_or xs i 0
    byte i lt =
        let z : i - 0 ≡ i = omega arith in
        get_or-map (stored 0 xs) ys i 0 (omega arith) ∙ rw (le-leb 0 i (omega arith), z) (get_d_any xs i _ 0 lt)

-- and what lies beyond it is as it was
pub beyond-stored : (xs ys : List ℕ) (i : ℕ) → length xs ≤ i → i < length ys → get_or (map_at (stored 0 xs) ys) i 0 ≡ get_or ys i 0
unfolding stored
beyond-stored xs ys i h lt =
    let z : i - 0 ≡ i = omega arith in
    get_or-map (stored 0 xs) ys i 0 lt ∙ rw (le-leb 0 i (omega arith), z) (get_or-eq_default xs (get_or ys i 0) h)

-- where there is no bad place, every block is good
pub all-good : (image : List ℕ) (n : ℕ) → bad_places image n ≡ [] → (p : ℕ) → p < n → reason_at image p ≡ 0
all-good image n none p h = go (eqb (reason_at image p) 0) refl
  where
    go : (b : Bool) → eqb (reason_at image p) 0 ≡ b → reason_at image p ≡ 0
    go true e = eqb-true _ _ e
    go false e = let s : Stands p [] = rw (← none) (all_named image n p h (eqb-false _ _ e)) in let l = s.inside in absurd (omega arith)

-- before the first of the bad places every block is good
pub good-before : (image : List ℕ) (n q : ℕ) → 0 < length (bad_places image n) → q < get_or (bad_places image n) 0 0 → reason_at image q ≡ 0
good-before image n q some h = go (eqb (reason_at image q) 0) refl
  where
    first : (s : Stands q (bad_places image n)) (b : Bool) → eqb s.at 0 ≡ b → ⊥
    first s true e =
        let z = s.here in
        let y : get_or (bad_places image n) 0 0 ≡ q = rw (eqb-true s.at 0 e) at z in
        omega arith
    first s false e =
        let ne = eqb-false s.at 0 e in
        let o = in_order image n 0 s.at (omega (arith, ne)) s.inside in
        let y = s.here in
        omega arith

    go : (b : Bool) → eqb (reason_at image q) 0 ≡ b → reason_at image q ≡ 0
    go true e = eqb-true _ _ e
    go false e =
        let l = (named image n 0 some).0 in
        let s = all_named image n q (omega arith) (eqb-false _ _ e) in
        absurd (first s (eqb s.at 0) refl)
