-- Laws of the bad places and of the list of them: what the loops come to, and what the list names.
-- Assumes nothing.
use Rattle.std.proofs.Common.{◌≡◌, ℕ, zero, suc, ◌+◌, ◌*◌, ◌<◌, ◌≤◌, Bool, true, false, eqb, ltb, List, [], ◌∷◌, ◌++◌, length, get_or, sym, refl, ap, ◌∙◌, append-nil, add-one, arith, lit<, lit≤, length-append, get_or-append-add, ltb-false, ltb-true, eq-eqb, ne_eqb, eqb-true, slice_get, Some}
use borrow.Author.Tests.{eqb-false}
use lib.ListN.{get_or-append}
use Rattle.slices.proofs.Choices.{cond_ind}
use Rattle.image.specs.Images.{reason_at, bad_places, entry_of, listed}
use Rattle.image.specs.Steps.{note_of}

-- one more block, a good one or a bad one
pub past-good : (image : List ℕ) (p : ℕ) → reason_at image p ≡ 0 → bad_places image (suc p) ≡ bad_places image p
unfolding bad_places
past-good image p e = rw (eq-eqb _ _ e) (append-nil (bad_places image p))

pub past-bad : (image : List ℕ) (p : ℕ) → (reason_at image p ≡ 0 → ⊥) → bad_places image (suc p) ≡ bad_places image p ++ (p ∷ [])
unfolding bad_places
past-bad image p n = rw (ne_eqb _ _ n)

-- what holds of an empty list, and stays as a block joins, holds of the bad places
pub bad-ind : (image : List ℕ) (P : ℕ → List ℕ → Type 0) → P 0 [] → ((p : ℕ) (xs : List ℕ) → P p xs → reason_at image p ≡ 0 → P (suc p) xs)
    → ((p : ℕ) (xs : List ℕ) → P p xs → (reason_at image p ≡ 0 → ⊥) → P (suc p) (xs ++ (p ∷ []))) → (n : ℕ) → P n (bad_places image n)
unfolding bad_places
bad-ind image P none fine bad zero = none
bad-ind image P none fine bad (suc n) = go (eqb (reason_at image n) 0) refl (bad-ind image P none fine bad n)
  where
    go : (b : Bool) → eqb (reason_at image n) 0 ≡ b → P n (bad_places image n) → P (suc n) (bad_places image (suc n))
    go true e h = rw (past-good image n (eqb-true _ _ e)) (fine n (bad_places image n) h (eqb-true _ _ e))
    go false e h = rw (past-bad image n (eqb-false _ _ e)) (bad n (bad_places image n) h (eqb-false _ _ e))

-- ---- the bytes of the list

-- a good block is not noted, a bad one is
pub note-none : (place why : ℕ) → why ≡ 0 → note_of place why ≡ []
unfolding note_of
note-none place why e = rw e

pub note-some : (place why : ℕ) → (why ≡ 0 → ⊥) → note_of place why ≡ entry_of place why
unfolding note_of
note-some place why n = rw (ne_eqb why 0 n)

pub note-few : (place why : ℕ) → length (note_of place why) ≤ 8
unfolding note_of
note-few place why = cond_ind (λ (l : List ℕ). length l ≤ 8) (eqb why 0) (lit≤ tt) (lit≤ tt)

pub listed-append : (image xs ys : List ℕ) → listed image (xs ++ ys) ≡ listed image xs ++ listed image ys
unfolding listed
listed-append image [] ys = refl
listed-append image (p ∷ xs) ys = rw (listed-append image xs ys)

-- an entry has eight bytes
pub length-listed : (image xs : List ℕ) → length (listed image xs) ≡ 8 * length xs
unfolding listed
length-listed image [] = refl
length-listed image (p ∷ xs) = rw (length-listed image xs) (omega arith)

-- one more block
pub listed_next : (image : List ℕ) (p why : ℕ) → why ≡ reason_at image p → listed image (bad_places image p) ++ note_of p why ≡ listed image (bad_places image (p + 1))
unfolding note_of listed
listed_next image p why e = rw (e, add-one p) (go (eqb (reason_at image p) 0) refl)
  where
    go : (b : Bool) → eqb (reason_at image p) 0 ≡ b → listed image (bad_places image p) ++ note_of p (reason_at image p) ≡ listed image (bad_places image (suc p))
    go true q = rw (past-good image p (eqb-true _ _ q), q) (append-nil _)
    go false q = rw (past-bad image p (eqb-false _ _ q), q) (sym (listed-append image (bad_places image p) (p ∷ []) ∙ rw append-nil))

-- ---- what the bad places are

-- each of them is the place of a bad block
pub named : (image : List ℕ) (n k : ℕ) → k < length (bad_places image n) → (get_or (bad_places image n) k 0 < n) × (reason_at image (get_or (bad_places image n) k 0) ≡ 0 → ⊥)
named image n k = bad-ind image (λ m xs. k < length xs → (get_or xs k 0 < m) × (reason_at image (get_or xs k 0) ≡ 0 → ⊥)) none (λ p xs h e l. let r = h l in (omega arith, r.1)) more n
  where
    none : k < 0 → (0 < 0) × (reason_at image 0 ≡ 0 → ⊥)
    none l = absurd (omega arith)

    more : (p : ℕ) (xs : List ℕ) → (k < length xs → (get_or xs k 0 < p) × (reason_at image (get_or xs k 0) ≡ 0 → ⊥)) → (reason_at image p ≡ 0 → ⊥)
        → k < length (xs ++ (p ∷ [])) → (get_or (xs ++ (p ∷ [])) k 0 < suc p) × (reason_at image (get_or (xs ++ (p ∷ [])) k 0) ≡ 0 → ⊥)
    more p xs h bad l = go (ltb k (length xs)) refl
      where
        go : (b : Bool) → ltb k (length xs) ≡ b → (get_or (xs ++ (p ∷ [])) k 0 < suc p) × (reason_at image (get_or (xs ++ (p ∷ [])) k 0) ≡ 0 → ⊥)
        go true e =
            let r = h (ltb-true k (length xs) e) in
            rw (get_or-append xs (p ∷ []) 0 k (ltb-true k (length xs) e)) (omega arith, r.1)
        go false e =
            let m = ltb-false k (length xs) e in
            let w : length (xs ++ (p ∷ [])) ≡ length xs + 1 = length-append xs (p ∷ []) in
            let z : k ≡ length xs + 0 = omega arith in
            rw (z, get_or-append-add xs (p ∷ []) 0 0) (omega arith, bad)

-- no more places are bad than there are
pub few-bad : (image : List ℕ) (n : ℕ) → length (bad_places image n) ≤ n
few-bad image n = bad-ind image (λ m xs. length xs ≤ m) (omega arith) (λ p xs h e. omega arith) (λ p xs h e. rw length-append (omega arith)) n

-- as the first bad block is found, so it stays
later : (image : List ℕ) (d m n : ℕ) → m ≤ n → 0 < length (bad_places image m) → (0 < length (bad_places image n)) × (get_or (bad_places image n) 0 d ≡ get_or (bad_places image m) 0 d)
later image d zero zero h some = (some, refl)
later image d (suc m) zero h some = absurd (omega arith)
later image d m (suc n) h some = go (eqb m (suc n)) refl (λ k. later image d m n k some) (eqb (reason_at image n) 0) refl
  where
    go : (b : Bool) → eqb m (suc n) ≡ b → (m ≤ n → (0 < length (bad_places image n)) × (get_or (bad_places image n) 0 d ≡ get_or (bad_places image m) 0 d)) → (c : Bool) → eqb (reason_at image n) 0 ≡ c
        → (0 < length (bad_places image (suc n))) × (get_or (bad_places image (suc n)) 0 d ≡ get_or (bad_places image m) 0 d)
    go true e more c q = let z = eqb-true m (suc n) e in rw (← z) (some, refl)
    go false e more true q =
        let ne = eqb-false m (suc n) e in
        rw (past-good image n (eqb-true _ _ q)) (more (omega (arith, ne)))
    go false e more false q =
        let ne = eqb-false m (suc n) e in
        let r = more (omega (arith, ne)) in
        rw (past-bad image n (eqb-false _ _ q)) (rw length-append (omega arith), get_or-append (bad_places image n) (n ∷ []) d 0 r.0 ∙ r.1)

-- the first bad block
pub first-here : (image : List ℕ) (p n : ℕ) → bad_places image p ≡ [] → (reason_at image p ≡ 0 → ⊥) → p < n → Some p ≡ slice_get (bad_places image n) 0
first-here image p n none bad h =
    let e : bad_places image (suc p) ≡ p ∷ [] = past-bad image p bad ∙ ap (λ (t : List ℕ). t ++ (p ∷ [])) none in
    let some : 0 < length (bad_places image (suc p)) = rw e (lit< tt) in
    let l = later image n (suc p) n (omega arith) some in
    front_is (bad_places image n) p n l.0 (sym (l.1 ∙ ap (λ (t : List ℕ). get_or t 0 n) e))
  where
    front_is : (xs : List ℕ) (x d : ℕ) → 0 < length xs → x ≡ get_or xs 0 d → Some x ≡ slice_get xs 0
    front_is [] x d some e = absurd (omega arith)
    front_is (y ∷ ys) x d some e = ap Some e
