-- Bytes laid over a list from a place on: row after row, as a lent part, as one byte stored.
-- Assumes nothing.
use mathlib.Core.Path.{◌≡◌, ap, ◌∙◌}
use mathlib.Core.List.{List, [], ◌∷◌, ◌++◌, append_assoc}
use Prim.Native.Nat.{ℕ, ◌+◌, ◌-◌, ◌≤◌, ◌<◌}
use native.Mathlib.Numerals.{add-one}
use native.Mathlib.Omega.{arith}
use borrow.Rule.Slice.PartMut.{put_mid, Post-is}
use lib.ListN.{length, take, drop, set, length-append, length-take, length-drop, take-append-drop}
use lib.Seq.{length-take-le, take_at, drop-append-add, drop-drop, set_split}
use Rattle.slices.specs.Changed.{laid}

-- nothing laid
pub laid_none : (a : ℕ) (xs : List ℕ) → a ≤ length xs → laid a [] xs ≡ xs
unfolding laid
laid_none a xs h = let z : a + 0 ≡ a = omega arith in rw z (take-append-drop a xs)

-- two rows of bytes, one after the other
pub laid_more : (a : ℕ) (ys zs xs : List ℕ) → a ≤ length xs → laid a (ys ++ zs) xs ≡ laid (a + length ys) zs (laid a ys xs)
unfolding laid
laid_more a ys zs xs h =
    let p : List ℕ = take a xs ++ ys in
    let l : length p ≡ a + length ys = simp (length-append, length-take-le a xs h) in
    let f : take (a + length ys) (p ++ drop (a + length ys) xs) ≡ p = take_at p (drop (a + length ys) xs) (a + length ys) l in
    let b : drop (a + length ys + length zs) (p ++ drop (a + length ys) xs) ≡ drop (a + length ys + length zs) xs =
    rw (← l) (drop-append-add p (drop (length p) xs) (length zs) ∙ drop-drop (length zs) (length p) xs) in
    let k : a + length (ys ++ zs) ≡ a + length ys + length zs = simp length-append (omega arith) in
    rw (← append_assoc (take a xs) ys (drop (a + length ys) xs), f, b, k) (simp append_assoc)

-- the length stays
pub laid-length : (a : ℕ) (ys xs : List ℕ) → a + length ys ≤ length xs → length (laid a ys xs) ≡ length xs
unfolding laid
laid-length a ys xs h = simp (length-append, length-take, length-drop) (omega arith)

-- a part lent as `&mut xs[a..e]` that came back as ys
pub lent_laid : (a e : ℕ) (xs ys : List ℕ) → a ≤ e → length ys ≡ e - a → put_mid a (e - a) xs ys ≡ laid a ys xs
unfolding laid
lent_laid a e xs ys h l =
    let z : a + length ys ≡ e = omega arith in
    ap (λ (t : List ℕ). take a xs ++ (ys ++ t)) (Post-is a e xs h) ∙ rw z

-- one byte stored
pub set-laid : (k x : ℕ) (xs : List ℕ) → k < length xs → set xs k x ≡ laid k (x ∷ []) xs
unfolding laid
set-laid k x xs h = set_split xs k x h ∙ rw (add-one k)
