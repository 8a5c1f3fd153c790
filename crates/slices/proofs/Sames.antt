-- Laws of `same_bytes`: it says that two lists are equal.
-- Assumes nothing.
use mathlib.Core.Path.{◌≡◌, refl, sym, ap, ap₂, ◌∙◌}
use mathlib.Core.Bool.{Bool, true, ◌&&◌, false≢true}
use mathlib.Core.List.{List, [], ◌∷◌, ◌++◌}
use Prim.Native.Nat.{ℕ, ◌+◌, ◌<◌, ◌≤◌}
use native.Mathlib.Nat.{le_of_suc-le-suc, not-suc-le-zero}
use native.Mathlib.Numerals.{add-one}
use Rattle.std.proofs.Math.Bool.{and_assoc, and-true}
use lib.Dec.{eqb}
use lib.ListN.{length, get_or, take, drop, drop_of_length-le}
use lib.Seq.{drop-cons}
use borrow.Author.Tests.{eq-eqb, eqb-true}
use Rattle.slices.specs.Bytes.{same_bytes}
use Rattle.slices.proofs.Choices.{both}

-- a list is the same as itself, and as no other
pub same_self : (xs : List ℕ) → same_bytes xs xs ≡ true
same_self [] = refl
same_self (x ∷ xs) = rw (eq-eqb x x refl) (same_self xs)

pub same-is : (xs ys : List ℕ) → same_bytes xs ys ≡ true → xs ≡ ys
same-is [] [] h = refl
same-is [] (y ∷ ys) h = absurd (false≢true h)
same-is (x ∷ xs) [] h = absurd (false≢true h)
same-is (x ∷ xs) (y ∷ ys) h =
    let p = both (eqb x y) (same_bytes xs ys) h in
    ap₂ {C = List ℕ} (λ a l. a ∷ l) (eqb-true x y p.0) (same-is xs ys p.1)

pub and-end : (a : Bool) → a && true ≡ a
and-end = and-true

-- compared up to place i: one byte more, the end
pub same_next : (xs ys : List ℕ) (i : ℕ) (all : Bool) {r : Bool} → r ≡ all && same_bytes (drop i xs) (drop i ys) → i < length xs → i < length ys
    → r ≡ all && eqb (get_or xs i 0) (get_or ys i 0) && same_bytes (drop (i + 1) xs) (drop (i + 1) ys)
same_next xs ys i all e h k = e ∙ rw (drop-cons xs i 0 h, drop-cons ys i 0 k, add-one i) (sym (and_assoc all _ _))

pub same_end : (xs ys : List ℕ) (i : ℕ) (all : Bool) {r : Bool} → r ≡ all && same_bytes (drop i xs) (drop i ys) → length xs ≤ i → length ys ≤ i → all ≡ r
same_end xs ys i all e h k = sym (e ∙ rw (drop_of_length-le xs h, drop_of_length-le ys k) (and-end all))

-- a list that is compared with bytes and more bytes: its front with the first, its rest with the others
pub same-cut : (ys xs zs : List ℕ) → length ys ≤ length xs → same_bytes xs (ys ++ zs) ≡ same_bytes (take (length ys) xs) ys && same_bytes (drop (length ys) xs) zs
same-cut [] xs zs h = refl
same-cut (y ∷ ys) [] zs h = absurd (not-suc-le-zero h)
same-cut (y ∷ ys) (x ∷ xs) zs h = ap (λ (b : Bool). eqb x y && b) (same-cut ys xs zs (le_of_suc-le-suc h)) ∙ sym (and_assoc (eqb x y) _ _)
