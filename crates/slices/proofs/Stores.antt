-- Laws of `stored`: bytes copied to the front of a list, or stored part by part.
-- Assumes nothing.
use mathlib.Core.Path.{◌≡◌, refl, sym, ap, ◌∙◌}
use mathlib.Core.Bool.{Bool, true, false, cond}
use mathlib.Core.List.{List, [], ◌++◌}
use Prim.Native.Nat.{ℕ, ◌+◌, ◌-◌, ◌<◌, ◌≤◌, min}
use native.Mathlib.Nat.{zero-add}
use native.Mathlib.Omega.{arith}
use borrow.Author.Tests.{leb-true, leb-false, ltb-true, ltb-false, le-leb, lt-leb}
use borrow.Rule.Slice.PartMut.{put_mid}
use lib.Dec.{leb, ltb}
use lib.ListN.{length, get_or, take, drop, replicate, length-append, length-drop, length-replicate, get_or-append, get_or-eq_default}
use lib.Seq.{length-take-le, get_or-take, get_or-drop, get_or-append-add}
use Rattle.slices.specs.Changed.{map_at, window, stored}
use Rattle.slices.proofs.Choices.{cond_ind}
use Rattle.slices.proofs.Maps.{map-then, map-ext, map_same, map-agree, map_is, get_d_any}
use Rattle.slices.proofs.Windows.{window-in, window-below}
use Rattle.slices.proofs.Parts.{lent_map}

-- as many bytes as there are places or bytes of src, copied to the front
pub front-copied : (n : ℕ) (src xs : List ℕ) {ys : List ℕ} → n ≡ min (length xs) (length src) → ys ≡ take n src → ys ++ drop n xs ≡ map_at (get_or src) xs
front-copied n src xs {ys} e p = map_is (get_or src) xs (ys ++ drop n xs) (simp (length-append, l, length-drop) (omega arith)) (λ i lt. go i lt (ltb i n) refl)
  where
    l : length ys ≡ n
    l = ap length p ∙ length-take-le n src (omega arith)

    go : (i : ℕ) → i < length xs → (b : Bool) → ltb i n ≡ b → get_or (ys ++ drop n xs) i 0 ≡ get_or src i (get_or xs i 0)
    go i lt true q =
        let k : i < n = ltb-true i n q in
        get_or-append ys (drop n xs) 0 i (omega (arith, l)) ∙ rw p (get_or-take n src i 0 k ∙ get_d_any src i 0 _ (omega arith))
    go i lt false q =
        let k : n ≤ i = ltb-false i n q in
        let z : i ≡ length ys + (i - n) = omega (arith, l) in
        let y : i ≡ n + (i - n) = omega arith in
        ap (λ (m : ℕ). get_or (ys ++ drop n xs) m 0) z ∙ get_or-append-add ys (drop n xs) (i - n) 0
        ∙ get_or-drop n xs (i - n) 0 ∙ ap (λ (m : ℕ). get_or xs m 0) (sym y) ∙ sym (get_or-eq_default src _ (omega arith))

-- as many bytes as there are places, read to them one by one
pub first-read : (n : ℕ) (src : List ℕ) {ys : List ℕ} → n ≤ length src → ys ≡ take n src → ys ≡ map_at (get_or src) (replicate n 0)
first-read n src {ys} h p = map_is (get_or src) (replicate n 0) ys (ap length p ∙ length-take-le n src h ∙ sym (length-replicate {A = ℕ} n 0)) (λ i lt. byte i (rw (length-replicate {A = ℕ} n 0) at lt))
  where
    byte : (i : ℕ) → i < n → get_or ys i 0 ≡ get_or src i (get_or (replicate n 0) i 0)
    byte i k = rw p (get_or-take n src i 0 k ∙ get_d_any src i 0 _ (omega arith))

-- the rest of a slice lent from a place on, or from its end where it is shorter, that came back with src copied to it
pub stored-rest : (at start : ℕ) (src xs : List ℕ) {ys : List ℕ} → start ≡ min at (length xs) → ys ≡ map_at (get_or src) (take (length xs - start) (drop start xs))
    → put_mid start (length xs - start) xs ys ≡ map_at (stored at src) xs
unfolding stored
stored-rest at start src xs e p =
    lent_map start (length xs) xs (omega arith) (omega arith) (get_or src) p ∙ map-agree _ _ xs (λ i lt. go i lt (leb at i) refl)
  where
    go : (i : ℕ) → i < length xs → (b : Bool) → leb at i ≡ b
        → window start (length xs) (λ k x. get_or src (k - start) x) i (get_or xs i 0) ≡ cond (leb at i) (get_or src (i - at) (get_or xs i 0)) (get_or xs i 0)
    go i lt true q =
        let h : at ≤ i = leb-true at i q in
        let z : start ≡ at = omega arith in
        rw (q, z) (window-in at (length xs) _ i _ h lt)
    go i lt false q = let h : i < at = leb-false at i q in rw q (window-below start (length xs) _ i _ (omega arith))

-- q stored behind p
stored-then : (a : ℕ) (p q : List ℕ) (i x : ℕ) → stored (a + length p) q i (stored a p i x) ≡ stored a (p ++ q) i x
unfolding stored
stored-then a p q i x = go (leb a i) refl (leb (a + length p) i) refl
  where
    go : (s : Bool) → leb a i ≡ s → (t : Bool) → leb (a + length p) i ≡ t
        → cond (leb (a + length p) i) (get_or q (i - (a + length p)) (cond (leb a i) (get_or p (i - a) x) x)) (cond (leb a i) (get_or p (i - a) x) x)
        ≡ cond (leb a i) (get_or (p ++ q) (i - a) x) x
    go true e true f =
        let h : a + length p ≤ i = leb-true (a + length p) i f in
        let z : i - a ≡ length p + (i - (a + length p)) = omega arith in
        rw (e, f, get_or-eq_default p x {n = i - a} (omega arith)) (sym (ap (λ (k : ℕ). get_or (p ++ q) k x) z ∙ get_or-append-add p q (i - (a + length p)) x))
    go true e false f =
        let h : a ≤ i = leb-true a i e in
        let k : i < a + length p = leb-false (a + length p) i f in
        rw (e, f) (sym (get_or-append p q x (i - a) (omega arith)))
    go false e t f = let h : i < a = leb-false a i e in rw (e, lt-leb (a + length p) i (omega arith))

-- p stands from a place on, and q is stored behind it
pub store-behind : (a at : ℕ) (p q xs : List ℕ) {ys zs : List ℕ} → ys ≡ map_at (stored a p) xs → a + length p ≡ at → zs ≡ map_at (stored at q) ys → zs ≡ map_at (stored a (p ++ q)) xs
store-behind a at p q xs e l f = f ∙ ap (map_at (stored at q)) e ∙ map-then (stored a p) (stored at q) xs ∙ map-ext _ _ (λ i x. rw (← l) (stored-then a p q i x)) xs

-- the same where p stands at the front
pub store-next : (at : ℕ) (p q xs : List ℕ) {ys zs : List ℕ} → ys ≡ map_at (stored 0 p) xs → length p ≡ at → zs ≡ map_at (stored at q) ys → zs ≡ map_at (stored 0 (p ++ q)) xs
store-next at p q xs e l f = store-behind 0 at p q xs e (zero-add (length p) ∙ l) f

-- bytes stored over as many
pub stored-whole : (p xs : List ℕ) → length p ≡ length xs → map_at (stored 0 p) xs ≡ p
unfolding stored
stored-whole p xs e = sym (map_is _ xs p e (λ i h. let z : i - 0 ≡ i = omega arith in rw (le-leb 0 i (omega arith), z) (get_d_any p i 0 (get_or xs i 0) (omega arith))))

-- nothing stored
pub stored-none : (a : ℕ) (xs : List ℕ) → xs ≡ map_at (stored a []) xs
unfolding stored
stored-none a xs = sym (map-ext _ _ (λ i x. cond_ind (λ (y : ℕ). y ≡ x) (leb a i) refl refl) xs ∙ map_same xs)

-- copied to the front
pub copied-stored : (src xs : List ℕ) → map_at (get_or src) xs ≡ map_at (stored 0 src) xs
unfolding stored
copied-stored src xs = map-ext _ _ (λ i x. let z : i - 0 ≡ i = omega arith in rw (le-leb 0 i (omega arith), z)) xs
