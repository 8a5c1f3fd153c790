-- Laws of the lines that are printed.
-- Assumes nothing.
use mathlib.Core.Path.{◌≡◌, refl, sym, ap, ◌∙◌}
use mathlib.Core.Bool.{Bool, true, false}
use mathlib.Core.List.{List, [], ◌∷◌, ◌++◌}
use Prim.Native.Nat.{ℕ, zero, suc, ◌+◌, ◌-◌, ◌/◌, ◌%◌, ◌<◌, ◌≤◌, min}
use native.Mathlib.Numerals.{add-one}
use native.Mathlib.Omega.{arith}
use borrow.Author.Tests.{ltb-true, ltb-false, eqb-true, eqb-false, lt-ltb, le-ltb}
use lib.Dec.{eqb, ltb}
use lib.ListN.{length, get_or, set, take, length-append, length-set, get_or-eq_default, get_or-append}
use lib.Seq.{take-suc, get_or-append-add, get_or-set_same, get_or-set_other}
use Rattle.slices.specs.Changed.{map_at}
use Rattle.slices.proofs.Maps.{length-map, map-then, map-agree, map_is}
use Rattle.script.specs.Answers.{decimal_in, decimal, hex_byte, hex_text, over, Printed}

-- before its place nothing is written
over_below : (from : ℕ) (line : List ℕ) (i x : ℕ) → i < from → over from line i x ≡ x
unfolding over
over_below from line i x h = rw (lt-ltb i from h)

-- from its place on a line is written
over-above : (from : ℕ) (line : List ℕ) (i x : ℕ) → from ≤ i → over from line i x ≡ get_or line (i - from) x
unfolding over
over-above from line i x h = rw (le-ltb i from h)

-- nothing is printed
pub printed_none : (text : List ℕ) (from r : ℕ) → r ≡ min from (length text) → Printed [] text from text r
printed_none text from r e = record { past = omega arith; written = map_is (over from []) text text refl (λ i h. go i (ltb i from) refl) }
  where
    go : (i : ℕ) (b : Bool) → ltb i from ≡ b → get_or text i 0 ≡ over from [] i (get_or text i 0)
    go i true e = sym (over_below from [] i (get_or text i 0) (ltb-true i from e))
    go i false e = sym (over-above from [] i (get_or text i 0) (ltb-false i from e))

-- one character is printed where there is room
pub printed_here : (b : ℕ) (text : List ℕ) (from : ℕ) → from < length text → Printed (b ∷ []) text from (set text from b) (from + 1)
printed_here b text from h = record { past = omega arith; written = map_is (over from (b ∷ [])) text (set text from b) (length-set text from b) (λ i lt. go i (ltb i from) refl (eqb i from) refl) }
  where
    go : (i : ℕ) (s : Bool) → ltb i from ≡ s → (t : Bool) → eqb i from ≡ t → get_or (set text from b) i 0 ≡ over from (b ∷ []) i (get_or text i 0)
    go i true e t f =
        let p = ltb-true i from e in
        get_or-set_other text from i b 0 (λ q. omega arith) ∙ sym (over_below from (b ∷ []) i (get_or text i 0) p)
    go i false e true f =
        let q = eqb-true i from f in
        let z : i - from ≡ 0 = omega arith in
        ap (λ (k : ℕ). get_or (set text from b) k 0) q
        ∙ get_or-set_same text from b 0 h
        ∙ ap (λ (k : ℕ). get_or (b ∷ []) k (get_or text i 0)) (sym z)
        ∙ sym (over-above from (b ∷ []) i (get_or text i 0) (ltb-false i from e))
    go i false e false f =
        let p = ltb-false i from e in
        let n = eqb-false i from f in
        get_or-set_other text from i b 0 n
        ∙ sym (get_or-eq_default (b ∷ []) (get_or text i 0) {n = i - from} (past i p n))
        ∙ sym (over-above from (b ∷ []) i (get_or text i 0) p)
      where
        past : (i : ℕ) → from ≤ i → (i ≡ from → ⊥) → 1 ≤ i - from
        past i p n = omega arith

-- past the end there is no room
pub printed_nowhere : (line text : List ℕ) (from : ℕ) → length text ≤ from → Printed line text from text (length text)
printed_nowhere line text from h =
    record { past = omega arith; written = map_is (over from line) text text refl (λ i lt. sym (over_below from line i (get_or text i 0) (omega arith))) }

-- what is printed in a text that is the same
pub printed_as : {line text text₁ text₂ : List ℕ} {from r : ℕ} → Printed line text from text₁ r → text₂ ≡ text₁ → Printed line text from text₂ r
printed_as p e = rw e p

-- what is printed after what was printed
pub printed_then : {a b text text₁ text₂ : List ℕ} {from r₁ r₂ : ℕ} → Printed a text from text₁ r₁ → Printed b text₁ r₁ text₂ r₂ → Printed (a ++ b) text from text₂ r₂
printed_then {a} {b} {text} {text₁} {text₂} {from} {r₁} {r₂} p q =
    let l : length text₁ ≡ length text = ap length p.written ∙ length-map (over from a) text in
    record {
      past = omega (arith, p.past, q.past, length-append a b);
      written =
          q.written
          ∙ ap (map_at (over r₁ b)) p.written
          ∙ map-then (over from a) (over r₁ b) text
          ∙ map-agree (λ i x. over r₁ b i (over from a i x)) (over from (a ++ b)) text (λ i h. go i (get_or text i 0) h (ltb i from) refl (ltb i (from + length a)) refl);
    }
  where
    go : (i x : ℕ) → i < length text → (s : Bool) → ltb i from ≡ s → (t : Bool) → ltb i (from + length a) ≡ t → over r₁ b i (over from a i x) ≡ over from (a ++ b) i x
    go i x h true e t f =
        let k = ltb-true i from e in
        over_below r₁ b i (over from a i x) (omega (arith, p.past))
        ∙ over_below from a i x k
        ∙ sym (over_below from (a ++ b) i x k)
    go i x h false e true f =
        let k = ltb-false i from e in
        let m = ltb-true i (from + length a) f in
        over_below r₁ b i (over from a i x) (omega (arith, p.past))
        ∙ over-above from a i x k
        ∙ sym (get_or-append a b x (i - from) (omega arith))
        ∙ sym (over-above from (a ++ b) i x k)
    go i x h false e false f =
        let k = ltb-false i from e in
        let m = ltb-false i (from + length a) f in
        let z : i - from ≡ length a + (i - r₁) = omega (arith, p.past) in
        over-above r₁ b i (over from a i x) (omega (arith, p.past))
        ∙ ap (get_or b (i - r₁)) (over-above from a i x k ∙ get_or-eq_default a x {n = i - from} (omega arith))
        ∙ sym (get_or-append-add a b (i - r₁) x)
        ∙ ap (λ (n : ℕ). get_or (a ++ b) n x) (sym z)
        ∙ sym (over-above from (a ++ b) i x k)

-- more places than a number needs change nothing
enough : (j k n : ℕ) → n < j → n < k → decimal_in j n ≡ decimal_in k n
enough zero k n h g = let z : ◌≡◌ {A = ℕ} 0 1 = omega arith in cc
enough (suc j) zero n h g = let z : ◌≡◌ {A = ℕ} 0 1 = omega arith in cc
enough (suc j) (suc k) n h g = go (ltb n 10) refl (λ a b. enough j k (n / 10) a b)
  where
    go : (b : Bool) → ltb n 10 ≡ b → (n / 10 < j → n / 10 < k → decimal_in j (n / 10) ≡ decimal_in k (n / 10)) → decimal_in (suc j) n ≡ decimal_in (suc k) n
    go true e f = rw e
    go false e f = let q = ltb-false n 10 e in rw (e, f (omega arith) (omega arith))

-- a number of one digit
pub decimal-one : (n : ℕ) → n < 10 → decimal n ≡ (48 + n) ∷ []
unfolding decimal
decimal-one n h = rw (lt-ltb n 10 h)

-- the last digit of a longer number, and those before it
pub decimal-more : (n : ℕ) → 10 ≤ n → decimal n ≡ decimal (n / 10) ++ (48 + n % 10) ∷ []
unfolding decimal
decimal-more n h = rw (le-ltb n 10 h, enough n (suc (n / 10)) (n / 10) (omega arith) (omega arith))

-- the digits of two runs of bytes
hex-append : (xs ys : List ℕ) → hex_text (xs ++ ys) ≡ hex_text xs ++ hex_text ys
hex-append [] ys = refl
hex-append (x ∷ xs) ys = rw (hex-append xs ys)

-- one more byte of a loop that prints each
pub hex-next : (xs : List ℕ) (i : ℕ) → i < length xs → hex_text (take (i + 1) xs) ≡ hex_text (take i xs) ++ hex_byte (get_or xs i 0)
hex-next xs i h = rw (add-one, take-suc xs i 0 h) (hex-append (take i xs) (get_or xs i 0 ∷ []))

-- the promise of the printers admits one outcome
pub one-outcome : (line text : List ℕ) (from : ℕ) (text₁ text₂ : List ℕ) (r s : ℕ) → Printed line text from text₁ r → Printed line text from text₂ s → (r ≡ s) × (text₁ ≡ text₂)
one-outcome line text from text₁ text₂ r s p q = (p.past ∙ sym q.past, p.written ∙ sym q.written)
