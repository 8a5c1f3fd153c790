-- What is printed reads back: the decimal digits of a number are those of that number, and the two digits of a byte are the pair of that byte.
-- Assumes nothing.
use mathlib.Core.Path.{◌≡◌, refl, ap, ◌∙◌}
use mathlib.Core.Bool.{Bool, true, false}
use mathlib.Core.List.{List, [], ◌∷◌, ◌++◌}
use Prim.Native.Nat.{ℕ, zero, suc, ◌+◌, ◌-◌, ◌*◌, ◌/◌, ◌%◌, ◌<◌}
use native.Mathlib.Omega.{arith}
use borrow.Author.Tests.{ltb-true, ltb-false}
use lib.Dec.{ltb}
use Rattle.script.specs.Lines.{digit_of, number_from, number_of, pairs}
use Rattle.script.specs.Answers.{decimal_in, decimal, hex_digit, hex_byte}
use Rattle.script.proofs.Reading.{between_in, between-above}

-- the value of a printed decimal digit
digit-back : (m : ℕ) → m < 10 → digit_of (48 + m) ≡ m
unfolding digit_of
digit-back m h = rw (between_in 48 57 (48 + m) (omega arith) (omega arith)) (omega arith)

-- the value of a printed hexadecimal digit
hex-digit-back : (m : ℕ) → m < 16 → digit_of (hex_digit m) ≡ m
unfolding digit_of hex_digit
hex-digit-back m h = go (ltb m 10) refl
  where
    go : (b : Bool) → ltb m 10 ≡ b → digit_of (hex_digit m) ≡ m
    go true e = let k = ltb-true m 10 e in rw e (digit-back m k)
    go false e =
        let k = ltb-false m 10 e in
        rw (e, between-above 48 57 (65 + (m - 10)) (omega arith), between_in 65 70 (65 + (m - 10)) (omega arith) (omega arith)) (omega arith)

-- a digit at the end of a number
number_more : (v : ℕ) (xs : List ℕ) (d : ℕ) → number_from v (xs ++ d ∷ []) ≡ 10 * number_from v xs + digit_of d
number_more v [] d = refl
number_more v (x ∷ xs) d = number_more (10 * v + digit_of x) xs d

number-back-in : (k n : ℕ) → n < k → number_from 0 (decimal_in k n) ≡ n
number-back-in zero n h = omega arith
number-back-in (suc k) n h = go (ltb n 10) refl (λ a. number-back-in k (n / 10) a)
  where
    go : (b : Bool) → ltb n 10 ≡ b → (n / 10 < k → number_from 0 (decimal_in k (n / 10)) ≡ n / 10) → number_from 0 (decimal_in (suc k) n) ≡ n
    go true e f = let q = ltb-true n 10 e in rw e (omega (arith, digit-back n q))
    go false e f =
        let q = ltb-false n 10 e in
        rw e (number_more 0 (decimal_in k (n / 10)) (48 + n % 10) ∙ omega (arith, f (omega arith), digit-back (n % 10) (omega arith)))

-- the decimal digits of a number are read as that number
pub number-back : (n : ℕ) → number_of (decimal n) ≡ n
unfolding number_of decimal
number-back n = number-back-in (suc n) n (omega arith)

-- the two digits of a byte are read as that byte
pub byte-back : (b : ℕ) → b < 256 → pairs (hex_byte b) ≡ b ∷ []
byte-back b h =
    let e : 16 * digit_of (hex_digit (b / 16)) + digit_of (hex_digit (b % 16)) ≡ b =
    omega (arith, hex-digit-back (b / 16) (omega arith), hex-digit-back (b % 16) (omega arith)) in
    ap (λ (x : ℕ). x ∷ []) e
