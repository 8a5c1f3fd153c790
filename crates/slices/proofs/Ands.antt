-- Laws of the bitwise and and or that the library does not have.
-- Assumes nothing.
use mathlib.Core.Path.{◌≡◌, sym, ap, ◌∙◌}
use Prim.Native.Nat.{ℕ, ◌%◌, ◌<◌, min}
use native.Mathlib.Nat.{mod-lt, zero-lt-suc, lt_of_le_of_lt, min-le_left, mod-eq_of_lt}
use native.Mathlib.Omega.{arith}
use lib.Arith.{digits_mod}
use lib.Bits.{bit_and, bit_or, and_step, or_add_and, and_self, and_comm, or_comm, and_mask}
use Rattle.std.proofs.lemmas.Nat.{and_assoc, and_or_self}

low-lt : (a b : ℕ) → min (a % 2) (b % 2) < 2
low-lt a b = lt_of_le_of_lt (min-le_left (a % 2) (b % 2)) (mod-lt a (zero-lt-suc 1))

pub and-odd : (a b : ℕ) → bit_and a b % 2 ≡ min (a % 2) (b % 2)
and-odd a b = ap (λ (x : ℕ). x % 2) (and_step a b) ∙ digits_mod _ (low-lt a b)

pub and-swap : (x a b : ℕ) → bit_and (bit_and x a) b ≡ bit_and (bit_and x b) a
and-swap x a b = and_assoc b x a ∙ ap (bit_and x) (and_comm a b) ∙ sym (and_assoc a x b)

-- a byte and FF is the byte
pub and_ff : (x : ℕ) → x < 256 → bit_and x 0xff ≡ x
and_ff x h = and_mask x 8 ∙ mod-eq_of_lt h

-- ---- with the bitwise or

-- an or has every bit of each of the two
pub and-or : (a b : ℕ) → bit_and a (bit_or a b) ≡ a
and-or a b = rw (and_comm a (bit_or a b), or_comm a b) (and_or_self a b)

-- an and has no bit that one of the two has not
pub and-less : (x s : ℕ) → bit_and (bit_and x s) x ≡ bit_and x s
and-less x s = and-swap x s x ∙ ap (λ (y : ℕ). bit_and y s) (and_self x)

-- with more bits in the second, an and keeps more
pub and-more : (x s m : ℕ) → bit_and (bit_and x s) (bit_and x (bit_or s m)) ≡ bit_and x s
and-more x s m =
    sym (and_assoc (bit_or s m) (bit_and x s) x) ∙ ap (λ (y : ℕ). bit_and y (bit_or s m)) (and-less x s) ∙ (and_assoc (bit_or s m) x s ∙ ap (bit_and x) (and-or s m))

-- a byte or FF is FF
pub or_ff : (x : ℕ) → x < 256 → bit_or x 0xff ≡ 255
or_ff x h = let e = or_add_and x 0xff in let f : bit_and x 0xff ≡ x = and_ff x h in omega arith
