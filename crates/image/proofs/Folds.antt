-- Laws of the two sums.
-- Assumes nothing.
use Rattle.std.proofs.Common.{◌≡◌, ℕ, ◌+◌, ◌%◌, ◌<◌, ◌≤◌, List, length, get_or, drop, add-one, drop_of_length-le, drop-cons}
use Rattle.image.specs.Sums.{sums_from}

-- one turn of the loop: h is the byte, s and t are the new sums
pub sums_next : (a b h s t : ℕ) (xs : List ℕ) (i : ℕ) → i < length xs → h ≡ get_or xs i 0 → s ≡ (a + h) % 65536 → t ≡ (b + s) % 65536
    → sums_from s t (drop (i + 1) xs) ≡ sums_from a b (drop i xs)
unfolding sums_from
sums_next a b h s t xs i lt e p q = rw (drop-cons xs i 0 lt, add-one i, q, p, e)

-- the loop has come to the end
pub sums-end : (a b : ℕ) (xs : List ℕ) (i : ℕ) → length xs ≤ i → record { first = a; second = b } ≡ sums_from a b (drop i xs)
unfolding sums_from
sums-end a b xs i h = rw (drop_of_length-le xs h)
