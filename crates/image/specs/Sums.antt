-- The two sums of a block (document 02, Wish 7): both wrap at 65,536.
--     sums_from  the sums after more bytes: the first adds each byte, and then the second adds the first
--     sums_of    the sums of a block's bytes: the first starts at the block number modulo 65,536, the second at 0
use Rattle.std.specs.Prelude.{ℕ, ◌+◌, ◌%◌, List, [], ◌∷◌}
use Rattle.image.specs.declared.Sums.{Sums}

unfoldable pub sums_from : ℕ → ℕ → List ℕ → Sums
sums_from a b [] = record { first = a; second = b }
sums_from a b (x ∷ xs) = let s = (a + x) % 65536 in sums_from s ((b + s) % 65536) xs

unfoldable pub sums_of : ℕ → List ℕ → Sums
sums_of number bytes = sums_from (number % 65536) 0 bytes
