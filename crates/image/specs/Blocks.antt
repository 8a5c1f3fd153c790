-- A block of 512 bytes: its number (4 bytes), two sums (2 bytes each), all little-endian, then 504 bytes of the array.
--     head_of      the eight bytes before those of the array
--     filled_up    504 bytes: those of a part of the array, and FF where it has none
--     block_of     a block from its number and its 504 bytes
--     reason_of    why a block is bad at a place, or 0
--     salvaged_of  a block after salvage
use Rattle.std.specs.Prelude.{ℕ, ◌+◌, ◌*◌, ◌/◌, ◌%◌, Bool, cond, ◌&&◌, List, [], ◌∷◌, ◌++◌, drop, replicate, ◌==◌, slice_index, slice_index_or}
use Rattle.slices.specs.Changed.{map_at}
use Rattle.slices.specs.Bytes.{word, word_at}
use Rattle.image.specs.declared.Sums.{Sums}
use Rattle.image.specs.Sums.{sums_of}

-- a 16-bit number, little-endian
abbrev pub half : ℕ → List ℕ
half n = n % 256 ∷ n / 256 ∷ []

-- the little-endian number of the two bytes from `at` on
abbrev pub half_at : List ℕ → ℕ → ℕ
half_at b at = slice_index b at + 256 * slice_index b (at + 1)

abbrev pub head_of : ℕ → Sums → List ℕ
head_of number s = word number ++ half s.first ++ half s.second

unfoldable pub filled_up : List ℕ → List ℕ
filled_up part = map_at (slice_index_or part) (replicate 504 255)

unfoldable pub block_of : ℕ → List ℕ → List ℕ
block_of number bytes = head_of number (sums_of number bytes) ++ bytes

-- the sums that stand in a block
abbrev pub sums_in : List ℕ → Sums
sums_in b = record { first = half_at b 4; second = half_at b 6 }

-- whether two pairs of sums are the same
abbrev pub same_sums : Sums → Sums → Bool
same_sums s t = s.first == t.first && s.second == t.second

-- 1 the number is not the block's place, 2 a sum is wrong, 0 the block is good; what fills up the last one counts in the sums, and need not be FF
unfoldable pub reason_of : ℕ → List ℕ → ℕ
reason_of place b = cond (word_at b 0 == place) (cond (same_sums (sums_in b) (sums_of place (drop 8 b))) 0 2) 1

-- a good block as it was, a bad one with FF for its 504 bytes and a right head
unfoldable pub salvaged_of : ℕ → List ℕ → List ℕ
salvaged_of place b = cond (reason_of place b == 0) b (block_of place (filled_up []))
