-- An image as a whole: block p is the 512 bytes from p * 512 on, and has the 504 bytes of the array from p * 504 on.
--     part_of     part p of a list in parts of n bytes; the last one may have fewer
--     partwise   byte i of the whole is byte i mod n of part i / n, where the part has one
--     imaged     what byte i of an image becomes, from the array
--     unimaged   what byte i of an array becomes, from the image; what fills up the last block has no byte there
--     mended     what byte i of an image becomes by salvage
--     bad_places  the places of the bad blocks among the first ones, in order
--     listed     the list of bad blocks: an entry for each, one behind the other
use Rattle.std.specs.Prelude.{ℕ, zero, suc, ◌*◌, ◌/◌, ◌%◌, cond, List, [], ◌∷◌, ◌++◌, take, drop, ◌==◌, slice_index_or}
use Rattle.slices.specs.Bytes.{word}
use Rattle.image.specs.Blocks.{filled_up, block_of, reason_of, salvaged_of}

abbrev pub part_of : ℕ → ℕ → List ℕ → List ℕ
part_of n p xs = take n (drop (p * n) xs)

abbrev pub partwise : ℕ → (ℕ → List ℕ) → ℕ → ℕ → ℕ
partwise n part i x = slice_index_or (part (i / n)) (i % n) x

abbrev pub imaged : List ℕ → ℕ → ℕ → ℕ
imaged array = partwise 512 (λ p. block_of p (filled_up (part_of 504 p array)))

abbrev pub unimaged : List ℕ → ℕ → ℕ → ℕ
unimaged image = partwise 504 (λ p. drop 8 (part_of 512 p image))

abbrev pub mended : List ℕ → ℕ → ℕ → ℕ
mended image = partwise 512 (λ p. salvaged_of p (part_of 512 p image))

-- why the block at a place of an image is bad, or 0
abbrev pub reason_at : List ℕ → ℕ → ℕ
reason_at image p = reason_of p (part_of 512 p image)

unfoldable pub bad_places : List ℕ → ℕ → List ℕ
bad_places image zero = []
bad_places image (suc p) = bad_places image p ++ cond (reason_at image p == 0) [] (p ∷ [])

-- a block's number and the reason, four bytes each, little-endian
abbrev pub entry_of : ℕ → ℕ → List ℕ
entry_of place why = word place ++ word why

unfoldable pub listed : List ℕ → List ℕ → List ℕ
listed image [] = []
listed image (p ∷ ps) = entry_of p (reason_at image p) ++ listed image ps
