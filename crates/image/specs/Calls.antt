-- Writer, reader and salvage: what each answers, and what it leaves. Only an answer of 0 changes a lent buffer.
use Rattle.std.specs.Prelude.{◌≡◌, ℕ, ◌+◌, ◌*◌, ◌/◌, cond, not, List, [], ◌∷◌, length, ◌==◌, nat_lt}
use Rattle.slices.specs.Changed.{map_at, stored}
use Rattle.slices.specs.Chosen.{on_zero}
use Rattle.parts.specs.Parts.{figures_of, known_part}
use Rattle.image.specs.declared.Reply.{Reply}
use Rattle.image.specs.Images.{imaged, unimaged, mended, bad_places, listed}

-- how many blocks a part's image has: its bytes divided by 504, rounded up
unfoldable pub blocks_of : ℕ → ℕ
blocks_of part = ((figures_of part).bytes + 503) / 504

-- writer and reader: 31, 32, 2, or 0
unfoldable pub copy_number : ℕ → ℕ → ℕ → ℕ
copy_number part array image =
    cond (not (known_part part)) 31
    (cond (not (image == blocks_of part * 512)) 32
    (cond (not (array == (figures_of part).bytes)) 2
    0))

-- salvage: 31, 32, 34, or 0; a place of the list has eight bytes
unfoldable pub salvage_number : ℕ → ℕ → ℕ → ℕ
salvage_number part image list =
    cond (not (known_part part)) 31
    (cond (not (image == blocks_of part * 512)) 32
    (cond (nat_lt (list / 8) (blocks_of part)) 34
    0))

-- an answer, and a number of blocks beside it
abbrev pub reply : ℕ → ℕ → Reply
reply answer blocks = record { answer = answer; blocks = blocks }

-- the reader: 33 with the first of the bad places
abbrev pub found_bad : List ℕ → Reply
found_bad [] = reply 0 0
found_bad (p ∷ ps) = reply 33 p

unfoldable pub read_reply : ℕ → List ℕ → ℕ → Reply
read_reply part image array =
    on_zero (copy_number part array (length image)) (found_bad (bad_places image (blocks_of part))) (reply (copy_number part array (length image)) 0)

-- salvage: with 0 how many blocks were bad
unfoldable pub salvage_reply : ℕ → List ℕ → ℕ → Reply
salvage_reply part image list =
    on_zero (salvage_number part (length image) list) (reply 0 (length (bad_places image (blocks_of part)))) (reply (salvage_number part (length image) list) 0)

-- what the writer leaves of the image
abbrev pub image_written : ℕ → List ℕ → List ℕ → List ℕ
image_written part array image = on_zero (copy_number part (length array) (length image)) (map_at (imaged array) image) image

-- what the reader leaves of the array
abbrev pub array_read : ℕ → List ℕ → List ℕ → List ℕ
array_read part image array = on_zero (read_reply part image (length array)).answer (map_at (unimaged image) array) array

-- what salvage leaves of the image and of the list
abbrev pub image_salvaged : ℕ → List ℕ → List ℕ → List ℕ
image_salvaged part image list = on_zero (salvage_number part (length image) (length list)) (map_at (mended image) image) image

abbrev pub list_salvaged : ℕ → List ℕ → List ℕ → List ℕ
list_salvaged part image list =
    on_zero (salvage_number part (length image) (length list)) (map_at (stored 0 (listed image (bad_places image (blocks_of part)))) list) list

-- what each promises of its answer and of the lent bytes as they are handed back
pub record Written (part : ℕ) (array image : List ℕ) (r : ℕ) (image' : List ℕ) : Type 0 where
  pub answer : r ≡ copy_number part (length array) (length image)
  pub blocks : image' ≡ image_written part array image

pub record Read (part : ℕ) (image array : List ℕ) (r : Reply) (array' : List ℕ) : Type 0 where
  pub answer : r ≡ read_reply part image (length array)
  pub memory : array' ≡ array_read part image array

pub record Salvaged (part : ℕ) (image list : List ℕ) (r : Reply) (image' list' : List ℕ) : Type 0 where
  pub answer : r ≡ salvage_reply part image (length list)
  pub blocks : image' ≡ image_salvaged part image list
  pub places : list' ≡ list_salvaged part image list
