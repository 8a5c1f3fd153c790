-- What the steps promise: the part that a call names; of salvage one block, its entry in the list, and the walk over all blocks.
use Rattle.std.specs.Prelude.{◌≡◌, ℕ, ◌+◌, ◌*◌, cond, not, List, [], length, ◌==◌, Result, Ok, Err}
use Rattle.refusals.specs.declared.Refusal.{Refusal}
use Rattle.refusals.specs.declared.Refusal.TheVariants.{NoImage, ImageLength}
use Rattle.parts.specs.Parts.{known_part}
use Rattle.slices.specs.Changed.{map_at, stored}
use Rattle.image.specs.Blocks.{reason_of, salvaged_of}
use Rattle.image.specs.Calls.{blocks_of}
use Rattle.image.specs.Images.{mended, bad_places, entry_of, listed}

-- the part that a call names, where the image has the length of its
abbrev pub part_imaged : ℕ → ℕ → Result ℕ Refusal
part_imaged part image = cond (not (known_part part)) (Err NoImage) (cond (not (image == blocks_of part * 512)) (Err ImageLength) (Ok part))

-- one block: the reason, and the block
pub record BlockSalvaged (place : ℕ) (b : List ℕ) (r : ℕ) (b' : List ℕ) : Type 0 where
  pub reason : r ≡ reason_of place b
  pub block : b' ≡ salvaged_of place b

-- an entry of the list for a bad block, nothing for a good one
unfoldable pub note_of : ℕ → ℕ → List ℕ
note_of place why = cond (why == 0) [] (entry_of place why)

-- one entry: the next free byte of the list, and the list
pub record Noted (list : List ℕ) (at place why r : ℕ) (list' : List ℕ) : Type 0 where
  pub next : r ≡ at + length (note_of place why)
  pub places : list' ≡ map_at (stored at (note_of place why)) list

-- all blocks: the bytes of the list that were used, the image, and the list
pub record AllSalvaged (count : ℕ) (image list : List ℕ) (r : ℕ) (image' list' : List ℕ) : Type 0 where
  pub used : r ≡ length (listed image (bad_places image count))
  pub blocks : image' ≡ map_at (mended image) image
  pub places : list' ≡ map_at (stored 0 (listed image (bad_places image count))) list
