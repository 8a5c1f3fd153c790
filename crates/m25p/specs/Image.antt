-- The C calls of images: what the writer, the reader and salvage answer, with a number of blocks in bits 16 to 47, and every byte of image, array and list.
use Rattle.std.specs.Prelude.{◌≡◌, List, ℕ, length}
use Rattle.chip.specs.declared.Answer.{Answer}
use Rattle.chip.specs.Outcome.{bare}
use Rattle.image.specs.declared.Reply.{Reply}
use Rattle.image.specs.Calls.{copy_number, read_reply, salvage_reply, image_written, array_read, image_salvaged, list_salvaged}
use Rattle.m25p.specs.Calls.{packed_answer}

-- a number of blocks where a transaction has its driven count
unfoldable pub with_blocks : Reply → Answer
with_blocks r = record { number = r.answer; first = 0; count = r.blocks; missing = 0 }

-- what each call promises of its answer and of the bytes as they are handed back
pub record WrittenC (part : ℕ) (array image : List ℕ) (r : ℕ) (image' : List ℕ) : Type 0 where
  pub answer : r ≡ packed_answer (bare (copy_number part (length array) (length image)))
  pub blocks : image' ≡ image_written part array image

pub record ReadC (part : ℕ) (image array : List ℕ) (r : ℕ) (array' : List ℕ) : Type 0 where
  pub answer : r ≡ packed_answer (with_blocks (read_reply part image (length array)))
  pub memory : array' ≡ array_read part image array

pub record SalvagedC (part : ℕ) (image list : List ℕ) (r : ℕ) (image' list' : List ℕ) : Type 0 where
  pub answer : r ≡ packed_answer (with_blocks (salvage_reply part image (length list)))
  pub blocks : image' ≡ image_salvaged part image list
  pub places : list' ≡ list_salvaged part image list
