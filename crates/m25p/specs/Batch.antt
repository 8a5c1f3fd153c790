-- The C call of a batch: 8 or 6 of the packing, else what the batch answers, and every byte of record, array and the three buffers.
use Rattle.std.specs.Prelude.{◌≡◌, List, ℕ, length}
use Rattle.device.specs.Device.{on_zero}
use Rattle.device.specs.Packing.{unpack_answer, unpack_of}
use Rattle.chip.specs.Outcome.{bare}
use Rattle.batch.specs.Batch.{batch_number, Out, batched}
use Rattle.m25p.specs.Calls.{packed_answer, packed_by}

-- the number: 8, 6, 2, 9, 10, or 0
unfoldable pub batch_c : List ℕ → ℕ → List ℕ → ℕ → ℕ → ℕ → ℕ
batch_c packed array items responses answers missing = on_zero (unpack_answer packed) (batch_number (unpack_of packed).device array items responses answers missing) (unpack_answer packed)

-- what is left of the unpacked record beside the array, and of the buffers
unfoldable pub batched_c : List ℕ → List ℕ → List ℕ → List ℕ → List ℕ → List ℕ → Out
batched_c packed array items responses answers missing =
    batched (batch_c packed (length array) items (length responses) (length answers) (length missing)) (unpack_of packed).device array items responses answers missing

-- what the call promises of its answer and of the bytes as they are handed back
pub record BatchedC (packed array items responses answers missing : List ℕ) (r : ℕ) (packed' array' responses' answers' missing' : List ℕ) : Type 0 where
  pub answer : r ≡ packed_answer (bare (batch_c packed (length array) items (length responses) (length answers) (length missing)))
  pub bytes : packed' ≡ packed_by (batch_c packed (length array) items (length responses) (length answers) (length missing)) (batched_c packed array items responses answers missing).chip.device packed
  pub memory : array' ≡ (batched_c packed array items responses answers missing).chip.array
  pub lines : responses' ≡ (batched_c packed array items responses answers missing).responses
  pub numbers : answers' ≡ (batched_c packed array items responses answers missing).answers
  pub sum : missing' ≡ (batched_c packed array items responses answers missing).missing
