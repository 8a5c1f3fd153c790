-- The C call of raw pins: 8 or 6 of the packing, else what the run answers, and every byte of record, array and output.
use Rattle.std.specs.Prelude.{◌≡◌, List, ℕ, length}
use Rattle.slices.specs.Changed.{map_at, window}
use Rattle.device.specs.Device.{on_zero}
use Rattle.device.specs.Packing.{unpack_answer, unpack_of}
use Rattle.pins.specs.Run.{chip_after, output_at, run_answer, answer_of}
use Rattle.m25p.specs.Calls.{packed_answer, packed_by}

-- the number: 8, 6, 2, 21, 22, 23, or 0
unfoldable pub pins_c : List ℕ → ℕ → List ℕ → ℕ → ℕ
pins_c packed array samples output = on_zero (unpack_answer packed) (run_answer (unpack_of packed).device array samples output) (unpack_answer packed)

-- what the call promises of its answer and of the bytes as they are handed back
pub record RanC (packed array samples output : List ℕ) (r : ℕ) (packed' array' output' : List ℕ) : Type 0 where
  pub answer : r ≡ packed_answer (answer_of (pins_c packed (length array) samples (length output)) (unpack_of packed).device array samples)
  pub bytes : packed' ≡ packed_by (pins_c packed (length array) samples (length output)) (chip_after (unpack_of packed).device array samples).device packed
  pub memory : array' ≡ on_zero (pins_c packed (length array) samples (length output)) (chip_after (unpack_of packed).device array samples).array array
  pub shown : output' ≡ on_zero (pins_c packed (length array) samples (length output)) (map_at (window 0 (length samples) (output_at (unpack_of packed).device array samples)) output) output
