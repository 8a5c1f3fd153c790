-- The C calls of a bus: a row of packed records, one after another; what a transaction and a wait answer, and every byte of row, array and response.
use Rattle.std.specs.Prelude.{◌≡◌, cond, List, [], ◌∷◌, ◌++◌, ℕ, zero, suc, ◌/◌, ◌%◌, eqb, length, take, drop}
use Rattle.device.specs.declared.Device.{Device}
use Rattle.device.specs.Device.{on_zero}
use Rattle.device.specs.Packing.{packed_length, pack_of, unpack_of}
use Rattle.chip.specs.Outcome.{bare}
use Rattle.bus.specs.Calls.{Shared, bused, Waited, bus_waited}
use Rattle.m25p.specs.Calls.{packed_answer, high}

-- the records of n packings, one after another; bytes that are not the packing of a sound record give the all-zero record, which is not sound
abbrev pub records_from : ℕ → List ℕ → List Device
records_from zero row = []
records_from (suc n) row = (unpack_of (take packed_length row)).device ∷ records_from n (drop packed_length row)

-- the records of a row
unfoldable pub records_in : List ℕ → List Device
records_in row = records_from (length row / packed_length) row

-- the packings of records, one after another
abbrev pub packed_row : List Device → List ℕ
packed_row [] = []
packed_row (d ∷ ds) = pack_of d ++ packed_row ds

-- 8 where the row is no multiple of a packing's length, else 0
abbrev pub row_answer : ℕ → ℕ
row_answer n = cond (eqb (n % packed_length) 0) 0 8

-- only an answer of 0 changes the row's bytes
abbrev pub row_by : ℕ → List Device → List ℕ → List ℕ
row_by number next row = on_zero number (packed_row next) row

-- ---- a transaction: 8, else that of the row of records

unfoldable pub bused_c : List ℕ → List ℕ → ℕ → List ℕ → ℕ → ℕ → List ℕ → Shared
bused_c row array k sent pulses w response =
    on_zero (row_answer (length row)) (bused (records_in row) array k sent pulses (high w) response)
    (record { answer = bare (row_answer (length row)); row = records_in row; array = array; response = response })

-- what the call promises of its answer and of the bytes as they are handed back
pub record BusedC (o : Shared) (row : List ℕ) (r : ℕ) (row' array' response' : List ℕ) : Type 0 where
  pub answer : r ≡ packed_answer o.answer
  pub bytes : row' ≡ row_by o.answer.number o.row row
  pub memory : array' ≡ o.array
  pub line : response' ≡ o.response

-- ---- a wait: 8, else that of the row of records

unfoldable pub bus_waited_c : List ℕ → List ℕ → ℕ → Waited
bus_waited_c row array t =
    on_zero (row_answer (length row)) (bus_waited (records_in row) array t)
    (record { answer = row_answer (length row); row = records_in row; array = array })

-- what the call promises of its answer and of the bytes as they are handed back
pub record BusWaitedC (o : Waited) (row : List ℕ) (r : ℕ) (row' array' : List ℕ) : Type 0 where
  pub answer : r ≡ packed_answer (bare o.answer)
  pub bytes : row' ≡ row_by o.answer o.row row
  pub memory : array' ≡ o.array
