-- Document 02, Wish 10: what a transaction with one chip of a row answers and leaves, and a wait of all; and what the calls promise.
use Rattle.std.specs.Prelude.{◌≡◌, Bool, cond, not, ◌||◌, List, ◌++◌, map, ℕ, eqb, leb, ltb, length, set, drop}
use Rattle.slices.specs.Chosen.{on_zero}
use Rattle.device.specs.declared.Device.{Device}
use Rattle.device.specs.Chip.{Chip}
use Rattle.device.specs.Time.{wait_call}
use Rattle.chip.specs.declared.Answer.{Answer}
use Rattle.chip.specs.Outcome.{Outcome, bare, transacted}
use Rattle.chip.specs.Events.{left}
use Rattle.bus.specs.Bus.{sum_of, all_sound, chips_in, row_of, array_of, nth}

-- ---- the numbers, in their order

-- 51: a row of 0 or above 8
abbrev pub out_of_range : ℕ → Bool
out_of_range n = eqb n 0 || ltb 8 n

-- 6: any record of the row is not sound; 53: the array is not the sum of the parts; else 0
unfoldable pub whole_number : List Device → ℕ → ℕ
whole_number row array =
    cond (not (all_sound row)) 6
    (cond (not (eqb array (sum_of row))) 53
    0)

-- waiting: 51, 6, 53, or 0
unfoldable pub wait_number : List Device → ℕ → ℕ
wait_number row array = cond (out_of_range (length row)) 51 (whole_number row array)

-- a transaction: 51, 52 where the chosen chip is not in the row, 6, 53, or 0
unfoldable pub bus_number : List Device → ℕ → ℕ → ℕ
bus_number row array k =
    cond (out_of_range (length row)) 51
    (cond (leb (length row) k) 52
    (whole_number row array))

-- ---- a transaction with chip k

-- the answer, the row, and every byte of array and response
pub record Shared : Type 0 where
  pub answer : Answer
  pub row : List Device
  pub array : List ℕ
  pub response : List ℕ

-- what the chosen chip does: what a transaction does to it alone
unfoldable pub chosen : List Chip → ℕ → List ℕ → ℕ → Bool → List ℕ → Outcome
chosen cs k sent pulses w response = transacted (nth cs k).device (nth cs k).array sent pulses w response

-- refused by 51, 52, 6 or 53: everything as it came. Else the chosen chip does what a transaction does to it, with its answer (3, 4, 5 are its own), and the others do nothing
unfoldable pub bused : List Device → List ℕ → ℕ → List ℕ → ℕ → Bool → List ℕ → Shared
bused row array k sent pulses w response =
    let cs = chips_in row array in
    let o = chosen cs k sent pulses w response in
    on_zero (bus_number row (length array) k)
    (record { answer = o.answer; row = row_of (set cs k (left o)); array = array_of (set cs k (left o)); response = o.response })
    (record { answer = bare (bus_number row (length array) k); row = row; array = array; response = response })

-- what the call on a lent row promises
pub record Bused (o : Shared) (a : Answer) (row' : List Device) (array' response' : List ℕ) : Type 0 where
  pub answer : a ≡ o.answer
  pub records : row' ≡ o.row
  pub memory : array' ≡ o.array
  pub line : response' ≡ o.response

-- ---- a wait of all chips

-- the answer, the row and every byte of the array
pub record Waited : Type 0 where
  pub answer : ℕ
  pub row : List Device
  pub array : List ℕ

-- each chip t ticks later
abbrev pub all_wait : List Chip → ℕ → List Chip
all_wait cs t = map (λ (c : Chip). (wait_call c t).chip) cs

-- refused by 51, 6 or 53: everything as it came. Else every chip waits, each on its own bytes
unfoldable pub bus_waited : List Device → List ℕ → ℕ → Waited
bus_waited row array t =
    let cs = chips_in row array in
    on_zero (wait_number row (length array))
    (record { answer = 0; row = row_of (all_wait cs t); array = array_of (all_wait cs t) })
    (record { answer = wait_number row (length array); row = row; array = array })

-- what the call on a lent row promises
pub record AllWaited (o : Waited) (r : ℕ) (row' : List Device) (array' : List ℕ) : Type 0 where
  pub answer : r ≡ o.answer
  pub records : row' ≡ o.row
  pub memory : array' ≡ o.array

-- ---- a row that is passed by value: the first n of nine places; what stands behind them stays

-- what a transaction promises of it
abbrev pub Turns : ℕ → List Device → Shared → Answer → List Device → List ℕ → List ℕ → Type 0
Turns n places o a places' = Bused (record { answer = o.answer; row = o.row ++ drop n places; array = o.array; response = o.response }) a places'

-- what a wait promises of it
abbrev pub Passes : ℕ → List Device → Waited → ℕ → List Device → List ℕ → Type 0
Passes n places o r places' = AllWaited (record { answer = o.answer; row = o.row ++ drop n places; array = o.array }) r places'
