-- Wish 1, a run: the transactions carried out in order, the output after each sample, and what the call promises.
use Rattle.std.specs.Prelude.{◌≡◌, cond, not, ◌||◌, List, [], ◌∷◌, ℕ, ◌+◌, ◌-◌, ◌/◌, ◌%◌, ◌^◌, eqb, ltb, length, take}
use Rattle.slices.specs.Changed.{map_at, window}
use Rattle.parts.specs.Parts.{figures_of}
use Rattle.device.specs.declared.Device.{Device}
use Rattle.device.specs.Device.{sound, on_zero}
use Rattle.chip.specs.Line.{Driven, silent, drives, driven}
use Rattle.chip.specs.declared.Answer.{Answer}
use Rattle.chip.specs.declared.Done.{Done}
pub use Rattle.chip.specs.Events.{Chip}
use Rattle.chip.specs.Events as chip
use Rattle.pins.specs.Pins.{Transaction, Shown, nothing, after, Seen, seen, odd_samples, too_long}

-- ---- the transactions, carried out

-- one transaction; its response is kept by nobody
abbrev pub carried_out : Chip → Transaction → Chip
carried_out c t = chip.after (chip.sends t.sent t.pulses t.w) c

-- transactions are events of the chip
abbrev pub events_of : List Transaction → List chip.Event
events_of [] = []
events_of (t ∷ ts) = chip.sends t.sent t.pulses t.w ∷ events_of ts

-- transactions in order
abbrev pub carried_all : Chip → List Transaction → Chip
carried_all c ts = chip.run (events_of ts) c

-- the chip after these samples
unfoldable pub chip_after : Device → List ℕ → List ℕ → Chip
chip_after d array samples = carried_all (record { device = d; array = array }) (seen samples).found

-- the bits missing after these samples: the sum over the transactions carried out
unfoldable pub missed_in : Device → List ℕ → List ℕ → ℕ
missed_in d array samples = chip.missed (events_of (seen samples).found) (record { device = d; array = array })

-- ---- the output

-- bit 7 - k of what is driven, 2 for not driven
abbrev pub bit_in : Driven → ℕ → ℕ
bit_in silent k = 2
bit_in (drives b) k = b / 2 ^ (7 - k) % 2

-- the bit that is shown
abbrev pub bit_shown : Chip → Shown → ℕ
bit_shown c nothing = 2
bit_shown c (after sent k) = bit_in (driven c.device c.array sent) k

-- in a hold or with Select high the output is 2
unfoldable pub output_of : Chip → Seen → ℕ
output_of c x = cond (x.pins.select || x.pins.holding) 2 (bit_shown c x.taking.shown)

-- the output after these samples
unfoldable pub output_after : Device → List ℕ → List ℕ → ℕ
output_after d array samples = output_of (chip_after d array samples) (seen samples)

-- output byte i is the output after sample i
unfoldable pub output_at : Device → List ℕ → List ℕ → ℕ → ℕ → ℕ
output_at d array samples i x = output_after d array (take (i + 1) samples)

-- ---- the call

-- refused: 6, 2, then 21 a sample with bits 5 to 7 set, 22 a transaction above 65,536 bytes, 23 an output too short; or 0
unfoldable pub run_answer : Device → ℕ → List ℕ → ℕ → ℕ
run_answer d array samples output =
    cond (not (sound d)) 6
    (cond (not (eqb array (figures_of d.part).bytes)) 2
    (cond (odd_samples samples) 21
    (cond (too_long samples) 22
    (cond (ltb output (length samples)) 23
    0))))

-- a run's whole answer: its number, nothing driven, and with 0 the bits missing
unfoldable pub answer_of : ℕ → Device → List ℕ → List ℕ → Answer
answer_of number d array samples = record { number = number; first = 0; count = 0; missing = on_zero number (missed_in d array samples) 0 }

-- what a run promises: only an answer of 0 changes anything; output bytes beyond the samples are untouched
pub record Ran (d : Device) (array samples output : List ℕ) (r : Done) (array' output' : List ℕ) : Type 0 where
  pub answer : r.answer ≡ answer_of (run_answer d (length array) samples (length output)) d array samples
  pub device : r.device ≡ on_zero (run_answer d (length array) samples (length output)) (chip_after d array samples).device d
  pub memory : array' ≡ on_zero (run_answer d (length array) samples (length output)) (chip_after d array samples).array array
  pub shown : output' ≡ on_zero (run_answer d (length array) samples (length output)) (map_at (window 0 (length samples) (output_at d array samples)) output) output
