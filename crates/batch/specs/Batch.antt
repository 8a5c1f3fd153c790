-- Document 02, Wish 3: what a batch answers, and what it leaves: its events in order.
use Rattle.std.specs.Prelude.{◌≡◌, ℕ, ◌+◌, ◌%◌, cond, not, ◌||◌, List, [], ◌∷◌, ◌++◌, length, ◌==◌, nat_lt}
use Rattle.slices.specs.Bytes.{long}
use Rattle.slices.specs.Changed.{map_at, stored, laid}
use Rattle.slices.specs.Chosen.{on_zero}
use Rattle.parts.specs.Parts.{figures_of}
use Rattle.device.specs.declared.Device.{Device}
use Rattle.device.specs.declared.Checked.{Checked}
use Rattle.device.specs.Chip.{Chip, chip}
use Rattle.device.specs.Device.{sound}
use Rattle.chip.specs.Events.{Event, sends, waits, starts, loses, Reply, run, missed, story}
use Rattle.batch.specs.Items.{items_of, all_good, events_of}

-- the response bytes of a story, one after the other
abbrev pub lines : List Reply → List ℕ
lines [] = []
lines (s ∷ ss) = s.line ++ lines ss

-- its answer numbers, one for each event
abbrev pub numbers : List Reply → List ℕ
numbers [] = []
numbers (s ∷ ss) = s.answer.number ∷ numbers ss

-- the response bytes that an event needs: those of a transaction are as many as it sends
abbrev pub room_of : Event → ℕ
room_of (sends bytes pulses w) = length bytes
room_of (waits t) = 0
room_of starts = 0
room_of (loses mask told) = 0

-- and those that all events need
abbrev pub room_for : List Event → ℕ
room_for [] = 0
room_for (e ∷ es) = room_of e + room_for es

-- the bytes of the sum of the bits missing
abbrev pub missing_bytes : ℕ
missing_bytes = 8

-- the sum wraps at 64 bits
abbrev pub wrapped : ℕ → ℕ
wrapped n = n % 18446744073709551616

-- 6; 2; 9 an item that is not good; 10 a buffer too short, for responses, answers or the bits missing; or 0
unfoldable pub batch_number : Device → ℕ → List ℕ → ℕ → ℕ → ℕ → ℕ
batch_number d array items responses answers missing =
    cond (not (sound d)) 6
    (cond (not (array == (figures_of d.part).bytes)) 2
    (cond (not (all_good (items_of items))) 9
    (cond (nat_lt responses (room_for (events_of items)) || nat_lt answers (length (events_of items)) || nat_lt missing missing_bytes) 10
    0)))

-- the chip, and the three buffers
pub record Out : Type 0 where
  pub chip : Chip
  pub responses : List ℕ
  pub answers : List ℕ
  pub missing : List ℕ

-- a list of events carried out in order: the responses one after the other, an answer byte for each event, and the bits missing of all
unfoldable pub carried_out : List Event → Chip → List ℕ → List ℕ → List ℕ → Out
carried_out es c responses answers missing =
    record {
      chip = run es c;
      responses = laid 0 (lines (story es c)) responses;
      answers = laid 0 (numbers (story es c)) answers;
      missing = map_at (stored 0 (long (wrapped (missed es c)))) missing;
    }

-- what a batch with this number leaves: only 0 changes anything
unfoldable pub batched : ℕ → Device → List ℕ → List ℕ → List ℕ → List ℕ → List ℕ → Out
batched number d array items responses answers missing =
    on_zero number (carried_out (events_of items) (chip d array) responses answers missing)
    (record { chip = chip d array; responses = responses; answers = answers; missing = missing })

-- record, array and buffers as they are handed back, that are those
pub record Holds (o : Out) (d : Device) (array responses answers missing : List ℕ) : Type 0 where
  pub device : d ≡ o.chip.device
  pub memory : array ≡ o.chip.array
  pub lines : responses ≡ o.responses
  pub numbers : answers ≡ o.answers
  pub sum : missing ≡ o.missing

-- what a batch promises
pub record Batched (d : Device) (array items responses answers missing : List ℕ) (r : Checked) (array' responses' answers' missing' : List ℕ) : Type 0 where
  pub answer : r.answer ≡ batch_number d (length array) items (length responses) (length answers) (length missing)
  pub outcome : Holds (batched (batch_number d (length array) items (length responses) (length answers) (length missing)) d array items responses answers missing) r.device array' responses' answers' missing'
