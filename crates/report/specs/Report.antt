-- Document 02, Wish 12: what a report answers, and what it leaves.
use Rattle.std.specs.Prelude.{◌≡◌, cond, not, ◌||◌, List, ℕ, eqb, ltb, length}
use Rattle.slices.specs.Changed.{laid}
use Rattle.slices.specs.Chosen.{on_zero}
use Rattle.parts.specs.Parts.{figures_of}
use Rattle.device.specs.declared.Device.{Device}
use Rattle.device.specs.declared.Checked.{Checked}
use Rattle.device.specs.Chip.{Chip, chip}
use Rattle.device.specs.Device.{sound}
use Rattle.chip.specs.Events.{Event, run, story}
use Rattle.batch.specs.Items.{items_of, all_good, events_of}
use Rattle.batch.specs.Batch.{lines, numbers, room_for}
use Rattle.report.specs.Totals.{Dealt, dealt, total_of, total_bytes, exceeds, added}

-- the transactions of a list of events on a chip, with their answers
abbrev pub dealt_by : List Event → Chip → List Dealt
dealt_by es c = dealt es (story es c)

-- number i of what a list of events on a chip adds
abbrev pub gained : List Event → Chip → ℕ → ℕ
gained es c i = total_of (figures_of c.device.part) (dealt_by es c) i

-- 6; 2; 9 an item that is not good; 10 a buffer too short, for responses, answers or totals; 71 a sum that 64 bits cannot hold; or 0
unfoldable pub report_number : Device → List ℕ → List ℕ → ℕ → ℕ → List ℕ → ℕ
report_number d array items responses answers totals =
    cond (not (sound d)) 6
    (cond (not (eqb (length array) (figures_of d.part).bytes)) 2
    (cond (not (all_good (items_of items))) 9
    (cond (ltb responses (room_for (events_of items)) || ltb answers (length (events_of items)) || ltb (length totals) total_bytes) 10
    (cond (exceeds (gained (events_of items) (chip d array)) totals) 71
    0))))

-- the chip, and the three buffers
pub record Out : Type 0 where
  pub chip : Chip
  pub responses : List ℕ
  pub answers : List ℕ
  pub totals : List ℕ

-- a list of events carried out in order: the responses one after the other, an answer byte for each event, and each number added to the totals
unfoldable pub counted : List Event → Chip → List ℕ → List ℕ → List ℕ → Out
counted es c responses answers totals =
    record {
      chip = run es c;
      responses = laid 0 (lines (story es c)) responses;
      answers = laid 0 (numbers (story es c)) answers;
      totals = added (gained es c) totals;
    }

-- what a report with this number leaves: only 0 changes anything
unfoldable pub reported : ℕ → Device → List ℕ → List ℕ → List ℕ → List ℕ → List ℕ → Out
reported number d array items responses answers totals =
    on_zero number (counted (events_of items) (chip d array) responses answers totals)
    (record { chip = chip d array; responses = responses; answers = answers; totals = totals })

-- record, array and buffers as they are handed back, that are those
pub record Holds (o : Out) (d : Device) (array responses answers totals : List ℕ) : Type 0 where
  pub device : d ≡ o.chip.device
  pub memory : array ≡ o.chip.array
  pub lines : responses ≡ o.responses
  pub numbers : answers ≡ o.answers
  pub sums : totals ≡ o.totals

-- what a report promises
pub record Reported (d : Device) (array items responses answers totals : List ℕ) (r : Checked) (array' responses' answers' totals' : List ℕ) : Type 0 where
  pub answer : r.answer ≡ report_number d array items (length responses) (length answers) totals
  pub outcome : Holds (reported (report_number d array items (length responses) (length answers) totals) d array items responses answers totals) r.device array' responses' answers' totals'
