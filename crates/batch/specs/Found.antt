-- What the two passes over a batch promise.
use Rattle.std.specs.Prelude.{◌≡◌, ℕ, ◌+◌, List, length}
use Rattle.slices.specs.Changed.{laid}
use Rattle.device.specs.Chip.{Chip}
use Rattle.chip.specs.declared.Done.{Done}
use Rattle.chip.specs.Events.{Event, sends, waits, after, reply, run, missed, story}
use Rattle.batch.specs.declared.Sizes.{Sizes}
use Rattle.batch.specs.declared.reading.Item.{Item}
use Rattle.batch.specs.declared.reading.Item.TheVariants.{Transaction, Wait}
use Rattle.batch.specs.declared.Tally.{Tally}
use Rattle.batch.specs.Items.{events_of}
use Rattle.batch.specs.Batch.{lines, numbers, room_for, wrapped}

-- an item as the code reads it, as an event
abbrev pub event_of : Item → Event
event_of (Transaction sent pulses w) = sends sent.now pulses w
event_of (Wait ticks) = waits ticks

-- what the first pass finds
pub record SizesAre (items : List ℕ) (s : Sizes) : Type 0 where
  pub room : s.room ≡ room_for (events_of items)
  pub count : s.count ≡ length (events_of items)

-- one event carried out
pub record OneDone (e : Event) (c : Chip) (o : Done) (array response : List ℕ) : Type 0 where
  pub answer : o.answer ≡ (reply e c).answer
  pub device : o.device ≡ (after e c).device
  pub memory : array ≡ (after e c).array
  pub line : response ≡ (reply e c).line

-- the chip, the two buffers and the sum so far
pub record Carried : Type 0 where
  pub chip : Chip
  pub responses : List ℕ
  pub answers : List ℕ
  pub missing : ℕ

-- events carried out: their lines laid into the responses from place a on, their numbers into the answers from place k on, the bits missing added to m
unfoldable pub carried_from : List Event → Chip → ℕ → List ℕ → ℕ → List ℕ → ℕ → Carried
carried_from es c a responses k answers m =
    record {
      chip = run es c;
      responses = laid a (lines (story es c)) responses;
      answers = laid k (numbers (story es c)) answers;
      missing = wrapped (m + missed es c);
    }

-- record, sum, array and buffers as they are handed back, that are those
pub record CarriedAs (o : Carried) (r : Tally) (array responses answers : List ℕ) : Type 0 where
  pub device : r.device ≡ o.chip.device
  pub missing : r.missing ≡ o.missing
  pub memory : array ≡ o.chip.array
  pub lines : responses ≡ o.responses
  pub numbers : answers ≡ o.answers
