-- The chip over lists of events: what may be done to it, what that leaves, and what the caller sees.
use Rattle.std.specs.Prelude.{◌≡◌, Bool, true, false, ◌&&◌, List, [], ◌∷◌, ℕ, ◌+◌, length, replicate}
use Rattle.parts.specs.Parts.{figures_of}
use Rattle.device.specs.Device.{sound}
pub use Rattle.device.specs.Chip.{Chip}
use Rattle.device.specs.Time.{wait_call, power_up_call, loss_call}
use Rattle.chip.specs.declared.Answer.{Answer}
use Rattle.chip.specs.Outcome.{Outcome, bare, transacted}

-- a sound record, and an array of the part's length
pub record Good (c : Chip) : Type 0 where
  pub sound : sound c.device ≡ true
  pub whole : length c.array ≡ (figures_of c.device.part).bytes

pub data Event : Type 0 where
  -- a transaction: its bytes, the further pulses, the level of W
  sends : List ℕ → ℕ → Bool → Event
  -- ticks go by
  waits : ℕ → Event
  -- power-up
  starts : Event
  -- power is lost and comes back: a mask, and yes or no
  loses : List ℕ → Bool → Event

-- a test holds of each event of a list
abbrev pub every : (Event → Bool) → List Event → Bool
every test [] = true
every test (e ∷ es) = test e && every test es

-- a transaction or a wait: power stays on
abbrev pub goes_on : Event → Bool
goes_on (sends bytes p w) = true
goes_on (waits t) = true
goes_on starts = false
goes_on (loses mask told) = false

-- what the caller sees: the answer, and as many response bytes as were sent
pub record Reply : Type 0 where
  pub answer : Answer
  pub line : List ℕ

-- a transaction with a response of its own length
unfoldable pub sent : Chip → List ℕ → ℕ → Bool → Outcome
sent c bytes pulses w = transacted c.device c.array bytes pulses w (replicate (length bytes) 0)

-- the chip as a transaction leaves it
abbrev pub left : Outcome → Chip
left o = record { device = o.device; array = o.array }

-- the chip after one event
abbrev pub after : Event → Chip → Chip
after (sends bytes pulses w) c = left (sent c bytes pulses w)
after (waits t) c = (wait_call c t).chip
after starts c = (power_up_call c).chip
after (loses mask told) c = (loss_call c mask told).chip

-- what the caller sees of one event
abbrev pub reply : Event → Chip → Reply
reply (sends bytes pulses w) c = record { answer = (sent c bytes pulses w).answer; line = (sent c bytes pulses w).response }
reply (waits t) c = record { answer = bare (wait_call c t).answer; line = [] }
reply starts c = record { answer = bare (power_up_call c).answer; line = [] }
reply (loses mask told) c = record { answer = bare (loss_call c mask told).answer; line = [] }

-- one event after the other
abbrev pub run : List Event → Chip → Chip
run [] c = c
run (e ∷ es) c = run es (after e c)

-- the bits missing, summed over the events
abbrev pub missed : List Event → Chip → ℕ
missed [] c = 0
missed (e ∷ es) c = (reply e c).answer.missing + missed es (after e c)

-- what the caller sees, in order
abbrev pub story : List Event → Chip → List Reply
story [] c = []
story (e ∷ es) c = reply e c ∷ story es (after e c)
