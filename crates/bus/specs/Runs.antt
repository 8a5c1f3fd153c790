-- Document 02, Wish 10: a bus over lists of calls; what one chip is sent and waits, and what it answers.
use Rattle.std.specs.Prelude.{Bool, true, cond, not, ◌&&◌, ◌||◌, List, [], ◌∷◌, ℕ, eqb, leb, length, take}
use Rattle.device.specs.declared.Device.{Device}
use Rattle.device.specs.Chip.{Chip}
use Rattle.chip.specs.Outcome.{bare}
use Rattle.chip.specs.Events.{Event, sends, waits, Reply}
use Rattle.bus.specs.Bus.{chips_in, nth}
use Rattle.bus.specs.Calls.{bused, bus_waited}

-- a row of records beside an array
pub record Bus : Type 0 where
  pub row : List Device
  pub array : List ℕ

-- its chip k
abbrev pub chip_of : Bus → ℕ → Chip
chip_of b k = nth (chips_in b.row b.array) k

pub data Call : Type 0 where
  -- a transaction with one chip: which, the bytes, the further pulses, the level of W, and the response that is lent
  asks : ℕ → List ℕ → ℕ → Bool → List ℕ → Call
  -- ticks go by, for all chips
  passes : ℕ → Call

-- the number that answers a call
abbrev pub number_of : Call → Bus → ℕ
number_of (asks j sent pulses w response) b = (bused b.row b.array j sent pulses w response).answer.number
number_of (passes t) b = (bus_waited b.row b.array t).answer

-- the bus after a call
abbrev pub next : Call → Bus → Bus
next (asks j sent pulses w response) b = record { row = (bused b.row b.array j sent pulses w response).row; array = (bused b.row b.array j sent pulses w response).array }
next (passes t) b = record { row = (bus_waited b.row b.array t).row; array = (bus_waited b.row b.array t).array }

-- the bus after a list of calls
abbrev pub runs : List Call → Bus → Bus
runs [] b = b
runs (c ∷ cs) b = runs cs (next c b)

-- 3, 4, 5, 6, 51, 52, 53
abbrev pub refusal : ℕ → Bool
refusal n = (leb 3 n && leb n 6) || (leb 51 n && leb n 53)

-- none of the calls is refused by one of these
abbrev pub none_refused : List Call → Bus → Bool
none_refused [] b = true
none_refused (c ∷ cs) b = not (refusal (number_of c b)) && none_refused cs (next c b)

-- what is sent to chip k, and waited
abbrev pub heard : ℕ → List Call → List Event
heard k [] = []
heard k (asks j sent pulses w response ∷ cs) = cond (eqb j k) (sends sent pulses w ∷ heard k cs) (heard k cs)
heard k (passes t ∷ cs) = waits t ∷ heard k cs

-- what chip k gives: the answer to each call that it hears, and as many response bytes as were sent
abbrev pub given : ℕ → List Call → Bus → List Reply
given k [] b = []
given k (asks j sent pulses w response ∷ cs) b =
    let o = bused b.row b.array j sent pulses w response in
    cond (eqb j k) (record { answer = o.answer; line = take (length sent) o.response } ∷ given k cs (next (asks j sent pulses w response) b)) (given k cs (next (asks j sent pulses w response) b))
given k (passes t ∷ cs) b = record { answer = bare (bus_waited b.row b.array t).answer; line = [] } ∷ given k cs (next (passes t) b)
