-- Document 02, Wish 3, what is proved of batches: the outcome equals the items given singly, in order.
use Rattle.std.specs.Prelude.{◌≡◌, ℕ, ◌+◌, List, [], ◌∷◌, length}
use Rattle.slices.specs.Bytes.{long}
use Rattle.slices.specs.Changed.{map_at, stored, laid}
use Rattle.device.specs.Time.{wait_call, Handed}
use Rattle.chip.specs.Outcome.{bare, Transacted}
use Rattle.chip.specs.Events.{Chip, Event, sends, waits, starts, loses, Reply}
use Rattle.batch.specs.Batch.{lines, numbers, wrapped, Out}

-- one item given singly to a chip: what the caller sees and the chip that it leaves meet the promise of the call. A transaction goes to `transact`, with a response of its own length, whatever stands in it; a wait goes to `wait`
abbrev pub Single : Event → Chip → Reply → Chip → Type 0
Single (sends bytes pulses w) c r next =
    (response : List ℕ) × (length response ≡ length bytes) × Transacted c.device c.array bytes pulses w response r.answer next.device next.array r.line
Single (waits t) c r next = Handed (wait_call c t) (record { answer = r.answer.number; device = next.device }) next.array × (r.answer ≡ bare r.answer.number) × (r.line ≡ [])
Single starts c r next = ⊥
Single (loses mask told) c r next = ⊥

-- items given singly in order, each to the chip that the one before it left
pub data Singly : List Event → Chip → List Reply → Chip → Type 0 where
  none : (c : Chip) → Singly [] c [] c
  more : (e : Event) (es : List Event) (c : Chip) (r : Reply) (rs : List Reply) (next end : Chip) → Single e c r next → Singly es next rs end → Singly (e ∷ es) c (r ∷ rs) end

-- the bits missing in all of them
abbrev pub missings : List Reply → ℕ
missings [] = 0
missings (r ∷ rs) = r.answer.missing + missings rs

-- what they leave, in the three buffers of a batch
unfoldable pub laid_down : List Reply → Chip → List ℕ → List ℕ → List ℕ → Out
laid_down rs end responses answers missing =
    record { chip = end; responses = laid 0 (lines rs) responses; answers = laid 0 (numbers rs) answers; missing = map_at (stored 0 (long (wrapped (missings rs)))) missing }
