-- Wish 1, the pins alone: one sample at a time, which bits are taken, and the transactions found.
use Rattle.std.specs.Prelude.{Bool, true, false, cond, not, ◌&&◌, ◌||◌, List, [], ◌∷◌, ◌++◌, ℕ, ◌+◌, ◌*◌, ◌/◌, ◌%◌, eqb, leb, ltb, length}
use Rattle.chip.specs.Table.{longest}
use Rattle.pins.specs.declared.levels.Levels.{Levels}

-- ---- the levels

-- a sample: bit 0 Chip Select, 1 clock, 2 data in, 3 W, 4 Hold, each as its level
unfoldable pub levels_of : ℕ → Levels
levels_of s =
    record { select = eqb (s % 2) 1; clock = eqb (s / 2 % 2) 1; «data» = eqb (s / 4 % 2) 1; w = eqb (s / 8 % 2) 1; hold = eqb (s / 16 % 2) 1 }

-- the pins that are kept from sample to sample, each as its level, and whether there is a hold; data and W are read in the sample alone
pub record Pins : Type 0 where
  pub select : Bool
  pub clock : Bool
  pub hold : Bool
  pub holding : Bool

-- before the first sample Select and Hold are high, the clock low
unfoldable pub rest : Pins
rest = record { select = true; clock = false; hold = true; holding = false }

-- a Select change is taken first: Hold low as Select falls counts as a fall then, so with the clock low there is a hold at once
unfoldable pub on_select : Pins → Levels → Pins
on_select p now =
    record { select = now.select; clock = p.clock; hold = p.hold; holding = cond (p.select && not now.select) (not p.hold && not p.clock) p.holding }

-- then the clock: as it goes low, a hold starts if Hold is low, and ends if it is high
unfoldable pub on_clock : Pins → Levels → Pins
on_clock p now = record { select = p.select; clock = now.clock; hold = p.hold; holding = cond (p.clock && not now.clock) (not p.hold) p.holding }

-- then Hold: with the clock low its fall starts a hold and its rise ends it, with the clock high either waits
unfoldable pub on_hold : Pins → Levels → Pins
on_hold p now = record { select = p.select; clock = p.clock; hold = now.hold; holding = cond p.clock p.holding (not now.hold) }

-- the pins after one sample more
unfoldable pub next_pins : Pins → Levels → Pins
next_pins p now = on_hold (on_clock (on_select p now) now) now

-- ---- what happens in a sample; p are the pins before it, or, for the clock, with Select taken

-- Select changes
unfoldable pub changes : Pins → Levels → Bool
changes p now = p.select && not now.select || not p.select && now.select

-- Select rises outside a hold: the transaction is carried out (rising during a hold throws it away)
unfoldable pub ends : Pins → Levels → Bool
ends p now = not p.select && now.select && not p.holding

-- data is taken: the clock rises with Select low and no hold
unfoldable pub takes : Pins → Levels → Bool
takes p now = not p.select && not p.holding && (not p.clock && now.clock)

-- the output changes: the clock falls with Select low and no hold
unfoldable pub moves : Pins → Levels → Bool
moves p now = not p.select && not p.holding && (p.clock && not now.clock)

-- ---- a transaction

-- one that was found: the whole bytes, the further pulses, and W as Select rose
pub record Transaction : Type 0 where
  pub sent : List ℕ
  pub pulses : ℕ
  pub w : Bool

-- what the output shows: nothing before the clock has fallen, then the bit that follows these whole bytes and further pulses
pub data Shown : Type 0 where
  nothing : Shown
  after : List ℕ → ℕ → Shown

-- one that is under way: the whole bytes, the further pulses, the register of eight bits that the data is shifted into, and what the output shows
pub record Taking : Type 0 where
  pub sent : List ℕ
  pub pulses : ℕ
  pub register : ℕ
  pub shown : Shown

-- as Select changes: no bytes, no pulses
unfoldable pub anew : Taking
anew = record { sent = []; pulses = 0; register = 0; shown = nothing }

-- the register with one bit more, most significant bit first
unfoldable pub shifted : ℕ → Bool → ℕ
shifted register bit = cond bit (register % 128 * 2 + 1) (register % 128 * 2)

-- one bit more: the eighth makes a whole byte
unfoldable pub bit_taken : Taking → Bool → Taking
bit_taken t bit =
    cond (eqb t.pulses 7)
    (record { sent = t.sent ++ (shifted t.register bit ∷ []); pulses = 0; register = shifted t.register bit; shown = t.shown })
    (record { sent = t.sent; pulses = t.pulses + 1; register = shifted t.register bit; shown = t.shown })

-- the output moves on
unfoldable pub moved_on : Taking → Taking
moved_on t = record { sent = t.sent; pulses = t.pulses; register = t.register; shown = after t.sent t.pulses }

-- the clock, with Select taken
unfoldable pub clocked : Pins → Levels → Taking → Taking
clocked p now t = cond (takes p now) (bit_taken t now.«data») (cond (moves p now) (moved_on t) t)

-- after one sample more
unfoldable pub next_taking : Pins → Levels → Taking → Taking
next_taking p now t = clocked (on_select p now) now (cond (changes p now) anew t)

-- the transactions found, with one more where Select rises outside a hold
unfoldable pub next_found : Pins → Levels → Taking → List Transaction → List Transaction
next_found p now t found = cond (ends p now) (found ++ (record { sent = t.sent; pulses = t.pulses; w = now.w } ∷ [])) found

-- ---- the machine

-- the pins, the transaction under way, those found so far, and whether one, thrown away and unfinished ones too, was above 65,536 bytes
pub record Seen : Type 0 where
  pub pins : Pins
  pub taking : Taking
  pub found : List Transaction
  pub long : Bool

unfoldable pub at_rest : Seen
at_rest = record { pins = rest; taking = anew; found = []; long = false }

-- one sample
unfoldable pub step : Seen → Levels → Seen
step x now =
    record {
      pins = next_pins x.pins now;
      taking = next_taking x.pins now x.taking;
      found = next_found x.pins now x.taking x.found;
      long = x.long || ltb longest (length (next_taking x.pins now x.taking).sent);
    }

-- samples, one after the other
abbrev pub seen_from : Seen → List ℕ → Seen
seen_from x [] = x
seen_from x (s ∷ samples) = seen_from (step x (levels_of s)) samples

-- what is seen after these samples
unfoldable pub seen : List ℕ → Seen
seen samples = seen_from at_rest samples

-- a transaction is above 65,536 bytes
unfoldable pub too_long : List ℕ → Bool
too_long samples = (seen samples).long

-- a sample has one of the bits 5 to 7 set
abbrev pub odd_from : Bool → List ℕ → Bool
odd_from odd [] = odd
odd_from odd (s ∷ samples) = odd_from (odd || leb 32 s) samples

unfoldable pub odd_samples : List ℕ → Bool
odd_samples samples = odd_from false samples
