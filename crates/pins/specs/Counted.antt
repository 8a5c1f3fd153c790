-- A run as the code holds it: the pins, numbers in place of the list of bytes, the byte that is driven and the bit that shows.
use Rattle.std.specs.Prelude.{◌≡◌, Bool, Option, Some, None, cond, List, ℕ, ◌+◌, ◌-◌, ◌*◌, ◌/◌, ◌%◌, ◌^◌, eqb, length, take, set}
use Rattle.slices.specs.Changed.{map_at, window}
use Rattle.device.specs.declared.Device.{Device}
use Rattle.chip.specs.Line.{driven}
use Rattle.chip.specs.Line.{line_byte}
use Rattle.chip.specs.Outcome.{transacted}
use Rattle.chip.specs.Events.{left}
use Rattle.pins.specs.declared.levels.Kept.{Kept}
use Rattle.pins.specs.declared.levels.Levels.{Levels}
use Rattle.pins.specs.declared.underway.Bit.{Bit}
use Rattle.pins.specs.declared.underway.Bit.TheVariants.{Low, High, Nothing}
use Rattle.pins.specs.declared.underway.Underway.{Underway}
use Rattle.pins.specs.Pins.{levels_of, Pins, on_select, changes, takes, moves, ends, shifted, Shown, nothing, after, Taking}
use Rattle.pins.specs.declared.Tally.{Tally}
use Rattle.pins.specs.Run.{Chip, chip_after, missed_in, output_at}

-- ---- the pins

-- those that the code keeps from sample to sample
unfoldable pub pins_of : Kept → Pins
pins_of k = record { select = k.select; clock = k.clock; hold = k.hold; holding = k.holding }

-- those after a sample, with whether there is a hold after it
unfoldable pub pins_after : ℕ → Bool → Pins
pins_after s holding = record { select = (levels_of s).select; clock = (levels_of s).clock; hold = (levels_of s).hold; holding = holding }

-- ---- the bits taken

-- eight for each whole byte, and the further pulses
abbrev pub bits_taken : Taking → ℕ
bits_taken t = 8 * length t.sent + t.pulses

-- their number after one sample more
unfoldable pub next_count : ℕ → Pins → Levels → ℕ
next_count n p now = cond (takes (on_select p now) now) (cond (changes p now) 0 n + 1) (cond (changes p now) 0 n)

-- ---- the transaction under way

-- bit 7 - k of a driven byte, as the code holds it
abbrev pub bit_now : Option ℕ → ℕ → Bit
bit_now None k = Nothing
bit_now (Some byte) k = cond (eqb (byte / 2 ^ (7 - k) % 2) 1) High Low

-- the output byte of a bit: 2 where none shows
abbrev pub level : Bit → ℕ
level Low = 0
level High = 1
level Nothing = 2

-- the bit that is shown, as the code holds it
abbrev pub bit_held : Chip → Shown → Bit
bit_held c nothing = Nothing
bit_held c (after sent k) = bit_now (line_byte (driven c.device c.array sent)) k

unfoldable pub underway_of : Chip → Taking → Underway
underway_of c t =
    record {
      whole = length t.sent;
      pulses = t.pulses;
      register = t.register;
      driven = line_byte (driven c.device c.array t.sent);
      bit = bit_held c t.shown;
    }

-- no bit taken, nothing driven
unfoldable pub none_yet : Underway
none_yet = record { whole = 0; pulses = 0; register = 0; driven = None; bit = Nothing }

-- the output moves on
unfoldable pub shown_on : Underway → Underway
shown_on u = record { whole = u.whole; pulses = u.pulses; register = u.register; driven = u.driven; bit = bit_now u.driven u.pulses }

-- the bytes with one bit more: the eighth makes a whole byte, which is stored
unfoldable pub stored : List ℕ → Underway → Bool → List ℕ
stored sent u bit = cond (eqb u.pulses 7) (set sent u.whole (shifted u.register bit)) sent

-- one bit more: the eighth asks for the next byte to drive
unfoldable pub one_more : Underway → Device → List ℕ → List ℕ → Bool → Underway
one_more u d array sent bit =
    cond (eqb u.pulses 7)
    (record {
      whole = u.whole + 1;
      pulses = 0;
      register = shifted u.register bit;
      driven = line_byte (driven d array (take (u.whole + 1) (set sent u.whole (shifted u.register bit))));
      bit = u.bit;
    })
    (record { whole = u.whole; pulses = u.pulses + 1; register = shifted u.register bit; driven = u.driven; bit = u.bit })

-- what taking a bit promises
pub record Taken (u : Underway) (d : Device) (array sent : List ℕ) (bit : Bool) (u' : Underway) (sent' : List ℕ) : Type 0 where
  pub under : u' ≡ one_more u d array sent bit
  pub bytes : sent' ≡ stored sent u bit

-- what the clock promises, with Select taken
pub record Clocked (u : Underway) (d : Device) (array sent : List ℕ) (p : Pins) (now : Levels) (u' : Underway) (sent' : List ℕ) : Type 0 where
  pub under : u' ≡ cond (takes p now) (one_more u d array sent now.«data») (cond (moves p now) (shown_on u) u)
  pub bytes : sent' ≡ cond (takes p now) (stored sent u now.«data») sent

-- ---- the chip

-- with the transaction that ends with a sample carried out
unfoldable pub ended_with : Chip → Pins → Levels → List ℕ → ℕ → List ℕ → Chip
ended_with c p now sent pulses response =
    cond (ends p now) (left (transacted c.device c.array sent pulses now.w response)) c

-- the bits missing in it
unfoldable pub missed_with : Chip → Pins → Levels → List ℕ → ℕ → List ℕ → ℕ
missed_with c p now sent pulses response = cond (ends p now) (transacted c.device c.array sent pulses now.w response).answer.missing 0

-- what carrying out one transaction promises
pub record CarriedOut (c : Chip) (bits : ℕ) (r : Tally) (array : List ℕ) : Type 0 where
  pub device : r.device ≡ c.device
  pub memory : array ≡ c.array
  pub missing : r.missing ≡ bits

-- what a run that is not refused promises
pub record CarriedAll (d : Device) (array samples output : List ℕ) (r : Tally) (array' output' : List ℕ) : Type 0 where
  pub device : r.device ≡ (chip_after d array samples).device
  pub memory : array' ≡ (chip_after d array samples).array
  pub missing : r.missing ≡ missed_in d array samples
  pub shown : output' ≡ map_at (window 0 (length samples) (output_at d array samples)) output
