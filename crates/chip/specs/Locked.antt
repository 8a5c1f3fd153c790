-- Document 02, Wish 11: what a lock is worth.
use Rattle.std.specs.Prelude.{◌≡◌, true, List, ◌++◌, ℕ, ◌/◌, ◌<◌, length, get_or}
use Rattle.parts.specs.Parts.{figures_of}
use Rattle.device.specs.declared.Mode.TheVariants.{Standby}
use Rattle.device.specs.Locks.{stops, freezes}
use Rattle.chip.specs.Events.{Chip, Good, Event, every, goes_on, run}

-- the lock register of sector s
abbrev pub register : Chip → ℕ → ℕ
register c s = get_or c.device.locks s 0

-- a sound record in standby beside an array of the part's length, with the lock register of sector s write-locked and frozen, which only an M25PE part can have
pub record Locked (c : Chip) (s : ℕ) : Type 0 where
  pub good : Good c
  pub standby : c.device.mode ≡ Standby
  pub write_locked : stops (register c s) ≡ true
  pub locked_down : freezes (register c s) ≡ true

-- the register of sector s is what it was, and so is each byte of the sector
pub record Held (s : ℕ) (was is : Chip) : Type 0 where
  pub register : register is s ≡ register was s
  pub bytes : (i : ℕ) → i < length was.array → i / (figures_of was.device.part).sector_bytes ≡ s → get_or is.array i 0 ≡ get_or was.array i 0

-- the theorem: from such a chip, over any list of transactions and waits, whatever W is
pub record LockHolds : Type 0 where
  pub ends : (c : Chip) (s : ℕ) → Locked c s → (es : List Event) → every goes_on es ≡ true → Held s c (run es c)
  -- and after each event of it: `es` are those so far, `later` those to come
  pub each : (c : Chip) (s : ℕ) → Locked c s → (es later : List Event) → every goes_on (es ++ later) ≡ true → Held s c (run es c)
