-- Status bytes of document 01's worked examples, and cuts of each kind, computed on the bench part with durations 3, 5, 9, 2.
-- Assumes nothing.
use mathlib.Core.Path.{◌≡◌, refl}
use mathlib.Core.Bool.{true, false}
use mathlib.Core.List.{List, [], ◌∷◌}
use Prim.Native.Nat.{ℕ}
use lib.ListN.{replicate}
use Rattle.slices.specs.Changed.{map_at}
use Rattle.memory.specs.Memory.{programmed, named, replaced, erased, cut_page, cut_write, cut_sector}
use Rattle.parts.specs.Parts.{figures_of}
use Rattle.device.specs.declared.cycle.Kind.TheVariants.{Sector, PageErase, Subsector}
use Rattle.device.specs.declared.cycle.Cycle.{Cycle}
use Rattle.device.specs.declared.Device.{Device}
use Rattle.device.specs.Chip.{Chip, chip}
use Rattle.device.specs.Cycles.{no_slots, no_cycle, page_cycle, write_cycle, erase_cycle, all_cycle, settings_cycle, touched, cut}
use Rattle.device.specs.Locks.{no_locks}
use Rattle.device.specs.Device.{latch_at, locked, moded, latched, settled, remembering, running, started, ended, delivered, status_byte}
use Rattle.device.specs.Time.{after_cycle, finished, unlocked, powered_up, lost, waited}

unfoldable bench-chip : Device
bench-chip = delivered 0 3 5 9 2

-- with a cycle that has just begun, beside three bytes of an array
unfoldable begun : Cycle → ℕ → Chip
begun c t = chip (started bench-chip c t) (0xFF ∷ 0xF0 ∷ 0x0F ∷ [])

-- the status byte of a chip
abbrev shown : Chip → ℕ
shown c = status_byte c.device

-- 3C in every slot, or in every byte of a mask
abbrev pattern : List ℕ
pattern = replicate 256 0x3C

record Worked : Type 0 where
  -- delivered, and write enabled
  fresh : status_byte bench-chip ≡ 0x00
  enabled : status_byte (latched bench-chip true) ≡ 0x02
  -- settings SRWD 1 and BP 3 being written: the old ones up to the last tick, then the new ones
  writing : shown (begun (settings_cycle true 3) 2) ≡ 0x03
  last-write-tick : shown (waited (begun (settings_cycle true 3) 2) 1) ≡ 0x01
  written : shown (waited (begun (settings_cycle true 3) 2) 2) ≡ 0x8C
  -- power-up completes them; a loss does on yes, and leaves the old ones on no
  powered : shown (powered_up (begun (settings_cycle true 3) 2)) ≡ 0x8C
  lost-told : shown (lost (begun (settings_cycle true 3) 2) pattern true) ≡ 0x8C
  lost-not : shown (lost (begun (settings_cycle true 3) 2) pattern false) ≡ 0x00
  -- a program started, after 1 tick, after 2, after 1 more
  programming : shown (waited (begun (page_cycle 1 pattern) 3) 1) ≡ 0x03
  last-tick : shown (waited (begun (page_cycle 1 pattern) 3) 2) ≡ 0x01
  programmed : shown (waited (waited (begun (page_cycle 1 pattern) 3) 2) 1) ≡ 0x00
  -- its bytes before the last tick, and after it
  early : (waited (begun (page_cycle 1 pattern) 3) 2).array ≡ 0xFF ∷ 0xF0 ∷ 0x0F ∷ []
  done : (waited (begun (page_cycle 1 pattern) 3) 3).array ≡ 0x3C ∷ 0x30 ∷ 0x0C ∷ []
  -- cut: each byte and (slot or mask)
  cut_program : (lost (begun (page_cycle 1 (replicate 256 0x0F)) 3) pattern false).array ≡ 0x3F ∷ 0x30 ∷ 0x0F ∷ []
  -- an erase cut: each byte or the mask
  cut-sector : (lost (begun (erase_cycle Sector 1) 5) pattern false).array ≡ 0xFF ∷ 0xFC ∷ 0x3F ∷ []
  cut-bulk : (lost (begun all_cycle 9) pattern false).array ≡ 0xFF ∷ 0xFC ∷ 0x3F ∷ []
  -- a page write of the first two bytes: completed, and cut
  page_write : (waited (begun (write_cycle 0 pattern 2) 3) 3).array ≡ 0x3C ∷ 0x3C ∷ 0x0F ∷ []
  cut-write : (lost (begun (write_cycle 0 pattern 2) 3) pattern false).array ≡ 0xFF ∷ 0xFC ∷ 0x0F ∷ []
  -- a page erase and a subsector erase
  page_erase : (waited (begun (erase_cycle PageErase 1) 3) 3).array ≡ 0xFF ∷ 0xFF ∷ 0xFF ∷ []
  cut_subsector : (lost (begun (erase_cycle Subsector 1) 5) pattern false).array ≡ 0xFF ∷ 0xFC ∷ 0x3F ∷ []
  -- standby, latch reset, no cycle: as delivered, but for the settings
  rested : (lost (begun all_cycle 9) pattern false).device ≡ bench-chip
  kept-settings : (powered_up (chip (latched (settled bench-chip true 3) true) [])).device ≡ settled bench-chip true 3

worked : Worked
unfolding bench-chip begun delivered no_cycle no_slots no_locks latch_at moded latched settled remembering running started ended waited finished lost after_cycle unlocked powered_up locked status_byte page_cycle write_cycle erase_cycle all_cycle settings_cycle touched cut map_at programmed named replaced erased cut_page cut_write cut_sector figures_of
worked = record { fresh = refl; enabled = refl; writing = refl; last-write-tick = refl; written = refl; powered = refl; lost-told = refl; lost-not = refl; programming = refl; last-tick = refl; programmed = refl; early = refl; done = refl; cut_program = refl; cut-sector = refl; cut-bulk = refl; page_write = refl; cut-write = refl; page_erase = refl; cut_subsector = refl; rested = refl; kept-settings = refl }
