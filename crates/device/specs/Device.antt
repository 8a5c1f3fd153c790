-- The device record of document 01, with the cycle that document 02, Wish 9, has it remember and the lock registers of Wish 11: its changes, when it is sound, its status byte.
use Rattle.std.specs.Prelude.{Bool, true, false, cond, ◌&&◌, List, ℕ, ◌+◌, ◌*◌, ◌%◌, ltb, leb}
pub use Rattle.slices.specs.Chosen.{on_zero}
use Rattle.parts.specs.Parts.{known_part, figures_of}
use Rattle.device.specs.declared.Mode.{Mode}
use Rattle.device.specs.declared.Mode.TheVariants.{Standby, Busy, Deep}
use Rattle.device.specs.declared.Device.{Device}
use Rattle.device.specs.declared.cycle.Cycle.{Cycle}
use Rattle.device.specs.Locks.{no_locks, locks_sound}
use Rattle.device.specs.Cycles.{no_cycle, both_same, cycle_sound}

-- the latch of a cycle with t ticks left: set exactly if more than one tick is left
unfoldable pub latch_at : ℕ → Bool
latch_at t = ltb 1 t

-- another latch and mode
unfoldable pub moded : Device → Bool → Mode → Device
moded d l m = record { part = d.part; bp = d.bp; srwd = d.srwd; latch = l; mode = m; program = d.program; sector_erase = d.sector_erase; bulk_erase = d.bulk_erase; write_status = d.write_status; cycle = d.cycle; locks = d.locks }

-- another latch
unfoldable pub latched : Device → Bool → Device
latched d on = record { part = d.part; bp = d.bp; srwd = d.srwd; latch = on; mode = d.mode; program = d.program; sector_erase = d.sector_erase; bulk_erase = d.bulk_erase; write_status = d.write_status; cycle = d.cycle; locks = d.locks }

-- other settings
unfoldable pub settled : Device → Bool → ℕ → Device
settled d w b = record { part = d.part; bp = b; srwd = w; latch = d.latch; mode = d.mode; program = d.program; sector_erase = d.sector_erase; bulk_erase = d.bulk_erase; write_status = d.write_status; cycle = d.cycle; locks = d.locks }

-- another remembered cycle
unfoldable pub remembering : Device → Cycle → Device
remembering d c = record { part = d.part; bp = d.bp; srwd = d.srwd; latch = d.latch; mode = d.mode; program = d.program; sector_erase = d.sector_erase; bulk_erase = d.bulk_erase; write_status = d.write_status; cycle = c; locks = d.locks }

-- other lock registers
unfoldable pub locked : Device → List ℕ → Device
locked d ls = record { part = d.part; bp = d.bp; srwd = d.srwd; latch = d.latch; mode = d.mode; program = d.program; sector_erase = d.sector_erase; bulk_erase = d.bulk_erase; write_status = d.write_status; cycle = d.cycle; locks = ls }

-- the record as delivered: BP 0, SRWD 0, latch reset, standby, the given durations, no cycle, all lock registers zero
unfoldable pub delivered : ℕ → ℕ → ℕ → ℕ → ℕ → Device
delivered p program sector bulk status = record { part = p; bp = 0; srwd = false; latch = false; mode = Standby; program = program; sector_erase = sector; bulk_erase = bulk; write_status = status; cycle = no_cycle; locks = no_locks }

-- the all-zero record
unfoldable pub zero_record : Device
zero_record = delivered 0 0 0 0 0

-- busy with t ticks left
unfoldable pub running : Device → ℕ → Device
running d t = moded d (latch_at t) (Busy t)

-- a cycle begins that takes t ticks
unfoldable pub started : Device → Cycle → ℕ → Device
started d c t = running (remembering d c) t

-- standby, latch reset, no cycle
unfoldable pub ended : Device → Device
ended d = moded (remembering d no_cycle) false Standby

-- whether a duration or a number of ticks left is 1 to 1,000,000
abbrev pub ranged_of : ℕ → Bool
ranged_of x = leb 1 x && leb x 1000000

-- a busy record has ticks left in range and the latch that belongs to them; only a part that sleeps is in deep power-down
abbrev pub mode_sound : Mode → Bool → Bool → Bool
mode_sound Standby latch sleeps = true
mode_sound (Busy left) latch sleeps = ranged_of left && both_same latch (latch_at left)
mode_sound Deep latch sleeps = sleeps

-- whether a cycle runs
abbrev pub is_busy : Mode → Bool
is_busy Standby = false
is_busy (Busy left) = true
is_busy Deep = false

-- whether it is deep power-down
abbrev pub is_deep : Mode → Bool
is_deep Standby = false
is_deep (Busy left) = false
is_deep Deep = true

-- whether a record is sound
unfoldable pub sound : Device → Bool
sound d =
    known_part d.part
    && leb d.bp (figures_of d.part).highest_bp
    && ranged_of d.program
    && ranged_of d.sector_erase
    && ranged_of d.bulk_erase
    && ranged_of d.write_status
    && mode_sound d.mode d.latch (figures_of d.part).sleeps
    && cycle_sound d.cycle (figures_of d.part) (is_busy d.mode)
    && locks_sound (figures_of d.part) d.locks

-- the status byte: bit 7 SRWD, bits 4 to 2 BP (its three lowest bits, if it had more), bit 1 the latch, bit 0 set while busy
unfoldable pub status_byte : Device → ℕ
status_byte d = cond d.srwd 128 0 + 4 * (d.bp % 8) + cond d.latch 2 0 + cond (is_busy d.mode) 1 0
