-- docs/M25PE40.md, 'Worked cases': the M25PE40 as one list of cases, in the form of `Worked`.
use Rattle.std.specs.Prelude.{Bool, true, false, List, [], ◌∷◌, ◌++◌, ℕ, set, replicate}
use Rattle.device.specs.declared.Mode.TheVariants.{Standby}
use Rattle.device.specs.declared.Device.{Device}
use Rattle.device.specs.Locks.{registers, no_locks}
use Rattle.device.specs.Cycles.{no_cycle}
use Rattle.chip.specs.Outcome.{bare}
use Rattle.chip.specs.Events as chip
use Rattle.chip.specs.Worked.{Case, tells, holds, record_of, sends, waits, starts, loses, told, answers, reads, misses, status}

-- part 6 in standby, by BP, SRWD, latch and lock registers; durations 3, 5, 9, 2
abbrev pub pe : ℕ → Bool → Bool → List ℕ → Device
pe b s l ls = record { part = 6; bp = b; srwd = s; latch = l; mode = Standby; program = 3; sector_erase = 5; bulk_erase = 9; write_status = 2; cycle = no_cycle; locks = ls }

-- BP 0, SRWD 0, latch set, all lock registers zero
abbrev pub usual_pe : Device
usual_pe = pe 0 false true no_locks

-- every sector write-locked and frozen
abbrev pub all_locked : List ℕ
all_locked = replicate registers 0x03

-- identification 20 80 13, then 00; codes that are none
abbrev pub pe_names : Case
pe_names = record { device = usual_pe; steps = reads (0x9F ∷ 0x00 ∷ 0x00 ∷ 0x00 ∷ 0x00 ∷ 0x00 ∷ 0x00 ∷ []) 1 (0x20 ∷ 0x80 ∷ 0x13 ∷ 0x00 ∷ 0x00 ∷ 0x00 ∷ []) ∷ answers (0x9E ∷ 0x00 ∷ []) 14 ∷ answers (0x90 ∷ 0x00 ∷ []) 14 ∷ status 0x02 ∷ [] }

-- AB is only a release: in standby it changes nothing and drives nothing; with more bytes or a further pulse 15
abbrev pub releases : Case
releases = record { device = usual_pe; steps = answers (0xAB ∷ []) 0 ∷ status 0x02 ∷ answers (0xAB ∷ 0x00 ∷ []) 15 ∷ answers (0xAB ∷ 0x00 ∷ 0x00 ∷ 0x00 ∷ 0x00 ∷ []) 15 ∷ told true 1 (0xAB ∷ []) 15 ∷ status 0x02 ∷ [] }

-- deep power-down: all but AB 13, AB with more 15 and still deep; released, the latch is kept
abbrev pub sleeps : Case
sleeps = record { device = usual_pe; steps = answers (0xB9 ∷ []) 0 ∷ answers (0x05 ∷ 0x00 ∷ []) 13 ∷ answers (0xB9 ∷ []) 13 ∷ answers (0xE8 ∷ 0x00 ∷ 0x00 ∷ 0x00 ∷ 0x00 ∷ []) 13 ∷ answers (0x0A ∷ 0x00 ∷ 0x00 ∷ 0x00 ∷ 0x55 ∷ []) 13 ∷ answers (0xE5 ∷ 0x00 ∷ 0x00 ∷ 0x00 ∷ 0x01 ∷ []) 13 ∷ answers (0xDB ∷ 0x00 ∷ 0x00 ∷ 0x00 ∷ []) 13 ∷ answers (0x20 ∷ 0x00 ∷ 0x00 ∷ 0x00 ∷ []) 13 ∷ answers (0xAB ∷ 0x00 ∷ []) 15 ∷ answers (0x05 ∷ 0x00 ∷ []) 13 ∷ told true 1 (0xAB ∷ []) 15 ∷ answers (0x05 ∷ 0x00 ∷ []) 13 ∷ answers (0xAB ∷ []) 0 ∷ status 0x02 ∷ [] }

-- three BP bits; lock registers do not stop WRSR
abbrev pub pe_settings : Case
pe_settings = record { device = pe 0 false true all_locked; steps = answers (0x01 ∷ 0xFF ∷ []) 0 ∷ status 0x03 ∷ waits 1 ∷ status 0x01 ∷ waits 1 ∷ status 0x9C ∷ [] }

-- SRWD 1: `0100` gives 18 with W low, 0 with W high
abbrev pub frozen_settings : Case
frozen_settings = record { device = pe 0 true true no_locks; steps = told false 0 (0x01 ∷ 0x00 ∷ []) 18 ∷ answers (0x01 ∷ 0x00 ∷ []) 0 ∷ [] }

-- a page write sets and clears the bytes named and leaves the others; the byte is the old one up to the last tick
abbrev pub page_write : Case
page_write = record { device = usual_pe; steps = answers (0x02 ∷ 0x00 ∷ 0x00 ∷ 0x0F ∷ 0x3C ∷ 0xF0 ∷ 0xFF ∷ 0x3C ∷ []) 0 ∷ waits 3 ∷ answers (0x06 ∷ []) 0 ∷ answers (0x0A ∷ 0x00 ∷ 0x00 ∷ 0x10 ∷ 0x0F ∷ 0xA5 ∷ []) 0 ∷ status 0x03 ∷ waits 2 ∷ status 0x01 ∷ holds 0x0010 0xF0 ∷ waits 1 ∷ status 0x00 ∷ holds 0x000F 0x3C ∷ holds 0x0010 0x0F ∷ holds 0x0011 0xA5 ∷ holds 0x0012 0x3C ∷ [] }

-- the same bytes by a page program clear only, and four bits are missing
abbrev pub page_program : Case
page_program = record { device = usual_pe; steps = answers (0x02 ∷ 0x00 ∷ 0x00 ∷ 0x10 ∷ 0xF0 ∷ []) 0 ∷ waits 3 ∷ answers (0x06 ∷ []) 0 ∷ misses (0x02 ∷ 0x00 ∷ 0x00 ∷ 0x10 ∷ 0x0F ∷ 0xA5 ∷ []) 4 ∷ waits 3 ∷ holds 0x0010 0x00 ∷ holds 0x0011 0xA5 ∷ [] }

-- equal bytes are a whole cycle
abbrev pub equal_bytes : Case
equal_bytes = record { device = usual_pe; steps = answers (0x0A ∷ 0x00 ∷ 0x00 ∷ 0x10 ∷ 0xFF ∷ []) 0 ∷ status 0x03 ∷ waits 2 ∷ status 0x01 ∷ waits 1 ∷ status 0x00 ∷ holds 0x0010 0xFF ∷ [] }

-- it wraps within its page
abbrev pub write_wraps : Case
write_wraps = record { device = usual_pe; steps = answers (0x0A ∷ 0x00 ∷ 0x01 ∷ 0xFE ∷ 0x11 ∷ 0x22 ∷ 0x33 ∷ []) 0 ∷ waits 3 ∷ holds 0x01FD 0xFF ∷ holds 0x01FE 0x11 ∷ holds 0x01FF 0x22 ∷ holds 0x0100 0x33 ∷ holds 0x0101 0xFF ∷ holds 0x0200 0xFF ∷ [] }

-- 257 data bytes: the last 256 count, and all of the page is named
abbrev pub last_256 : Case
last_256 = record { device = usual_pe; steps = answers ((0x0A ∷ 0x00 ∷ 0x00 ∷ 0x80 ∷ 0x11 ∷ []) ++ (replicate 255 0x33 ++ (0x22 ∷ []))) 0 ∷ waits 3 ∷ holds 0x0080 0x22 ∷ holds 0x007F 0x33 ∷ holds 0x0081 0x33 ∷ holds 0x0000 0x33 ∷ holds 0x00FF 0x33 ∷ holds 0x0100 0xFF ∷ [] }

-- 255 data bytes from the second on: the first is not named; with 256 it is
abbrev pub not_all : Case
not_all = record { device = usual_pe; steps = answers (0x02 ∷ 0x00 ∷ 0x00 ∷ 0x00 ∷ 0x5A ∷ []) 0 ∷ waits 3 ∷ answers (0x06 ∷ []) 0 ∷ answers ((0x0A ∷ 0x00 ∷ 0x00 ∷ 0x01 ∷ []) ++ replicate 255 0x00) 0 ∷ waits 3 ∷ holds 0x0000 0x5A ∷ holds 0x0001 0x00 ∷ holds 0x00FF 0x00 ∷ holds 0x0100 0xFF ∷ answers (0x06 ∷ []) 0 ∷ answers ((0x0A ∷ 0x00 ∷ 0x00 ∷ 0x01 ∷ []) ++ (replicate 255 0xC3 ++ (0x77 ∷ []))) 0 ∷ waits 3 ∷ holds 0x0000 0x77 ∷ holds 0x0001 0xC3 ∷ holds 0x00FF 0xC3 ∷ holds 0x0100 0xFF ∷ [] }

-- address bits 23 to 19 do not matter
abbrev pub beyond : Case
beyond = record { device = usual_pe; steps = answers (0x0A ∷ 0x08 ∷ 0x00 ∷ 0x10 ∷ 0x99 ∷ []) 0 ∷ waits 3 ∷ holds 0x0010 0x99 ∷ [] }

-- page write: 15, and 17 with BP; below the protected area it is executed
abbrev pub write_refused : Case
write_refused = record { device = pe 1 false true no_locks; steps = answers (0x0A ∷ 0x00 ∷ 0x00 ∷ 0x10 ∷ []) 15 ∷ told true 1 (0x0A ∷ 0x00 ∷ 0x00 ∷ 0x10 ∷ 0x55 ∷ []) 15 ∷ answers (0x0A ∷ 0x07 ∷ 0x00 ∷ 0x00 ∷ 0x55 ∷ []) 17 ∷ status 0x06 ∷ answers (0x0A ∷ 0x06 ∷ 0xFF ∷ 0xFF ∷ 0x55 ∷ []) 0 ∷ [] }

-- 16 before 17
abbrev pub write_unlatched : Case
write_unlatched = record { device = pe 7 false false all_locked; steps = answers (0x0A ∷ 0x00 ∷ 0x00 ∷ 0x10 ∷ 0x55 ∷ []) 16 ∷ answers (0xDB ∷ 0x00 ∷ 0x01 ∷ 0x80 ∷ []) 16 ∷ answers (0x20 ∷ 0x00 ∷ 0x1A ∷ 0xBC ∷ []) 16 ∷ answers (0xE5 ∷ 0x00 ∷ 0x00 ∷ 0x00 ∷ 0x00 ∷ []) 16 ∷ answers (0xC7 ∷ []) 16 ∷ [] }

-- a page erase takes the program duration, and makes the addressed page FF
abbrev pub page_erase : Case
page_erase = record { device = usual_pe; steps = answers (0x02 ∷ 0x00 ∷ 0x00 ∷ 0xFF ∷ 0x00 ∷ []) 0 ∷ waits 3 ∷ answers (0x06 ∷ []) 0 ∷ answers (0x02 ∷ 0x00 ∷ 0x01 ∷ 0x00 ∷ 0x00 ∷ []) 0 ∷ waits 3 ∷ answers (0x06 ∷ []) 0 ∷ answers (0x02 ∷ 0x00 ∷ 0x01 ∷ 0xFF ∷ 0x00 ∷ []) 0 ∷ waits 3 ∷ answers (0x06 ∷ []) 0 ∷ answers (0x02 ∷ 0x00 ∷ 0x02 ∷ 0x00 ∷ 0x00 ∷ []) 0 ∷ waits 3 ∷ answers (0x06 ∷ []) 0 ∷ answers (0xDB ∷ 0x00 ∷ 0x01 ∷ 0x80 ∷ []) 0 ∷ status 0x03 ∷ waits 2 ∷ status 0x01 ∷ holds 0x0100 0x00 ∷ waits 1 ∷ status 0x00 ∷ holds 0x00FF 0x00 ∷ holds 0x0100 0xFF ∷ holds 0x01FF 0xFF ∷ holds 0x0200 0x00 ∷ [] }

-- 15, and 17 with BP
abbrev pub page_erase_refused : Case
page_erase_refused = record { device = pe 4 false true no_locks; steps = answers (0xDB ∷ 0x00 ∷ 0x01 ∷ []) 15 ∷ answers (0xDB ∷ 0x00 ∷ 0x01 ∷ 0x80 ∷ 0x00 ∷ []) 15 ∷ told true 7 (0xDB ∷ 0x00 ∷ 0x01 ∷ 0x80 ∷ []) 15 ∷ answers (0xDB ∷ 0x00 ∷ 0x01 ∷ 0x80 ∷ []) 17 ∷ [] }

-- a subsector erase takes the sector erase duration, and makes the addressed 4,096 bytes FF
abbrev pub subsector_erase : Case
subsector_erase = record { device = usual_pe; steps = answers (0x02 ∷ 0x00 ∷ 0x0F ∷ 0xFF ∷ 0x00 ∷ []) 0 ∷ waits 3 ∷ answers (0x06 ∷ []) 0 ∷ answers (0x02 ∷ 0x00 ∷ 0x10 ∷ 0x00 ∷ 0x00 ∷ []) 0 ∷ waits 3 ∷ answers (0x06 ∷ []) 0 ∷ answers (0x02 ∷ 0x00 ∷ 0x1F ∷ 0xFF ∷ 0x00 ∷ []) 0 ∷ waits 3 ∷ answers (0x06 ∷ []) 0 ∷ answers (0x02 ∷ 0x00 ∷ 0x20 ∷ 0x00 ∷ 0x00 ∷ []) 0 ∷ waits 3 ∷ answers (0x06 ∷ []) 0 ∷ answers (0x20 ∷ 0x00 ∷ 0x1A ∷ 0xBC ∷ []) 0 ∷ status 0x03 ∷ waits 4 ∷ status 0x01 ∷ holds 0x1000 0x00 ∷ waits 1 ∷ status 0x00 ∷ holds 0x0FFF 0x00 ∷ holds 0x1000 0xFF ∷ holds 0x1FFF 0xFF ∷ holds 0x2000 0x00 ∷ [] }

-- 15, and 17 with BP; below it is executed
abbrev pub subsector_refused : Case
subsector_refused = record { device = pe 1 false true no_locks; steps = answers (0x20 ∷ 0x00 ∷ 0x1A ∷ []) 15 ∷ answers (0x20 ∷ 0x00 ∷ 0x1A ∷ 0xBC ∷ 0x00 ∷ []) 15 ∷ told true 1 (0x20 ∷ 0x00 ∷ 0x1A ∷ 0xBC ∷ []) 15 ∷ answers (0x20 ∷ 0x07 ∷ 0x00 ∷ 0x00 ∷ []) 17 ∷ answers (0x20 ∷ 0x06 ∷ 0xF0 ∷ 0x00 ∷ []) 0 ∷ [] }

-- a lock register again and again, of the addressed sector, with further pulses too; with n = 4 nothing is driven
abbrev pub register_read : Case
register_read = record { device = pe 0 false false (set no_locks 7 0x03); steps = reads (0xE8 ∷ 0x07 ∷ 0x00 ∷ 0x00 ∷ 0x00 ∷ []) 4 (0x03 ∷ []) ∷ reads (0xE8 ∷ 0x07 ∷ 0xFF ∷ 0xFF ∷ 0x00 ∷ 0x00 ∷ 0x00 ∷ []) 4 (0x03 ∷ 0x03 ∷ 0x03 ∷ []) ∷ sends true 5 (0xE8 ∷ 0x07 ∷ 0x00 ∷ 0x00 ∷ 0x00 ∷ 0x00 ∷ []) (record { number = 0; first = 4; count = 2; missing = 0 }) (0xFF ∷ 0xFF ∷ 0xFF ∷ 0xFF ∷ 0x03 ∷ 0x03 ∷ []) ∷ reads (0xE8 ∷ 0x06 ∷ 0xFF ∷ 0xFF ∷ 0x00 ∷ []) 4 (0x00 ∷ []) ∷ reads (0xE8 ∷ 0x0F ∷ 0x00 ∷ 0x00 ∷ 0x00 ∷ []) 4 (0x03 ∷ []) ∷ answers (0xE8 ∷ 0x07 ∷ 0x00 ∷ 0x00 ∷ []) 0 ∷ answers (0xE8 ∷ 0x07 ∷ 0x00 ∷ []) 15 ∷ [] }

-- bits 1 and 0 of byte 4, at once and without a cycle; the latch is reset; the registers beside it stay
abbrev pub register_write : Case
register_write = record { device = usual_pe; steps = answers (0xE5 ∷ 0x03 ∷ 0xFF ∷ 0xFF ∷ 0x01 ∷ []) 0 ∷ status 0x00 ∷ reads (0xE8 ∷ 0x03 ∷ 0x00 ∷ 0x00 ∷ 0x00 ∷ []) 4 (0x01 ∷ []) ∷ reads (0xE8 ∷ 0x02 ∷ 0x00 ∷ 0x00 ∷ 0x00 ∷ []) 4 (0x00 ∷ []) ∷ reads (0xE8 ∷ 0x04 ∷ 0x00 ∷ 0x00 ∷ 0x00 ∷ []) 4 (0x00 ∷ []) ∷ answers (0x06 ∷ []) 0 ∷ answers (0xE5 ∷ 0x03 ∷ 0x00 ∷ 0x00 ∷ 0xFC ∷ []) 0 ∷ reads (0xE8 ∷ 0x03 ∷ 0x00 ∷ 0x00 ∷ 0x00 ∷ []) 4 (0x00 ∷ []) ∷ answers (0x06 ∷ []) 0 ∷ answers (0xE5 ∷ 0xFB ∷ 0x00 ∷ 0x00 ∷ 0xFF ∷ []) 0 ∷ reads (0xE8 ∷ 0x03 ∷ 0x00 ∷ 0x00 ∷ 0x00 ∷ []) 4 (0x03 ∷ []) ∷ [] }

-- a frozen register: 19, for the same value too, with the latch kept; lock-down alone stops no program
abbrev pub register_frozen : Case
register_frozen = record { device = pe 0 false true (set no_locks 3 0x02); steps = answers (0xE5 ∷ 0x03 ∷ 0x00 ∷ 0x00 ∷ 0x00 ∷ []) 19 ∷ reads (0xE8 ∷ 0x03 ∷ 0x00 ∷ 0x00 ∷ 0x00 ∷ []) 4 (0x02 ∷ []) ∷ status 0x02 ∷ answers (0xE5 ∷ 0x03 ∷ 0x00 ∷ 0x00 ∷ 0x02 ∷ []) 19 ∷ answers (0x02 ∷ 0x03 ∷ 0x00 ∷ 0x00 ∷ 0x00 ∷ []) 0 ∷ [] }

-- 15; neither BP, the write lock, W nor SRWD stops it
abbrev pub register_refused : Case
register_refused = record { device = pe 7 true true (set no_locks 3 0x01); steps = answers (0xE5 ∷ 0x03 ∷ 0x00 ∷ 0x00 ∷ []) 15 ∷ answers (0xE5 ∷ 0x03 ∷ 0x00 ∷ 0x00 ∷ 0x01 ∷ 0x00 ∷ []) 15 ∷ told true 1 (0xE5 ∷ 0x03 ∷ 0x00 ∷ 0x00 ∷ 0x01 ∷ []) 15 ∷ told false 0 (0xE5 ∷ 0x03 ∷ 0x00 ∷ 0x00 ∷ 0x00 ∷ []) 0 ∷ reads (0xE8 ∷ 0x03 ∷ 0x00 ∷ 0x00 ∷ 0x00 ∷ []) 4 (0x00 ∷ []) ∷ answers (0x06 ∷ []) 0 ∷ told false 0 (0x01 ∷ 0x00 ∷ []) 18 ∷ [] }

-- a write lock stops every write, program and erase in its sector, and a bulk erase
abbrev pub write_locked : Case
write_locked = record { device = pe 0 false true (set no_locks 3 0x01); steps = answers (0x0A ∷ 0x03 ∷ 0x00 ∷ 0x00 ∷ 0x55 ∷ []) 17 ∷ answers (0x02 ∷ 0x03 ∷ 0x00 ∷ 0x00 ∷ 0x55 ∷ []) 17 ∷ answers (0xDB ∷ 0x03 ∷ 0x00 ∷ 0x00 ∷ []) 17 ∷ answers (0x20 ∷ 0x03 ∷ 0x00 ∷ 0x00 ∷ []) 17 ∷ answers (0xD8 ∷ 0x03 ∷ 0x00 ∷ 0x00 ∷ []) 17 ∷ answers (0xC7 ∷ []) 17 ∷ status 0x02 ∷ answers (0x0A ∷ 0x02 ∷ 0xFF ∷ 0xFF ∷ 0x55 ∷ []) 0 ∷ [] }

-- lock-down alone stops none of them
abbrev pub locked_down : Case
locked_down = record { device = pe 0 false true (replicate registers 0x02); steps = answers (0xC7 ∷ []) 0 ∷ status 0x03 ∷ [] }

-- a page write under lock-down alone
abbrev pub down_write : Case
down_write = record { device = pe 0 false true (replicate registers 0x02); steps = answers (0x0A ∷ 0x03 ∷ 0x00 ∷ 0x00 ∷ 0x55 ∷ []) 0 ∷ [] }

-- a page erase under lock-down alone
abbrev pub down_erase : Case
down_erase = record { device = pe 0 false true (replicate registers 0x02); steps = answers (0xDB ∷ 0x03 ∷ 0x00 ∷ 0x00 ∷ []) 0 ∷ [] }

-- in a cycle all but RDSR 12; the cycle goes on
abbrev pub pe_busy : Case
pe_busy = record { device = usual_pe; steps = answers (0x0A ∷ 0x00 ∷ 0x00 ∷ 0x00 ∷ 0x55 ∷ []) 0 ∷ answers (0x06 ∷ []) 12 ∷ answers (0x04 ∷ []) 12 ∷ answers (0x9F ∷ 0x00 ∷ []) 12 ∷ answers (0x01 ∷ 0x00 ∷ []) 12 ∷ answers (0xE5 ∷ 0x00 ∷ 0x00 ∷ 0x00 ∷ 0x01 ∷ []) 12 ∷ answers (0xE8 ∷ 0x00 ∷ 0x00 ∷ 0x00 ∷ 0x00 ∷ []) 12 ∷ answers (0x03 ∷ 0x00 ∷ 0x00 ∷ 0x00 ∷ 0x00 ∷ []) 12 ∷ answers (0x0B ∷ 0x00 ∷ 0x00 ∷ 0x00 ∷ 0x00 ∷ 0x00 ∷ []) 12 ∷ answers (0x0A ∷ 0x00 ∷ 0x00 ∷ 0x00 ∷ 0x66 ∷ []) 12 ∷ answers (0x02 ∷ 0x00 ∷ 0x00 ∷ 0x00 ∷ 0x66 ∷ []) 12 ∷ answers (0xDB ∷ 0x00 ∷ 0x00 ∷ 0x00 ∷ []) 12 ∷ answers (0x20 ∷ 0x00 ∷ 0x00 ∷ 0x00 ∷ []) 12 ∷ answers (0xD8 ∷ 0x00 ∷ 0x00 ∷ 0x00 ∷ []) 12 ∷ answers (0xC7 ∷ []) 12 ∷ answers (0xB9 ∷ []) 12 ∷ answers (0xAB ∷ []) 12 ∷ status 0x03 ∷ waits 3 ∷ holds 0x0000 0x55 ∷ [] }

-- a cut page write: each byte named or the mask at its offset; the others stay, of the page too
abbrev pub cut_write_case : Case
cut_write_case = record { device = usual_pe; steps = answers (0x02 ∷ 0x00 ∷ 0x00 ∷ 0xFE ∷ 0xA0 ∷ 0xA0 ∷ 0xA0 ∷ 0xA0 ∷ []) 0 ∷ waits 3 ∷ answers (0x06 ∷ []) 0 ∷ answers (0x02 ∷ 0x00 ∷ 0x01 ∷ 0x00 ∷ 0xA0 ∷ []) 0 ∷ waits 3 ∷ answers (0x06 ∷ []) 0 ∷ answers (0x0A ∷ 0x00 ∷ 0x00 ∷ 0xFE ∷ 0x11 ∷ 0x22 ∷ 0x33 ∷ []) 0 ∷ waits 1 ∷ tells (chip.loses (set (set (set (replicate 256 0x08) 0x00 0x04) 0xFE 0x01) 0xFF 0x02) false) (bare 0) [] ∷ holds 0x00FE 0xA1 ∷ holds 0x00FF 0xA2 ∷ holds 0x0000 0xA4 ∷ holds 0x0001 0xA0 ∷ holds 0x0100 0xA0 ∷ status 0x00 ∷ [] }

-- power-up in a page write completes it
abbrev pub powered_write : Case
powered_write = record { device = usual_pe; steps = answers (0x02 ∷ 0x00 ∷ 0x00 ∷ 0xFE ∷ 0xA0 ∷ 0xA0 ∷ 0xA0 ∷ 0xA0 ∷ []) 0 ∷ waits 3 ∷ answers (0x06 ∷ []) 0 ∷ answers (0x0A ∷ 0x00 ∷ 0x00 ∷ 0xFE ∷ 0x11 ∷ 0x22 ∷ 0x33 ∷ []) 0 ∷ starts ∷ holds 0x00FE 0x11 ∷ holds 0x00FF 0x22 ∷ holds 0x0000 0x33 ∷ holds 0x0001 0xA0 ∷ status 0x00 ∷ [] }

-- a cut page erase: each byte of the page or the mask
abbrev pub cut_page_erase : Case
cut_page_erase = record { device = usual_pe; steps = answers (0x02 ∷ 0x00 ∷ 0x00 ∷ 0xFF ∷ 0xA0 ∷ []) 0 ∷ waits 3 ∷ answers (0x06 ∷ []) 0 ∷ answers (0x02 ∷ 0x00 ∷ 0x01 ∷ 0x00 ∷ 0xA0 ∷ []) 0 ∷ waits 3 ∷ answers (0x06 ∷ []) 0 ∷ answers (0x02 ∷ 0x00 ∷ 0x01 ∷ 0xFF ∷ 0xA0 ∷ []) 0 ∷ waits 3 ∷ answers (0x06 ∷ []) 0 ∷ answers (0x02 ∷ 0x00 ∷ 0x02 ∷ 0x00 ∷ 0xA0 ∷ []) 0 ∷ waits 3 ∷ answers (0x06 ∷ []) 0 ∷ answers (0xDB ∷ 0x00 ∷ 0x01 ∷ 0x80 ∷ []) 0 ∷ tells (chip.loses (set (set (replicate 256 0x00) 0x00 0x05) 0xFF 0x0A) true) (bare 0) [] ∷ holds 0x00FF 0xA0 ∷ holds 0x0100 0xA5 ∷ holds 0x01FF 0xAA ∷ holds 0x0200 0xA0 ∷ [] }

-- a cut subsector erase: each byte of its pages or the mask
abbrev pub cut_subsector : Case
cut_subsector = record { device = usual_pe; steps = answers (0x02 ∷ 0x00 ∷ 0x0F ∷ 0xFF ∷ 0xA0 ∷ []) 0 ∷ waits 3 ∷ answers (0x06 ∷ []) 0 ∷ answers (0x02 ∷ 0x00 ∷ 0x10 ∷ 0x00 ∷ 0xA0 ∷ []) 0 ∷ waits 3 ∷ answers (0x06 ∷ []) 0 ∷ answers (0x02 ∷ 0x00 ∷ 0x10 ∷ 0xFF ∷ 0xA0 ∷ []) 0 ∷ waits 3 ∷ answers (0x06 ∷ []) 0 ∷ answers (0x02 ∷ 0x00 ∷ 0x1F ∷ 0xFF ∷ 0xA0 ∷ []) 0 ∷ waits 3 ∷ answers (0x06 ∷ []) 0 ∷ answers (0x02 ∷ 0x00 ∷ 0x20 ∷ 0x00 ∷ 0xA0 ∷ []) 0 ∷ waits 3 ∷ answers (0x06 ∷ []) 0 ∷ answers (0x20 ∷ 0x00 ∷ 0x1A ∷ 0xBC ∷ []) 0 ∷ tells (chip.loses (set (set (replicate 256 0x00) 0x00 0x05) 0xFF 0x0A) true) (bare 0) [] ∷ holds 0x0FFF 0xA0 ∷ holds 0x1000 0xA5 ∷ holds 0x10FF 0xAA ∷ holds 0x1FFF 0xAA ∷ holds 0x2000 0xA0 ∷ [] }

-- power-up makes all lock registers zero; one can be written then
abbrev pub unlocked_up : Case
unlocked_up = record { device = pe 0 false true all_locked; steps = starts ∷ reads (0xE8 ∷ 0x00 ∷ 0x00 ∷ 0x00 ∷ 0x00 ∷ []) 4 (0x00 ∷ []) ∷ reads (0xE8 ∷ 0x03 ∷ 0x00 ∷ 0x00 ∷ 0x00 ∷ []) 4 (0x00 ∷ []) ∷ reads (0xE8 ∷ 0x07 ∷ 0x00 ∷ 0x00 ∷ 0x00 ∷ []) 4 (0x00 ∷ []) ∷ answers (0x06 ∷ []) 0 ∷ answers (0xE5 ∷ 0x03 ∷ 0x00 ∷ 0x00 ∷ 0x01 ∷ []) 0 ∷ [] }

-- so does a loss, in deep power-down too
abbrev pub unlocked_loss : Case
unlocked_loss = record { device = pe 0 false true all_locked; steps = answers (0xB9 ∷ []) 0 ∷ loses 0x00 false ∷ reads (0xE8 ∷ 0x00 ∷ 0x00 ∷ 0x00 ∷ 0x00 ∷ []) 4 (0x00 ∷ []) ∷ reads (0xE8 ∷ 0x03 ∷ 0x00 ∷ 0x00 ∷ 0x00 ∷ []) 4 (0x00 ∷ []) ∷ reads (0xE8 ∷ 0x07 ∷ 0x00 ∷ 0x00 ∷ 0x00 ∷ []) 4 (0x00 ∷ []) ∷ status 0x00 ∷ [] }

-- and a loss in a page write
abbrev pub unlocked_write : Case
unlocked_write = record { device = usual_pe; steps = answers (0xE5 ∷ 0x07 ∷ 0x00 ∷ 0x00 ∷ 0x03 ∷ []) 0 ∷ answers (0x06 ∷ []) 0 ∷ answers (0x0A ∷ 0x00 ∷ 0x00 ∷ 0x00 ∷ 0x55 ∷ []) 0 ∷ loses 0x00 true ∷ holds 0x0000 0xFF ∷ reads (0xE8 ∷ 0x07 ∷ 0x00 ∷ 0x00 ∷ 0x00 ∷ []) 4 (0x00 ∷ []) ∷ status 0x00 ∷ [] }

-- lock registers stay over WREN, WRDI, deep power-down and a cycle
abbrev pub locks_stay : Case
locks_stay = record { device = usual_pe; steps = answers (0xE5 ∷ 0x03 ∷ 0x00 ∷ 0x00 ∷ 0x03 ∷ []) 0 ∷ answers (0x06 ∷ []) 0 ∷ answers (0x04 ∷ []) 0 ∷ answers (0xB9 ∷ []) 0 ∷ answers (0xAB ∷ []) 0 ∷ answers (0x06 ∷ []) 0 ∷ answers (0x0A ∷ 0x00 ∷ 0x00 ∷ 0x00 ∷ 0x55 ∷ []) 0 ∷ waits 3 ∷ reads (0xE8 ∷ 0x03 ∷ 0x00 ∷ 0x00 ∷ 0x00 ∷ []) 4 (0x03 ∷ []) ∷ answers (0x06 ∷ []) 0 ∷ answers (0xE5 ∷ 0x03 ∷ 0x00 ∷ 0x00 ∷ 0x00 ∷ []) 19 ∷ [] }

-- the five codes on the M25P40
abbrev pub m25p40_knows_none : Case
m25p40_knows_none = record { device = record_of 2 0 false true Standby; steps = answers (0x0A ∷ 0x00 ∷ 0x00 ∷ 0x00 ∷ 0x00 ∷ []) 14 ∷ answers (0xDB ∷ 0x00 ∷ 0x00 ∷ 0x00 ∷ []) 14 ∷ answers (0x20 ∷ 0x00 ∷ 0x00 ∷ 0x00 ∷ []) 14 ∷ answers (0xE8 ∷ 0x00 ∷ 0x00 ∷ 0x00 ∷ 0x00 ∷ []) 14 ∷ answers (0xE5 ∷ 0x00 ∷ 0x00 ∷ 0x00 ∷ 0x00 ∷ []) 14 ∷ [] }

unfoldable pub pe_cases : List Case
pe_cases = pe_names ∷ releases ∷ sleeps ∷ pe_settings ∷ frozen_settings ∷ page_write ∷ page_program ∷ equal_bytes ∷ write_wraps ∷ last_256 ∷ not_all ∷ beyond ∷ write_refused ∷ write_unlatched ∷ page_erase ∷ page_erase_refused ∷ subsector_erase ∷ subsector_refused ∷ register_read ∷ register_write ∷ register_frozen ∷ register_refused ∷ write_locked ∷ locked_down ∷ down_write ∷ down_erase ∷ pe_busy ∷ cut_write_case ∷ powered_write ∷ cut_page_erase ∷ cut_subsector ∷ unlocked_up ∷ unlocked_loss ∷ unlocked_write ∷ locks_stay ∷ m25p40_knows_none ∷ []
