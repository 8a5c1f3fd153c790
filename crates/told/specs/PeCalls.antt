-- The M25PE40's instructions told a second time as stories, and computed: each new instruction executed, with status and bytes ticked through its cycle, its refusals, and what waits, power-up and power loss leave of array and lock registers. The array's length is handed over as a number; then whole calls on all 524,288 bytes.
use Rattle.std.specs.Prelude.{◌≡◌, refl, Bool, true, false, ◌&&◌, List, [], ◌∷◌, ◌++◌, ℕ, eqb, length, get_or, replicate}
use Rattle.std.specs.Int.Count.{ones_in, ones}
use Rattle.slices.specs.Changed.{map_at, window, sum_at}
use Rattle.memory.specs.Memory as memory-is
use Rattle.memory.specs.Missing.{missing_at, missing, page_of}
use Rattle.parts.specs.Parts.{figures_of}
use Rattle.parts.specs.Protected.{protected_of}
use Rattle.device.specs.Locks.{lock_of, locks_sound, no_locks, relocked}
use Rattle.device.specs.declared.Mode.TheVariants.{Busy}
use Rattle.device.specs.declared.Device.{Device}
use Rattle.device.specs.Device.{sound, status_byte, moded, latched, settled, remembering, running, started, ended, latch_at, locked}
use Rattle.device.specs.Time.{after_cycle, finished, lost, waited, time_number, wait_call, power_up_call, loss_call, powered_up, unlocked}
use Rattle.chip.specs.Table.{row_of, address_of}
use Rattle.chip.specs.Answers.{host_number, in_protected, as_needed, chip_number, decided, verdict_of, protected_any, protected_at}
use Rattle.chip.specs.Line.{by_row, heard, heard_row, driven, lined, driving_at, first_of, count_of}
use Rattle.device.specs.Cycles.{no_slots, no_cycle, page_cycle, write_cycle, erase_cycle, all_cycle, settings_cycle, slots_sound, cycle_sound, touched, cut, named_sound}
use Rattle.chip.specs.Change.{cycle_of, missing_of, bp_in, turned}
use Rattle.chip.specs.Outcome.{Outcome, outcome_of, transacted, bare}
use Rattle.chip.specs.Events.{Chip, Event, Reply, left, sent}
use Rattle.chip.specs.Events as chip
use Rattle.chip.specs.Worked.{Step, tells, waits, starts, loses, holds, gave, sees, told, answers, misses, reads, status}
use Rattle.told.specs.Pe.{held, unset}
use Rattle.told.specs.PeAnswers.{usual, still, locked_at}
use Rattle.told.specs.PeCycles.{round, some_bits, two_ends}

-- ---- on the first bytes of the array

-- a transaction on a chip of which only the first bytes are seen, with a response of its own length
abbrev pub answered : Chip → List ℕ → ℕ → Bool → Outcome
answered c bytes pulses w = outcome_of (verdict_of c.device 524288 bytes pulses w (length bytes)) c.device c.array bytes (replicate (length bytes) 0)

-- the chip after an event
abbrev pub next : Event → Chip → Chip
next (chip.sends bytes pulses w) c = left (answered c bytes pulses w)
next (chip.waits t) c = waited c t
next chip.starts c = powered_up c
next (chip.loses mask said) c = lost c mask said

-- what the caller sees of it
abbrev pub seen_of : Event → Chip → Reply
seen_of (chip.sends bytes pulses w) c = record { answer = (answered c bytes pulses w).answer; line = (answered c bytes pulses w).response }
seen_of (chip.waits t) c = record { answer = bare 0; line = [] }
seen_of chip.starts c = record { answer = bare 0; line = [] }
seen_of (chip.loses mask said) c = record { answer = bare 0; line = [] }

-- all that is to be seen is seen, in order
unfoldable pub shows : List Step → Chip → Bool
shows [] c = true
shows (tells e a r ∷ ss) c = gave (seen_of e c) a r && shows ss (next e c)
shows (holds i x ∷ ss) c = eqb (get_or c.array i 0) x && shows ss c

-- all of these are as they say, from a record and the first bytes of the array on
abbrev pub Shown : Device → List ℕ → List Step → Type 0
Shown d array es = shows es (record { device = d; array = array }) ≡ true

-- two pages and two bytes, all FF
abbrev pub all_ff : List ℕ
all_ff = replicate 514 0xFF

-- two subsectors and two bytes, all 00
abbrev pub all_00 : List ℕ
all_00 = replicate 8194 0x00

-- with three ticks left of a page write of 11 22 33 at 0000FE, every lock register 03, beside all 524,288 bytes, every byte A0
abbrev pub mid_write : Chip
mid_write = record { device = held 6 0 false true (Busy 3) round (replicate 8 3); array = replicate 524288 0xA0 }

-- what is seen
pub record Stories : Type 0 where
  -- RDID drives 20 80 13, then 00; 9E and 90 are unknown
  pub rdid : Shown usual all_ff (reads (0x9F ∷ 0x00 ∷ 0x00 ∷ 0x00 ∷ 0x00 ∷ 0x00 ∷ 0x00 ∷ []) 1 (0x20 ∷ 0x80 ∷ 0x13 ∷ 0x00 ∷ 0x00 ∷ 0x00 ∷ []) ∷ answers (0x9E ∷ 0x00 ∷ []) 14 ∷ answers (0x90 ∷ 0x00 ∷ []) 14 ∷ status 0x02 ∷ [])
  -- RDP in standby: executed, nothing driven; with more than one byte or a further pulse 15
  pub rdp : Shown usual all_ff (answers (0xAB ∷ []) 0 ∷ status 0x02 ∷ answers (0xAB ∷ 0x00 ∷ []) 15 ∷ answers (0xAB ∷ 0x00 ∷ 0x00 ∷ 0x00 ∷ 0x00 ∷ []) 15 ∷ told true 1 (0xAB ∷ []) 15 ∷ status 0x02 ∷ [])
  -- deep power-down: AB alone is taken, and only as it needs to be; the latch is kept
  pub dp : Shown usual all_ff (answers (0xB9 ∷ []) 0 ∷ answers (0x05 ∷ 0x00 ∷ []) 13 ∷ answers (0xB9 ∷ []) 13 ∷ answers (0xE8 ∷ 0x00 ∷ 0x00 ∷ 0x00 ∷ 0x00 ∷ []) 13 ∷ answers (0x0A ∷ 0x00 ∷ 0x00 ∷ 0x00 ∷ 0x55 ∷ []) 13 ∷ answers (0xE5 ∷ 0x00 ∷ 0x00 ∷ 0x00 ∷ 0x01 ∷ []) 13 ∷ answers (0xDB ∷ 0x00 ∷ 0x00 ∷ 0x00 ∷ []) 13 ∷ answers (0x20 ∷ 0x00 ∷ 0x00 ∷ 0x00 ∷ []) 13 ∷ answers (0xAB ∷ 0x00 ∷ []) 15 ∷ answers (0x05 ∷ 0x00 ∷ []) 13 ∷ told true 1 (0xAB ∷ []) 15 ∷ answers (0x05 ∷ 0x00 ∷ []) 13 ∷ answers (0xAB ∷ []) 0 ∷ status 0x02 ∷ [])
  -- WRSR: two ticks, BP from bits 4 to 2; 18 with SRWD set and W low
  pub wrsr : Shown usual all_ff (answers (0x01 ∷ 0xFF ∷ []) 0 ∷ status 0x03 ∷ waits 1 ∷ status 0x01 ∷ waits 1 ∷ status 0x9C ∷ answers (0x06 ∷ []) 0 ∷ told false 0 (0x01 ∷ 0x00 ∷ []) 18 ∷ told true 0 (0x01 ∷ 0x00 ∷ []) 0 ∷ [])
  -- PW: 0F A5 over F0 FF, both ways; no bits missing, three ticks; the bytes beside them stay
  pub pw : Shown usual (replicate 15 0xFF ++ (0x3C ∷ 0xF0 ∷ 0xFF ∷ 0x3C ∷ [])) (answers (0x0A ∷ 0x00 ∷ 0x00 ∷ 0x10 ∷ 0x0F ∷ 0xA5 ∷ []) 0 ∷ status 0x03 ∷ waits 1 ∷ status 0x03 ∷ waits 1 ∷ status 0x01 ∷ holds 0x10 0xF0 ∷ waits 1 ∷ status 0x00 ∷ holds 0x0F 0x3C ∷ holds 0x10 0x0F ∷ holds 0x11 0xA5 ∷ holds 0x12 0x3C ∷ [])
  -- the same by PP: four bits missing, and the bytes are anded
  pub pp : Shown usual (replicate 15 0xFF ++ (0x3C ∷ 0xF0 ∷ 0xFF ∷ 0x3C ∷ [])) (misses (0x02 ∷ 0x00 ∷ 0x00 ∷ 0x10 ∷ 0x0F ∷ 0xA5 ∷ []) 4 ∷ waits 3 ∷ holds 0x0F 0x3C ∷ holds 0x10 0x00 ∷ holds 0x11 0xA5 ∷ holds 0x12 0x3C ∷ [])
  -- PW of an equal byte is a whole cycle
  pub pw-equal : Shown usual all_ff (answers (0x0A ∷ 0x00 ∷ 0x00 ∷ 0x10 ∷ 0xFF ∷ []) 0 ∷ status 0x03 ∷ waits 2 ∷ status 0x01 ∷ waits 1 ∷ status 0x00 ∷ holds 0x10 0xFF ∷ [])
  -- it wraps in its page; the pages beside it stay
  pub pw-wraps : Shown usual all_ff (answers (0x0A ∷ 0x00 ∷ 0x01 ∷ 0xFE ∷ 0x11 ∷ 0x22 ∷ 0x33 ∷ []) 0 ∷ waits 3 ∷ holds 0x0FE 0xFF ∷ holds 0x0FF 0xFF ∷ holds 0x1FD 0xFF ∷ holds 0x1FE 0x11 ∷ holds 0x1FF 0x22 ∷ holds 0x100 0x33 ∷ holds 0x101 0xFF ∷ holds 0x200 0xFF ∷ [])
  -- 257 data bytes: the last 256 count
  pub pw-257 : Shown usual all_ff (answers (0x0A ∷ 0x00 ∷ 0x00 ∷ 0x80 ∷ 0x11 ∷ (replicate 255 0x33 ++ (0x22 ∷ []))) 0 ∷ waits 3 ∷ holds 0x080 0x22 ∷ holds 0x081 0x33 ∷ holds 0x0FF 0x33 ∷ holds 0x000 0x33 ∷ holds 0x07F 0x33 ∷ holds 0x100 0xFF ∷ holds 0x180 0xFF ∷ [])
  -- 255 and 256 data bytes from 000001 on, over 5A
  pub pw-255 : Shown usual (replicate 257 0x5A) (answers (0x0A ∷ 0x00 ∷ 0x00 ∷ 0x01 ∷ replicate 255 0x00) 0 ∷ waits 3 ∷ holds 0x000 0x5A ∷ holds 0x001 0x00 ∷ holds 0x0FF 0x00 ∷ holds 0x100 0x5A ∷ answers (0x06 ∷ []) 0 ∷ answers (0x0A ∷ 0x00 ∷ 0x00 ∷ 0x01 ∷ (replicate 255 0x00 ++ (0x77 ∷ []))) 0 ∷ waits 3 ∷ holds 0x000 0x77 ∷ holds 0x001 0x00 ∷ holds 0x0FF 0x00 ∷ holds 0x100 0x5A ∷ [])
  -- bit 19 of the address does not matter
  pub pw-round : Shown usual all_ff (answers (0x0A ∷ 0x08 ∷ 0x00 ∷ 0x10 ∷ 0x99 ∷ []) 0 ∷ waits 3 ∷ holds 0x00F 0xFF ∷ holds 0x010 0x99 ∷ holds 0x011 0xFF ∷ [])
  -- refused: too short, a further pulse, the latch reset; nothing changes
  pub pw-not : Shown usual all_ff (answers (0x0A ∷ 0x00 ∷ 0x00 ∷ 0x10 ∷ []) 15 ∷ told true 1 (0x0A ∷ 0x00 ∷ 0x00 ∷ 0x10 ∷ 0x55 ∷ []) 15 ∷ status 0x02 ∷ answers (0x04 ∷ []) 0 ∷ answers (0x0A ∷ 0x00 ∷ 0x00 ∷ 0x10 ∷ 0x55 ∷ []) 16 ∷ status 0x00 ∷ waits 9 ∷ holds 0x010 0xFF ∷ [])
  -- a protected sector: 17, and the latch is kept; the one below it is written
  pub pw-protected : Shown (still 1 false true unset) all_ff (answers (0x0A ∷ 0x07 ∷ 0x00 ∷ 0x00 ∷ 0x55 ∷ []) 17 ∷ status 0x06 ∷ answers (0x0A ∷ 0x06 ∷ 0xFF ∷ 0xFF ∷ 0x55 ∷ []) 0 ∷ status 0x07 ∷ [])
  -- PE: three ticks, the addressed page; over 00
  pub pe : Shown usual all_00 (answers (0xDB ∷ 0x00 ∷ 0x01 ∷ 0x80 ∷ []) 0 ∷ status 0x03 ∷ waits 2 ∷ status 0x01 ∷ holds 0x100 0x00 ∷ waits 1 ∷ status 0x00 ∷ holds 0x0FF 0x00 ∷ holds 0x100 0xFF ∷ holds 0x1FF 0xFF ∷ holds 0x200 0x00 ∷ [])
  -- SSE: five ticks, the addressed subsector; over 00
  pub sse : Shown usual all_00 (answers (0x20 ∷ 0x00 ∷ 0x1A ∷ 0xBC ∷ []) 0 ∷ status 0x03 ∷ waits 4 ∷ status 0x01 ∷ holds 0x1000 0x00 ∷ waits 1 ∷ status 0x00 ∷ holds 0x0FFF 0x00 ∷ holds 0x1000 0xFF ∷ holds 0x1FFF 0xFF ∷ holds 0x2000 0x00 ∷ [])
  -- SE: five ticks, and BE: nine; over 00
  pub se : Shown usual all_00 (answers (0xD8 ∷ 0x00 ∷ 0x00 ∷ 0x00 ∷ []) 0 ∷ waits 4 ∷ holds 0x0000 0x00 ∷ waits 1 ∷ holds 0x0000 0xFF ∷ holds 0x2000 0xFF ∷ status 0x00 ∷ answers (0x06 ∷ []) 0 ∷ answers (0xC7 ∷ []) 0 ∷ waits 8 ∷ status 0x01 ∷ waits 1 ∷ status 0x00 ∷ [])
  -- while a page write runs only RDSR is taken, and it goes on
  pub busy : Shown usual all_ff (answers (0x0A ∷ 0x00 ∷ 0x00 ∷ 0x00 ∷ 0x55 ∷ []) 0 ∷ answers (0x06 ∷ []) 12 ∷ answers (0x04 ∷ []) 12 ∷ answers (0x9F ∷ 0x00 ∷ []) 12 ∷ answers (0x01 ∷ 0x00 ∷ []) 12 ∷ answers (0xE5 ∷ 0x00 ∷ 0x00 ∷ 0x00 ∷ 0x01 ∷ []) 12 ∷ answers (0xE8 ∷ 0x00 ∷ 0x00 ∷ 0x00 ∷ 0x00 ∷ []) 12 ∷ answers (0x03 ∷ 0x00 ∷ 0x00 ∷ 0x00 ∷ 0x00 ∷ []) 12 ∷ answers (0x0B ∷ 0x00 ∷ 0x00 ∷ 0x00 ∷ 0x00 ∷ 0x00 ∷ []) 12 ∷ answers (0x0A ∷ 0x00 ∷ 0x00 ∷ 0x00 ∷ 0x66 ∷ []) 12 ∷ answers (0x02 ∷ 0x00 ∷ 0x00 ∷ 0x00 ∷ 0x66 ∷ []) 12 ∷ answers (0xDB ∷ 0x00 ∷ 0x00 ∷ 0x00 ∷ []) 12 ∷ answers (0x20 ∷ 0x00 ∷ 0x00 ∷ 0x00 ∷ []) 12 ∷ answers (0xD8 ∷ 0x00 ∷ 0x00 ∷ 0x00 ∷ []) 12 ∷ answers (0xC7 ∷ []) 12 ∷ answers (0xB9 ∷ []) 12 ∷ answers (0xAB ∷ []) 12 ∷ status 0x03 ∷ waits 3 ∷ holds 0x000 0x55 ∷ holds 0x001 0xFF ∷ [])
  -- WRLR: at once, the latch reset, no cycle; the registers beside it stay
  pub wrlr : Shown usual all_ff (answers (0xE5 ∷ 0x03 ∷ 0xFF ∷ 0xFF ∷ 0x01 ∷ []) 0 ∷ status 0x00 ∷ reads (0xE8 ∷ 0x03 ∷ 0x00 ∷ 0x00 ∷ 0x00 ∷ []) 4 (0x01 ∷ []) ∷ reads (0xE8 ∷ 0x02 ∷ 0x00 ∷ 0x00 ∷ 0x00 ∷ []) 4 (0x00 ∷ []) ∷ reads (0xE8 ∷ 0x04 ∷ 0x00 ∷ 0x00 ∷ 0x00 ∷ []) 4 (0x00 ∷ []) ∷ [])
  -- frozen: 19 for every value, the latch kept; lock-down alone protects nothing
  pub frozen : Shown (locked_at 3 1) all_ff (answers (0xE5 ∷ 0x03 ∷ 0x00 ∷ 0x00 ∷ 0x02 ∷ []) 0 ∷ reads (0xE8 ∷ 0x03 ∷ 0xFF ∷ 0xFF ∷ 0x00 ∷ 0x00 ∷ []) 4 (0x02 ∷ 0x02 ∷ []) ∷ answers (0x06 ∷ []) 0 ∷ answers (0xE5 ∷ 0x03 ∷ 0x00 ∷ 0x00 ∷ 0x00 ∷ []) 19 ∷ status 0x02 ∷ answers (0xE5 ∷ 0x03 ∷ 0x00 ∷ 0x00 ∷ 0x02 ∷ []) 19 ∷ status 0x02 ∷ reads (0xE8 ∷ 0x03 ∷ 0x00 ∷ 0x00 ∷ 0x00 ∷ []) 4 (0x02 ∷ []) ∷ answers (0x02 ∷ 0x03 ∷ 0x00 ∷ 0x00 ∷ 0x00 ∷ []) 0 ∷ [])
  -- WRLR refused: too short, too long, a further pulse, busy; the register stays
  pub wrlr-not : Shown usual all_ff (answers (0xE5 ∷ 0x03 ∷ 0x00 ∷ 0x00 ∷ []) 15 ∷ answers (0xE5 ∷ 0x03 ∷ 0x00 ∷ 0x00 ∷ 0x01 ∷ 0x00 ∷ []) 15 ∷ told true 1 (0xE5 ∷ 0x03 ∷ 0x00 ∷ 0x00 ∷ 0x01 ∷ []) 15 ∷ answers (0xDB ∷ 0x00 ∷ 0x00 ∷ 0x00 ∷ []) 0 ∷ answers (0xE5 ∷ 0x03 ∷ 0x00 ∷ 0x00 ∷ 0x01 ∷ []) 12 ∷ waits 3 ∷ reads (0xE8 ∷ 0x03 ∷ 0x00 ∷ 0x00 ∷ 0x00 ∷ []) 4 (0x00 ∷ []) ∷ [])
  -- 16 before 19
  pub wrlr-reset : Shown (still 0 false false (replicate 8 3)) all_ff (answers (0xE5 ∷ 0x03 ∷ 0x00 ∷ 0x00 ∷ 0x00 ∷ []) 16 ∷ answers (0x06 ∷ []) 0 ∷ answers (0xE5 ∷ 0x03 ∷ 0x00 ∷ 0x00 ∷ 0x00 ∷ []) 19 ∷ status 0x02 ∷ [])
  -- BP 7, SRWD 1 and W low do not stop it, and stop WRSR
  pub wrlr-low : Shown (still 7 true true unset) all_ff (told false 0 (0xE5 ∷ 0x03 ∷ 0x00 ∷ 0x00 ∷ 0x01 ∷ []) 0 ∷ told false 0 (0x06 ∷ []) 0 ∷ told false 0 (0x01 ∷ 0x00 ∷ []) 18 ∷ reads (0xE8 ∷ 0x03 ∷ 0x00 ∷ 0x00 ∷ 0x00 ∷ []) 4 (0x01 ∷ []) ∷ [])
  -- what a write lock stops, and what it does not
  pub locked : Shown (locked_at 3 1) all_ff (answers (0x0A ∷ 0x03 ∷ 0x00 ∷ 0x00 ∷ 0x55 ∷ []) 17 ∷ answers (0x02 ∷ 0x03 ∷ 0x00 ∷ 0x00 ∷ 0x55 ∷ []) 17 ∷ answers (0xDB ∷ 0x03 ∷ 0x00 ∷ 0x00 ∷ []) 17 ∷ answers (0x20 ∷ 0x03 ∷ 0x00 ∷ 0x00 ∷ []) 17 ∷ answers (0xD8 ∷ 0x03 ∷ 0x00 ∷ 0x00 ∷ []) 17 ∷ answers (0xC7 ∷ []) 17 ∷ status 0x02 ∷ answers (0x0A ∷ 0x02 ∷ 0xFF ∷ 0xFF ∷ 0x55 ∷ []) 0 ∷ [])
  -- a loss in a page write: each named byte or the mask, the others stay
  pub pw-cut : Shown usual (replicate 257 0xA0) (answers (0x0A ∷ 0x00 ∷ 0x00 ∷ 0xFE ∷ 0x11 ∷ 0x22 ∷ 0x33 ∷ []) 0 ∷ waits 2 ∷ tells (chip.loses some_bits false) (bare 0) [] ∷ status 0x00 ∷ holds 0x0FE 0xA1 ∷ holds 0x0FF 0xA2 ∷ holds 0x000 0xA4 ∷ holds 0x001 0xA0 ∷ holds 0x0FD 0xA0 ∷ holds 0x100 0xA0 ∷ waits 3 ∷ holds 0x0FE 0xA1 ∷ [])
  -- power-up in a page write completes it
  pub pw-power-up : Shown usual (replicate 257 0xA0) (answers (0x0A ∷ 0x00 ∷ 0x00 ∷ 0xFE ∷ 0x11 ∷ 0x22 ∷ 0x33 ∷ []) 0 ∷ starts ∷ status 0x00 ∷ holds 0x0FE 0x11 ∷ holds 0x0FF 0x22 ∷ holds 0x000 0x33 ∷ holds 0x001 0xA0 ∷ holds 0x100 0xA0 ∷ [])
  -- a loss in a page erase and in a subsector erase
  pub erase-cut : Shown usual (replicate 8194 0xA0) (answers (0xDB ∷ 0x00 ∷ 0x01 ∷ 0x80 ∷ []) 0 ∷ tells (chip.loses two_ends false) (bare 0) [] ∷ holds 0x00FF 0xA0 ∷ holds 0x0100 0xA5 ∷ holds 0x01FF 0xAA ∷ holds 0x0200 0xA0 ∷ answers (0x06 ∷ []) 0 ∷ answers (0x20 ∷ 0x00 ∷ 0x1A ∷ 0xBC ∷ []) 0 ∷ tells (chip.loses two_ends false) (bare 0) [] ∷ status 0x00 ∷ holds 0x0FFF 0xA0 ∷ holds 0x1000 0xA5 ∷ holds 0x10FF 0xAA ∷ holds 0x1100 0xA5 ∷ holds 0x1FFF 0xAA ∷ holds 0x2000 0xA0 ∷ [])
  -- power-up and loss clear the lock registers, in a cycle and in deep power-down; then they can be written
  pub cleared : Shown (still 0 false true (replicate 8 3)) all_ff (starts ∷ reads (0xE8 ∷ 0x00 ∷ 0x00 ∷ 0x00 ∷ 0x00 ∷ []) 4 (0x00 ∷ []) ∷ reads (0xE8 ∷ 0x07 ∷ 0x00 ∷ 0x00 ∷ 0x00 ∷ []) 4 (0x00 ∷ []) ∷ answers (0x06 ∷ []) 0 ∷ answers (0xE5 ∷ 0x03 ∷ 0x00 ∷ 0x00 ∷ 0x03 ∷ []) 0 ∷ answers (0x06 ∷ []) 0 ∷ answers (0xB9 ∷ []) 0 ∷ loses 0xFF true ∷ reads (0xE8 ∷ 0x03 ∷ 0x00 ∷ 0x00 ∷ 0x00 ∷ []) 4 (0x00 ∷ []) ∷ answers (0x06 ∷ []) 0 ∷ answers (0xE5 ∷ 0x03 ∷ 0x00 ∷ 0x00 ∷ 0x03 ∷ []) 0 ∷ answers (0x06 ∷ []) 0 ∷ answers (0x0A ∷ 0x00 ∷ 0x00 ∷ 0x00 ∷ 0x55 ∷ []) 0 ∷ starts ∷ holds 0x000 0x55 ∷ reads (0xE8 ∷ 0x03 ∷ 0x00 ∷ 0x00 ∷ 0x00 ∷ []) 4 (0x00 ∷ []) ∷ answers (0x06 ∷ []) 0 ∷ answers (0xE5 ∷ 0x03 ∷ 0x00 ∷ 0x00 ∷ 0x03 ∷ []) 0 ∷ answers (0x06 ∷ []) 0 ∷ answers (0x0A ∷ 0x00 ∷ 0x00 ∷ 0x00 ∷ 0x66 ∷ []) 0 ∷ loses 0x00 true ∷ holds 0x000 0x55 ∷ reads (0xE8 ∷ 0x03 ∷ 0x00 ∷ 0x00 ∷ 0x00 ∷ []) 4 (0x00 ∷ []) ∷ status 0x00 ∷ [])
  -- they stay over WREN, WRDI, deep power-down and its release, a page write and waits
  pub kept : Shown usual all_ff (answers (0xE5 ∷ 0x03 ∷ 0x00 ∷ 0x00 ∷ 0x03 ∷ []) 0 ∷ answers (0x06 ∷ []) 0 ∷ answers (0x04 ∷ []) 0 ∷ answers (0xB9 ∷ []) 0 ∷ answers (0xAB ∷ []) 0 ∷ answers (0x06 ∷ []) 0 ∷ answers (0x0A ∷ 0x00 ∷ 0x00 ∷ 0x00 ∷ 0x55 ∷ []) 0 ∷ waits 3 ∷ reads (0xE8 ∷ 0x03 ∷ 0x00 ∷ 0x00 ∷ 0x00 ∷ []) 4 (0x03 ∷ []) ∷ answers (0x06 ∷ []) 0 ∷ answers (0xE5 ∷ 0x03 ∷ 0x00 ∷ 0x00 ∷ 0x00 ∷ []) 19 ∷ [])
  -- whole calls: a page write at 0000FE, completed at power-up and cut by a loss
  pub whole-power-up : sees (starts ∷ holds 0x0FE 0x11 ∷ holds 0x0FF 0x22 ∷ holds 0x000 0x33 ∷ holds 0x001 0xA0 ∷ holds 0x100 0xA0 ∷ []) mid_write ≡ true
  pub whole-loss : sees (tells (chip.loses some_bits true) (bare 0) [] ∷ holds 0x0FE 0xA1 ∷ holds 0x0FF 0xA2 ∷ holds 0x000 0xA4 ∷ holds 0x001 0xA0 ∷ holds 0x100 0xA0 ∷ []) mid_write ≡ true
  -- a wait keeps the lock registers, a loss clears them
  pub whole-records : (wait_call mid_write 3).chip.device ∷ (loss_call mid_write some_bits true).chip.device ∷ [] ≡ still 0 false false (replicate 8 3) ∷ still 0 false false unset ∷ []
