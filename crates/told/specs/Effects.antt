-- What instructions do to the record, part by part, told a second time, and computed: the record after each of them, with the cycle that it then remembers. Lengths are handed over as numbers.
use Rattle.std.specs.Prelude.{◌≡◌, refl, Bool, true, false, List, [], ◌∷◌, ◌++◌, map, ℕ, length, get_or, replicate}
use Rattle.slices.specs.Changed.{map_at, window, sum_at}
use Rattle.memory.specs.Memory as memory-is
use Rattle.parts.specs.Parts.{figures_of}
use Rattle.parts.specs.Protected.{protected_of}
use Rattle.device.specs.Locks.{lock_of, locks_sound, no_locks}
use Rattle.device.specs.declared.Mode.{Mode}
use Rattle.device.specs.declared.Mode.TheVariants.{Standby, Busy, Deep}
use Rattle.device.specs.declared.Device.{Device}
use Rattle.device.specs.declared.cycle.Cycle.{Cycle}
use Rattle.device.specs.Chip.{chip}
use Rattle.device.specs.Cycles.{no_slots, no_cycle, page_cycle, erase_cycle, all_cycle, settings_cycle, slots_sound, cycle_sound, touched, named_sound}
use Rattle.device.specs.Device.{sound, status_byte, moded, latched, settled, remembering, running, started, ended, latch_at}
use Rattle.device.specs.Time.{after_cycle, finished, waited}
use Rattle.chip.specs.Table.{row_of, address_of}
use Rattle.chip.specs.Answers.{host_number, in_protected, as_needed, chip_number, decided, verdict_of, protected_any, protected_at}
use Rattle.chip.specs.Line.{by_row, heard, heard_row, driven, lined, driving_at, first_of, count_of}
use Rattle.chip.specs.Change.{cycle_of, bp_in, turned}
use Rattle.chip.specs.Outcome.{Outcome, outcome_of}
use Rattle.chip.specs.Worked.{record_of}
use Rattle.told.specs.Cycles.{row, none, programming, erasing_sector, erasing_all, writing, busy_of}
use Rattle.told.specs.Answers.{sizes, twelve}
use Rattle.told.specs.Lines.{part, sends}

-- a transaction with W high and no further pulses, on an array of the part's size, of which these bytes are seen
abbrev pub outcome : Device → List ℕ → List ℕ → Outcome
outcome d array sent = outcome_of (verdict_of d (get_or sizes d.part 0) sent 0 true (length sent)) d array sent []

-- the record after it
abbrev pub after : Device → List ℕ → Device
after d sent = (outcome d [] sent).device

-- BP 0 to 7 in bits 4 to 2, then FF, and all bits but 4 to 2
abbrev pub settings_bytes : List ℕ
settings_bytes = 0x00 ∷ 0x04 ∷ 0x08 ∷ 0x0C ∷ 0x10 ∷ 0x14 ∷ 0x18 ∷ 0x1C ∷ 0xFF ∷ 0xE3 ∷ []

-- the new BP that a WRSR of these has a part remember, and the BP once its two ticks are over
abbrev pub sets : ℕ → List (List ℕ)
sets p =
    map (λ (b : ℕ). (after (part p 0) (0x01 ∷ b ∷ [])).cycle.bp) settings_bytes
    ∷ map (λ (b : ℕ). (waited (chip (after (part p 0) (0x01 ∷ b ∷ [])) []) 2).device.bp) settings_bytes
    ∷ []

-- the same of SRWD, on an M25P32 with SRWD at this level
abbrev pub sets_srwd : Bool → List (List Bool)
sets_srwd s =
    map (λ (b : ℕ). (after (record_of 3 0 s true Standby) (0x01 ∷ b ∷ [])).cycle.srwd) (0x00 ∷ 0x7F ∷ 0x80 ∷ 0xFF ∷ [])
    ∷ map (λ (b : ℕ). (waited (chip (after (record_of 3 0 s true Standby) (0x01 ∷ b ∷ [])) []) 2).device.srwd) (0x00 ∷ 0x7F ∷ 0x80 ∷ 0xFF ∷ [])
    ∷ []

-- an M25P32 whose cycles take one tick, by BP, SRWD, latch, mode and cycle
abbrev pub brisk : ℕ → Bool → Bool → Mode → Cycle → Device
brisk b s l m c = record { part = 3; bp = b; srwd = s; latch = l; mode = m; program = 1; sector_erase = 1; bulk_erase = 1; write_status = 1; cycle = c; locks = no_locks }

-- an M25P32 in a program, BP 2, SRWD 1
abbrev pub mid_program : Device
mid_program = busy_of 3 2 true true 4 (programming 0x3F01FE (row 0x33 0x44 0xFF 0x11))

-- what each instruction does to the record
pub record Turns : Type 0 where
  -- WRSR: bits 4 to 2, bits 3 and 2 where the highest BP is 3
  pub sets-bench : sets 0 ≡ replicate 2 (0 ∷ 1 ∷ 2 ∷ 3 ∷ 0 ∷ 1 ∷ 2 ∷ 3 ∷ 3 ∷ 0 ∷ [])
  pub sets-m25p10a : sets 1 ≡ replicate 2 (0 ∷ 1 ∷ 2 ∷ 3 ∷ 0 ∷ 1 ∷ 2 ∷ 3 ∷ 3 ∷ 0 ∷ [])
  pub sets-m25p40 : sets 2 ≡ replicate 2 (0 ∷ 1 ∷ 2 ∷ 3 ∷ 4 ∷ 5 ∷ 6 ∷ 7 ∷ 7 ∷ 0 ∷ [])
  pub sets-m25p32 : sets 3 ≡ replicate 2 (0 ∷ 1 ∷ 2 ∷ 3 ∷ 4 ∷ 5 ∷ 6 ∷ 7 ∷ 7 ∷ 0 ∷ [])
  pub sets-m25p128 : sets 4 ≡ replicate 2 (0 ∷ 1 ∷ 2 ∷ 3 ∷ 4 ∷ 5 ∷ 6 ∷ 7 ∷ 7 ∷ 0 ∷ [])
  pub sets-older : sets 5 ≡ replicate 2 (0 ∷ 1 ∷ 2 ∷ 3 ∷ 0 ∷ 1 ∷ 2 ∷ 3 ∷ 3 ∷ 0 ∷ [])
  pub sets-m25pe40 : sets 6 ≡ replicate 2 (0 ∷ 1 ∷ 2 ∷ 3 ∷ 4 ∷ 5 ∷ 6 ∷ 7 ∷ 7 ∷ 0 ∷ [])
  -- bit 7
  pub sets-set : sets_srwd true ≡ replicate 2 (false ∷ false ∷ true ∷ true ∷ [])
  pub sets-reset : sets_srwd false ≡ replicate 2 (false ∷ false ∷ true ∷ true ∷ [])
  -- each of the twelve on an M25P32 with SRWD 1; cycles of 2, 3, 5 and 9 ticks, each remembered as it was sent, and BP and SRWD as they were
  pub wren : after (record_of 3 2 true false Standby) (0x06 ∷ []) ≡ record_of 3 2 true true Standby
  pub wrdi : after (record_of 3 2 true true Standby) (0x04 ∷ []) ≡ record_of 3 2 true false Standby
  pub rdid : after (record_of 3 2 true true Standby) (sends 0x9F) ≡ record_of 3 2 true true Standby
  pub rdsr : after mid_program (sends 0x05) ≡ mid_program
  pub rdsr-last : after (busy_of 3 2 true false 1 (writing false 5)) (sends 0x05) ≡ busy_of 3 2 true false 1 (writing false 5)
  pub wrsr : after (record_of 3 2 true true Standby) (0x01 ∷ 0x74 ∷ []) ≡ busy_of 3 2 true true 2 (writing false 5)
  pub wrsr-srwd : after (record_of 3 2 false true Standby) (0x01 ∷ 0x80 ∷ []) ≡ busy_of 3 2 false true 2 (writing true 0)
  pub wrsr-same : after (record_of 3 2 true true Standby) (0x01 ∷ 0x88 ∷ []) ≡ busy_of 3 2 true true 2 (writing true 2)
  pub read : after (record_of 3 2 true true Standby) (sends 0x03) ≡ record_of 3 2 true true Standby
  pub fast-read : after (record_of 3 2 true true Standby) (sends 0x0B) ≡ record_of 3 2 true true Standby
  pub pp : after (record_of 3 2 true true Standby) (0x02 ∷ 0 ∷ 0 ∷ 0 ∷ 0 ∷ []) ≡ busy_of 3 2 true true 3 (programming 0 (row 0x00 0xFF 0xFF 0xFF))
  -- the address modulo the part's size, and not the start of the page; FF where no data went
  pub pp-round : after (record_of 3 2 true true Standby) (0x02 ∷ 0xFC ∷ 0xA1 ∷ 0xFF ∷ 0x11 ∷ 0x22 ∷ 0x33 ∷ []) ≡ busy_of 3 2 true true 3 (programming 0x3CA1FF (row 0x22 0x33 0xFF 0x11))
  -- 257 data bytes: the last one replaces the first
  pub pp-long : after (record_of 3 2 true true Standby) ((0x02 ∷ 0 ∷ 0 ∷ 0xFF ∷ 0x11 ∷ 0x22 ∷ 0x33 ∷ []) ++ (replicate 253 0x44 ++ (0x55 ∷ []))) ≡ busy_of 3 2 true true 3 (programming 0xFF (row 0x22 0x33 0x44 0x55))
  pub se : after (record_of 3 2 true true Standby) (0xD8 ∷ 0 ∷ 0 ∷ 0 ∷ []) ≡ busy_of 3 2 true true 5 (erasing_sector 0)
  pub se-round : after (record_of 3 2 true true Standby) (0xD8 ∷ 0xFC ∷ 0xA1 ∷ 0xFE ∷ []) ≡ busy_of 3 2 true true 5 (erasing_sector 0x3CA1FE)
  pub be : after (record_of 3 0 true true Standby) (0xC7 ∷ []) ≡ busy_of 3 0 true true 9 erasing_all
  pub dp : after (record_of 3 2 true true Standby) (0xB9 ∷ []) ≡ record_of 3 2 true true Deep
  pub dp-reset : after (record_of 3 2 true false Standby) (0xB9 ∷ []) ≡ record_of 3 2 true false Deep
  pub res : after (record_of 3 2 true true Deep) (0xAB ∷ []) ≡ record_of 3 2 true true Standby
  pub res-reset : after (record_of 3 2 true false Deep) (sends 0xAB) ≡ record_of 3 2 true false Standby
  pub res-standby : after (record_of 3 2 true true Standby) (sends 0xAB) ≡ record_of 3 2 true true Standby
  -- cycles of one tick: the latch is reset at once
  pub wrsr-one : after (brisk 2 true true Standby none) (0x01 ∷ 0x74 ∷ []) ≡ brisk 2 true false (Busy 1) (writing false 5)
  pub pp-one : after (brisk 2 true true Standby none) (0x02 ∷ 0 ∷ 0 ∷ 0 ∷ 0 ∷ []) ≡ brisk 2 true false (Busy 1) (programming 0 (row 0x00 0xFF 0xFF 0xFF))
  pub se-one : after (brisk 2 true true Standby none) (0xD8 ∷ 0 ∷ 0 ∷ 0 ∷ []) ≡ brisk 2 true false (Busy 1) (erasing_sector 0)
  pub be-one : after (brisk 0 true true Standby none) (0xC7 ∷ []) ≡ brisk 0 true false (Busy 1) erasing_all
  -- ignored: the record stays, latch and cycle included; the twelve in a program, of which RDSR alone is taken
  pub ignored : after (record_of 3 7 true true Standby) (0xC7 ∷ []) ≡ record_of 3 7 true true Standby
  pub ignored-busy : map (after mid_program) twelve ≡ replicate 12 mid_program
  -- refused: a record whose cycle is not sound stays, too
  pub refused : after (busy_of 3 2 true true 4 none) (sends 0x05) ≡ busy_of 3 2 true true 4 none
  -- B9 and AB are unknown on the M25P128
  pub dp-m25p128 : after (part 4 0) (0xB9 ∷ []) ≡ part 4 0
  pub dp-m25p40 : after (part 2 0) (0xB9 ∷ []) ≡ record_of 2 0 false true Deep
  pub dp-m25p10a : after (part 1 0) (0xB9 ∷ []) ≡ record_of 1 0 false true Deep
  pub dp-older : after (part 5 0) (0xB9 ∷ []) ≡ record_of 5 0 false true Deep
  -- settings cut to the part's bits: 9C on an M25P10-A and on an M25P40
  pub two_bits : after (part 1 1) (0x01 ∷ 0x9C ∷ []) ≡ busy_of 1 1 false true 2 (writing true 3)
  pub three_bits : after (part 2 1) (0x01 ∷ 0x9C ∷ []) ≡ busy_of 2 1 false true 2 (writing true 7)
  -- no instruction changes a byte at once: the twelve, on bytes 3C
  pub at_once : map (λ (sent : List ℕ). (outcome (part 0 0) (replicate 5 0x3C) sent).array) twelve ≡ replicate 12 (replicate 5 0x3C)

-- computed by the checker
pub turns : Turns
unfolding map_at window sum_at memory-is.blank memory-is.filled figures_of protected_of sound status_byte moded latched settled remembering running started ended latch_at after_cycle finished waited row_of address_of host_number in_protected as_needed chip_number decided verdict_of by_row heard heard_row driven lined driving_at first_of count_of no_slots no_cycle page_cycle erase_cycle all_cycle settings_cycle slots_sound cycle_sound cycle_of touched bp_in turned outcome_of named_sound locks_sound no_locks protected_at protected_any lock_of
turns = record {
  sets-bench = refl;
  sets-m25p10a = refl;
  sets-m25p40 = refl;
  sets-m25p32 = refl;
  sets-m25p128 = refl;
  sets-older = refl;
  sets-m25pe40 = refl;
  sets-set = refl;
  sets-reset = refl;
  wren = refl;
  wrdi = refl;
  rdid = refl;
  rdsr = refl;
  rdsr-last = refl;
  wrsr = refl;
  wrsr-srwd = refl;
  wrsr-same = refl;
  read = refl;
  fast-read = refl;
  pp = refl;
  pp-round = refl;
  pp-long = refl;
  se = refl;
  se-round = refl;
  be = refl;
  wrsr-one = refl;
  pp-one = refl;
  se-one = refl;
  be-one = refl;
  dp = refl;
  dp-reset = refl;
  res = refl;
  res-reset = refl;
  res-standby = refl;
  ignored = refl;
  ignored-busy = refl;
  refused = refl;
  dp-m25p128 = refl;
  dp-m25p40 = refl;
  dp-m25p10a = refl;
  dp-older = refl;
  two_bits = refl;
  three_bits = refl;
  at_once = refl;
}
