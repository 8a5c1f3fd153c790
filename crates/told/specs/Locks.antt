-- The lock registers told a second time, and computed: what their bits do, which sector has which, what writing and reading one does, what keeps them and what clears them. Lengths are handed over as numbers.
use Rattle.std.specs.Prelude.{◌≡◌, refl, Bool, true, false, List, [], ◌∷◌, ◌++◌, map, ℕ, ◌/◌, ◌%◌, length, set, take, replicate}
use Rattle.slices.specs.Changed.{map_at, window, sum_at}
use Rattle.memory.specs.Memory as memory-is
use Rattle.parts.specs.Parts.{figures_of}
use Rattle.parts.specs.Protected.{protected_of}
use Rattle.device.specs.Locks.{no_locks, stops, freezes, lock_of, any_stops, relocked, locks_sound}
use Rattle.device.specs.declared.Mode.{Mode}
use Rattle.device.specs.declared.Mode.TheVariants.{Standby, Busy, Deep}
use Rattle.device.specs.declared.Device.{Device}
use Rattle.device.specs.declared.cycle.Cycle.{Cycle}
use Rattle.device.specs.Chip.{Chip, chip}
use Rattle.device.specs.Cycles.{no_slots, no_cycle, page_cycle, write_cycle, erase_cycle, all_cycle, settings_cycle, slots_sound, cycle_sound, touched, cut, named_sound}
use Rattle.device.specs.Device.{sound, status_byte, moded, latched, settled, remembering, running, started, ended, latch_at, locked, delivered}
use Rattle.device.specs.Time.{after_cycle, finished, powered_up, lost, waited, unlocked, time_number}
use Rattle.chip.specs.Table.{row_of, address_of}
use Rattle.chip.specs.Answers.{host_number, in_protected, as_needed, chip_number, decided, verdict_of, protected_any, protected_at}
use Rattle.chip.specs.Line.{Driven, by_row, heard, heard_row, driven, lined, driving_at, first_of, count_of}
use Rattle.chip.specs.Change.{cycle_of, missing_of, bp_in, turned}
use Rattle.chip.specs.Outcome.{Outcome, outcome_of}
use Rattle.told.specs.Cycles.{full, none, programming, erasing_sector, erasing_all, writing, replacing, erasing_page, erasing_subsector}
use Rattle.told.specs.Effects.{after}
use Rattle.told.specs.Lines.{mute, late}
use Rattle.told.specs.Pe.{held, unset, sectors}
use Rattle.told.specs.PePacking.{mixed}
use Rattle.told.specs.PeAnswers.{seventeen, still, locked_at}

-- ---- the registers

-- the first address of each sector
abbrev pub firsts : List ℕ
firsts = 0x000000 ∷ 0x010000 ∷ 0x020000 ∷ 0x030000 ∷ 0x040000 ∷ 0x050000 ∷ 0x060000 ∷ 0x070000 ∷ []

-- the last address of each sector
abbrev pub lasts : List ℕ
lasts = 0x00FFFF ∷ 0x01FFFF ∷ 0x02FFFF ∷ 0x03FFFF ∷ 0x04FFFF ∷ 0x05FFFF ∷ 0x06FFFF ∷ 0x07FFFF ∷ []

-- what the registers are and do
pub record Registers : Type 0 where
  -- eight, all 0 at delivery
  pub none-set : no_locks ≡ 0 ∷ 0 ∷ 0 ∷ 0 ∷ 0 ∷ 0 ∷ 0 ∷ 0 ∷ []
  pub at-delivery : map (λ (p : ℕ). (delivered p 3 5 9 2).locks) (0 ∷ 1 ∷ 2 ∷ 3 ∷ 4 ∷ 5 ∷ 6 ∷ []) ≡ replicate 7 (0 ∷ 0 ∷ 0 ∷ 0 ∷ 0 ∷ 0 ∷ 0 ∷ 0 ∷ [])
  -- bit 0 is the write lock, bit 1 the lock-down: 00, 01, 02, 03
  pub write-lock : map stops (0 ∷ 1 ∷ 2 ∷ 3 ∷ []) ≡ false ∷ true ∷ false ∷ true ∷ []
  pub lock-down : map freezes (0 ∷ 1 ∷ 2 ∷ 3 ∷ []) ≡ false ∷ false ∷ true ∷ true ∷ []
  -- some write lock: in each place in turn, 1, 2, 3; none; all of them lock-downs
  pub some : map (λ (r : ℕ). map (λ (s : ℕ). any_stops (set unset s r)) sectors) (1 ∷ 2 ∷ 3 ∷ []) ≡ replicate 8 true ∷ replicate 8 false ∷ replicate 8 true ∷ []
  pub no-lock : any_stops [] ∷ any_stops unset ∷ any_stops (replicate 8 2) ∷ any_stops mixed ∷ [] ≡ false ∷ false ∷ false ∷ true ∷ []
  -- the register of an address is its sector's, from the sector's first byte to its last
  pub of-first : map (lock_of (figures_of 6) (10 ∷ 11 ∷ 12 ∷ 13 ∷ 14 ∷ 15 ∷ 16 ∷ 17 ∷ [])) firsts ≡ 10 ∷ 11 ∷ 12 ∷ 13 ∷ 14 ∷ 15 ∷ 16 ∷ 17 ∷ []
  pub of-last : map (lock_of (figures_of 6) (10 ∷ 11 ∷ 12 ∷ 13 ∷ 14 ∷ 15 ∷ 16 ∷ 17 ∷ [])) lasts ≡ 10 ∷ 11 ∷ 12 ∷ 13 ∷ 14 ∷ 15 ∷ 16 ∷ 17 ∷ []
  -- a byte written: bits 1 and 0 are taken, of every byte
  pub bits : map (λ (b : ℕ). relocked (figures_of 6) mixed 0x03ABCD b) (0x00 ∷ 0x01 ∷ 0x02 ∷ 0x03 ∷ 0x04 ∷ 0x55 ∷ 0xAA ∷ 0xFC ∷ 0xFF ∷ []) ≡ map (λ (r : ℕ). 1 ∷ 2 ∷ 3 ∷ r ∷ 3 ∷ 1 ∷ 0 ∷ 2 ∷ []) (0 ∷ 1 ∷ 2 ∷ 3 ∷ 0 ∷ 1 ∷ 2 ∷ 0 ∷ 3 ∷ [])

-- computed by the checker
pub registers : Registers
unfolding no_locks delivered figures_of lock_of relocked
registers = record {
  none-set = refl;
  at-delivery = refl;
  write-lock = refl;
  lock-down = refl;
  some = refl;
  no-lock = refl;
  of-first = refl;
  of-last = refl;
  bits = refl;
}

-- ---- writing and reading one

-- a write of a lock register: address and byte 4
abbrev pub relock : ℕ → ℕ → List ℕ
relock a b = 0xE5 ∷ a / 65536 ∷ a / 256 % 256 ∷ a % 256 ∷ b ∷ []

-- what a transaction gives on three bytes of the array, with a response of its own length: by record, further pulses and W
abbrev pub given : Device → ℕ → Bool → List ℕ → Outcome
given d pulses w sent = outcome_of (verdict_of d 524288 sent pulses w (length sent)) d (0x3C ∷ 0x3C ∷ 0x3C ∷ []) sent (replicate (length sent) 0)

-- number, first, count, and then the response
abbrev pub line : Outcome → List ℕ
line o = o.answer.number ∷ o.answer.first ∷ o.answer.count ∷ o.response

-- latch reset, the lock register of sector 7 is 03
abbrev pub seventh : Device
seventh = still 0 false false (set unset 7 3)

-- during each of the first seven bytes of E8 and six more, at 070000
abbrev pub drives_on : Device → List Driven
drives_on d = map (λ (i : ℕ). driven d [] (take i (0xE8 ∷ 0x07 ∷ 0 ∷ 0 ∷ 0 ∷ 0 ∷ 0 ∷ []))) (0 ∷ 1 ∷ 2 ∷ 3 ∷ 4 ∷ 5 ∷ 6 ∷ [])

-- what is written and read
pub record Access : Type 0 where
  -- WRLR: the addressed sector's register alone, by its first byte and by its last; the latch is reset at once, no cycle
  pub by_first : map (λ (a : ℕ). after (still 0 false true unset) (relock a 1)) firsts ≡ map (λ (s : ℕ). still 0 false false (set unset s 1)) sectors
  pub by_last : map (λ (a : ℕ). after (still 0 false true unset) (relock a 3)) lasts ≡ map (λ (s : ℕ). still 0 false false (set unset s 3)) sectors
  -- bits 1 and 0 of byte 4; BP, SRWD and the other registers stay, whatever W is
  pub bytes : map (λ (b : ℕ). (given (still 7 true true mixed) 0 false (relock 0x030000 b)).device) (0x01 ∷ 0x02 ∷ 0x03 ∷ 0xFC ∷ 0xFF ∷ []) ≡ map (λ (r : ℕ). still 7 true false (1 ∷ 2 ∷ 3 ∷ r ∷ 3 ∷ 1 ∷ 0 ∷ 2 ∷ [])) (1 ∷ 2 ∷ 3 ∷ 0 ∷ 3 ∷ [])
  -- a write lock goes again; equal values; an address beyond the part
  pub unlocks : after (locked_at 3 1) (relock 0x030000 0) ∷ after (locked_at 3 1) (relock 0x030000 1) ∷ after (still 0 false true unset) (relock 0xFB0000 1) ∷ [] ≡ still 0 false false unset ∷ still 0 false false (set unset 3 1) ∷ still 0 false false (set unset 3 1) ∷ []
  -- frozen: the register and the latch stay, for the same value too
  pub stays : map (λ (b : ℕ). after (locked_at 3 2) (relock 0x030000 b)) (0 ∷ 1 ∷ 2 ∷ 3 ∷ []) ++ map (λ (b : ℕ). after (locked_at 3 3) (relock 0x03FFFF b)) (0 ∷ 3 ∷ []) ≡ replicate 4 (locked_at 3 2) ++ replicate 2 (locked_at 3 3)
  -- nothing is driven, and no byte of the array changes; so with 19
  pub write-line : line (given (still 0 false true unset) 0 true (relock 0x030000 1)) ∷ line (given (locked_at 3 2) 0 true (relock 0x030000 1)) ∷ [] ≡ (0 ∷ 0 ∷ 0 ∷ replicate 5 0xFF) ∷ (19 ∷ 0 ∷ 0 ∷ replicate 5 0xFF) ∷ []
  pub write-array : (given (still 0 false true unset) 0 true (relock 0x000000 1)).array ≡ 0x3C ∷ 0x3C ∷ 0x3C ∷ []
  -- RDLR: from byte 4 on the register of the sector, again and again; by any address of it, and beyond the part
  pub once : line (given seventh 0 true (0xE8 ∷ 0x07 ∷ 0x00 ∷ 0x00 ∷ 0x00 ∷ [])) ≡ 0 ∷ 4 ∷ 1 ∷ 0xFF ∷ 0xFF ∷ 0xFF ∷ 0xFF ∷ 0x03 ∷ []
  pub again : line (given seventh 0 true (0xE8 ∷ 0x07 ∷ 0xFF ∷ 0xFF ∷ 0x00 ∷ 0x00 ∷ 0x00 ∷ [])) ≡ 0 ∷ 4 ∷ 3 ∷ 0xFF ∷ 0xFF ∷ 0xFF ∷ 0xFF ∷ 0x03 ∷ 0x03 ∷ 0x03 ∷ []
  pub pulses : line (given seventh 5 true (0xE8 ∷ 0x07 ∷ 0x00 ∷ 0x00 ∷ 0x00 ∷ 0x00 ∷ [])) ≡ 0 ∷ 4 ∷ 2 ∷ 0xFF ∷ 0xFF ∷ 0xFF ∷ 0xFF ∷ 0x03 ∷ 0x03 ∷ []
  pub beside : line (given seventh 0 true (0xE8 ∷ 0x06 ∷ 0xFF ∷ 0xFF ∷ 0x00 ∷ [])) ≡ 0 ∷ 4 ∷ 1 ∷ 0xFF ∷ 0xFF ∷ 0xFF ∷ 0xFF ∷ 0x00 ∷ []
  pub beyond : line (given seventh 0 true (0xE8 ∷ 0x0F ∷ 0x00 ∷ 0x00 ∷ 0x00 ∷ [])) ≡ 0 ∷ 4 ∷ 1 ∷ 0xFF ∷ 0xFF ∷ 0xFF ∷ 0xFF ∷ 0x03 ∷ []
  -- n = 4: executed, and drives nothing; n = 3: 15
  pub four_bytes : line (given seventh 0 true (0xE8 ∷ 0x07 ∷ 0x00 ∷ 0x00 ∷ [])) ∷ line (given seventh 7 true (0xE8 ∷ 0x07 ∷ 0x00 ∷ 0x00 ∷ [])) ∷ [] ≡ replicate 2 (0 ∷ 0 ∷ 0 ∷ replicate 4 0xFF)
  pub three-bytes : line (given seventh 0 true (0xE8 ∷ 0x07 ∷ 0x00 ∷ [])) ≡ 15 ∷ 0 ∷ 0 ∷ replicate 3 0xFF
  -- each value is driven; nothing while busy and in deep power-down; with 12 and 13
  pub values : map (λ (r : ℕ). drives_on (locked_at 7 r)) (0 ∷ 1 ∷ 2 ∷ 3 ∷ []) ≡ map late (0 ∷ 1 ∷ 2 ∷ 3 ∷ [])
  pub not-heard : drives_on (held 6 0 false true (Busy 2) (erasing_page 0) (replicate 8 3)) ∷ drives_on (held 6 0 false true Deep none (replicate 8 3)) ∷ [] ≡ mute ∷ mute ∷ []
  pub not_taken : map (λ (d : Device). line (given d 0 true (0xE8 ∷ 0x07 ∷ 0x00 ∷ 0x00 ∷ 0x00 ∷ []))) (held 6 0 false true (Busy 2) (erasing_page 0) (replicate 8 3) ∷ held 6 0 false true Deep none (replicate 8 3) ∷ []) ≡ (12 ∷ 0 ∷ 0 ∷ replicate 5 0xFF) ∷ (13 ∷ 0 ∷ 0 ∷ replicate 5 0xFF) ∷ []

-- computed by the checker
pub access : Access
unfolding map_at window sum_at memory-is.blank memory-is.filled missing_of figures_of protected_of sound status_byte moded latched remembering running started latch_at locked row_of address_of host_number in_protected as_needed chip_number decided verdict_of by_row heard heard_row driven lined driving_at first_of count_of no_slots no_cycle page_cycle write_cycle erase_cycle all_cycle settings_cycle slots_sound cycle_sound cycle_of bp_in turned outcome_of named_sound locks_sound protected_at protected_any lock_of relocked
access = record {
  by_first = refl;
  by_last = refl;
  bytes = refl;
  unlocks = refl;
  stays = refl;
  write-line = refl;
  write-array = refl;
  once = refl;
  again = refl;
  pulses = refl;
  beside = refl;
  beyond = refl;
  four_bytes = refl;
  three-bytes = refl;
  values = refl;
  not-heard = refl;
  not_taken = refl;
}

-- ---- what keeps them, and what clears them

-- with so many ticks left of a cycle, BP 1, SRWD 0, latch set, every lock register as these, beside two bytes
abbrev pub cycling : List ℕ → ℕ → Cycle → Chip
cycling ls t c = chip (held 6 1 false true (Busy t) c ls) (0x3C ∷ 0xA5 ∷ [])

-- standby, latch reset, no cycle, by BP, SRWD and lock registers, beside two bytes
abbrev pub rests : ℕ → Bool → List ℕ → ℕ → ℕ → Chip
rests b s ls x y = chip (held 6 b s false Standby none ls) (x ∷ y ∷ [])

-- a page write of 0F over both bytes, a page erase, a subsector erase; then a program of 0F, a sector erase, a bulk erase, a write of SRWD 1 and BP 2
abbrev pub each_kind : List Cycle
each_kind = replacing 0 (full 0x0F) 256 ∷ erasing_page 0x0FF ∷ erasing_subsector 0xFFF ∷ programming 0 (full 0x0F) ∷ erasing_sector 0xFFFF ∷ erasing_all ∷ writing true 2 ∷ []

-- what each leaves when it is completed, with these lock registers
abbrev pub whole : List ℕ → List Chip
whole ls = rests 1 false ls 0x0F 0x0F ∷ rests 1 false ls 0xFF 0xFF ∷ rests 1 false ls 0xFF 0xFF ∷ rests 1 false ls 0x0C 0x05 ∷ rests 1 false ls 0xFF 0xFF ∷ rests 1 false ls 0xFF 0xFF ∷ rests 2 true ls 0x3C 0xA5 ∷ []

-- what each leaves when it is cut with the mask 52, with the word no
abbrev pub half : List ℕ → List Chip
half ls = rests 1 false ls 0x7E 0xF7 ∷ rests 1 false ls 0x7E 0xF7 ∷ rests 1 false ls 0x7E 0xF7 ∷ rests 1 false ls 0x1C 0x05 ∷ rests 1 false ls 0x7E 0xF7 ∷ rests 1 false ls 0x7E 0xF7 ∷ rests 1 false ls 0x3C 0xA5 ∷ []

-- what is left
pub record Kept : Type 0 where
  -- waiting keeps them, before the last tick and over it, whatever the cycle; in standby and in deep power-down too
  pub waits : map (λ (c : Cycle). waited (cycling mixed 5 c) 3) each_kind ≡ map (cycling mixed 2) each_kind
  pub completes : map (λ (c : Cycle). waited (cycling mixed 5 c) 5) each_kind ≡ whole mixed
  pub idle : map (λ (m : Mode). waited (chip (held 6 1 false true m none mixed) []) 9) (Standby ∷ Deep ∷ []) ≡ map (λ (m : Mode). chip (held 6 1 false true m none mixed) []) (Standby ∷ Deep ∷ [])
  -- power-up completes the cycle and clears them; it does so outside a cycle too
  pub powered : map (λ (c : Cycle). powered_up (cycling mixed 5 c)) each_kind ≡ whole unset
  pub powered-idle : map (λ (m : Mode). powered_up (chip (held 6 1 true true m none (replicate 8 3)) (0x3C ∷ 0xA5 ∷ []))) (Standby ∷ Deep ∷ []) ≡ replicate 2 (rests 1 true unset 0x3C 0xA5)
  -- a loss cuts the cycle and clears them, with yes and with no; outside a cycle too
  pub lost-no : map (λ (c : Cycle). lost (cycling mixed 5 c) (full 0x52) false) each_kind ≡ half unset
  pub lost-yes : lost (cycling mixed 5 (replacing 0 (full 0x0F) 256)) (full 0x52) true ∷ lost (cycling mixed 5 (writing true 2)) (full 0x52) true ∷ [] ≡ rests 1 false unset 0x7E 0xF7 ∷ rests 2 true unset 0x3C 0xA5 ∷ []
  pub lost-idle : map (λ (m : Mode). lost (chip (held 6 1 true true m none (replicate 8 3)) (0x3C ∷ 0xA5 ∷ [])) (full 0xFF) true) (Standby ∷ Deep ∷ []) ≡ replicate 2 (rests 1 true unset 0x3C 0xA5)
  -- of the seventeen, all of them executed, WRLR alone changes one
  pub instructions : map (λ (sent : List ℕ). (after (still 0 false true (0 ∷ 2 ∷ 2 ∷ 0 ∷ 2 ∷ 2 ∷ 2 ∷ 2 ∷ [])) sent).locks) seventeen ≡ replicate 5 (0 ∷ 2 ∷ 2 ∷ 0 ∷ 2 ∷ 2 ∷ 2 ∷ 2 ∷ []) ++ ((1 ∷ 2 ∷ 2 ∷ 0 ∷ 2 ∷ 2 ∷ 2 ∷ 2 ∷ []) ∷ replicate 11 (0 ∷ 2 ∷ 2 ∷ 0 ∷ 2 ∷ 2 ∷ 2 ∷ 2 ∷ []))
  -- 6 before 2 where one is 4, or where another part has one
  pub not_sound : time_number (held 6 0 false true Standby none (set unset 7 4)) 0 41 ∷ time_number (held 2 0 false true Standby none (set unset 7 1)) 0 41 ∷ time_number (held 6 0 false true Standby none (set unset 7 3)) 0 41 ∷ time_number (held 6 0 false true Standby none (set unset 7 3)) 524288 41 ∷ [] ≡ 6 ∷ 6 ∷ 2 ∷ 41 ∷ []

-- computed by the checker
pub kept : Kept
unfolding map_at window sum_at memory-is.blank memory-is.filled memory-is.programmed memory-is.replaced memory-is.named memory-is.erased memory-is.cut_page memory-is.cut_write memory-is.cut_sector missing_of figures_of protected_of sound status_byte moded latched settled remembering running started ended latch_at locked after_cycle finished powered_up lost waited unlocked time_number touched cut row_of address_of host_number in_protected as_needed chip_number decided verdict_of by_row heard heard_row driven lined driving_at first_of count_of no_slots no_cycle no_locks page_cycle write_cycle erase_cycle all_cycle settings_cycle slots_sound cycle_sound cycle_of bp_in turned outcome_of named_sound locks_sound protected_at protected_any lock_of relocked
kept = record {
  waits = refl;
  completes = refl;
  idle = refl;
  powered = refl;
  powered-idle = refl;
  lost-no = refl;
  lost-yes = refl;
  lost-idle = refl;
  instructions = refl;
  not_sound = refl;
}
