-- The device record told a second time, with numbers in place of rules, and computed: what it is delivered as, its changes, its status byte, when it and its cycle are sound.
use Rattle.std.specs.Prelude.{◌≡◌, refl, Bool, true, false, List, [], ◌∷◌, ◌++◌, map, ℕ, set, replicate}
use Rattle.parts.specs.Parts.{figures_of}
use Rattle.device.specs.Locks.{locks_sound, no_locks}
use Rattle.device.specs.declared.Mode.{Mode}
use Rattle.device.specs.declared.Mode.TheVariants.{Standby, Busy, Deep}
use Rattle.device.specs.declared.Device.{Device}
use Rattle.device.specs.declared.cycle.Kind.{Kind}
use Rattle.device.specs.declared.cycle.Kind.TheVariants.{Idle, Page, Sector, All, Settings}
use Rattle.device.specs.declared.cycle.Cycle.{Cycle}
use Rattle.device.specs.Cycles.{no_slots, no_cycle, slots_sound, cycle_sound, named_sound}
use Rattle.device.specs.Device.{latch_at, moded, latched, settled, remembering, running, started, ended, zero_record, delivered, sound, status_byte}
use Rattle.device.specs.Packing.{pack_answer}
use Rattle.told.specs.Cycles.{cycle, full, row, none, programming, erasing_sector, erasing_all, writing}

-- a record by part, BP, SRWD, latch, mode and cycle; each duration has three bytes of its own
abbrev pub with_cycle : ℕ → ℕ → Bool → Bool → Mode → Cycle → Device
with_cycle p b s l m c = record { part = p; bp = b; srwd = s; latch = l; mode = m; program = 0x010203; sector_erase = 0x040506; bulk_erase = 0x07080D; write_status = 0x0E0F10; cycle = c; locks = no_locks }

-- the same without a cycle
abbrev pub of : ℕ → ℕ → Bool → Bool → Mode → Device
of p b s l m = with_cycle p b s l m none

-- an M25P40 in a program
abbrev pub busy : Device
busy = with_cycle 2 5 true true (Busy 0x0A0B0C) (programming 0x051234 (row 0x11 0x22 0xFF 0x33))

-- an M25P32 in deep power-down, latch reset: no two fields are the same number
abbrev pub deep : Device
deep = of 3 6 true false Deep

-- an M25P128 in standby, SRWD 0
abbrev pub still : Device
still = of 4 7 false true Standby

-- the all-zero record
abbrev pub zeros : Device
zeros = record { part = 0; bp = 0; srwd = false; latch = false; mode = Standby; program = 0; sector_erase = 0; bulk_erase = 0; write_status = 0; cycle = none; locks = no_locks }

-- ---- what the record becomes

-- what becomes of a record
pub record Changes : Type 0 where
  -- 'Delivery': BP 0, SRWD 0, latch reset, standby, the given durations, no cycle
  pub delivery : delivered 2 0x010203 0x040506 0x07080D 0x0E0F10 ≡ of 2 0 false false Standby
  pub zero : zero_record ≡ zeros
  -- the latch, the settings, the mode and the cycle are changed alone
  pub enable : latched deep true ≡ of 3 6 true true Deep
  pub disable : latched still false ≡ of 4 7 false false Standby
  pub settings : settled busy false 2 ≡ with_cycle 2 2 false true (Busy 0x0A0B0C) (programming 0x051234 (row 0x11 0x22 0xFF 0x33))
  pub wake : moded deep false Standby ≡ of 3 6 true false Standby
  pub remember : remembering still (writing true 3) ≡ with_cycle 4 7 false true Standby (writing true 3)
  pub forget : remembering busy none ≡ of 2 5 true true (Busy 0x0A0B0C)
  -- busy with ticks left: the latch is set but for the last one, and the cycle stays
  pub nine : running still 9 ≡ of 4 7 false true (Busy 9)
  pub two : running still 2 ≡ of 4 7 false true (Busy 2)
  pub one : running still 1 ≡ of 4 7 false false (Busy 1)
  pub last : running busy 1 ≡ with_cycle 2 5 true false (Busy 1) (programming 0x051234 (row 0x11 0x22 0xFF 0x33))
  -- a cycle begins, of nine ticks, of two, of one; BP and SRWD stay
  pub starts : started still erasing_all 9 ≡ with_cycle 4 7 false true (Busy 9) erasing_all
  pub starts-two : started still (writing true 3) 2 ≡ with_cycle 4 7 false true (Busy 2) (writing true 3)
  pub starts-one : started still (erasing_sector 0xFFFFFF) 1 ≡ with_cycle 4 7 false false (Busy 1) (erasing_sector 0xFFFFFF)
  -- standby, latch reset, no cycle; all else is kept
  pub ends : ended busy ≡ of 2 5 true false Standby
  pub ends-settings : ended (with_cycle 4 7 false true (Busy 2) (writing true 3)) ≡ of 4 7 false false Standby
  pub ends-deep : ended (latched deep true) ≡ of 3 6 true false Standby
  pub ends-still : ended still ≡ of 4 7 false false Standby

-- computed by the checker
pub changes : Changes
unfolding delivered zero_record latch_at latched settled moded remembering running started ended no_slots no_cycle no_locks
changes = record {
  delivery = refl;
  zero = refl;
  enable = refl;
  disable = refl;
  settings = refl;
  wake = refl;
  remember = refl;
  forget = refl;
  nine = refl;
  two = refl;
  one = refl;
  last = refl;
  starts = refl;
  starts-two = refl;
  starts-one = refl;
  ends = refl;
  ends-settings = refl;
  ends-deep = refl;
  ends-still = refl;
}

-- ---- the status byte, and when the record is sound

-- what pack answers where there is room: 0 for a sound record, else 6
abbrev pub asks : Device → ℕ
asks d = pack_answer d 304

-- the last number below the range of a duration, its first, its last, and the one above
abbrev pub borders : List ℕ
borders = 0 ∷ 1 ∷ 1000000 ∷ 1000001 ∷ []

-- the answers for BP 0 to 8 on a part
abbrev pub with_bp : ℕ → List ℕ
with_bp p = map (λ (b : ℕ). asks (of p b false false Standby)) (0 ∷ 1 ∷ 2 ∷ 3 ∷ 4 ∷ 5 ∷ 6 ∷ 7 ∷ 8 ∷ [])

-- the answers for parts 0 to 7, and 255, in a mode, with a cycle
abbrev pub with_part : Bool → Mode → Cycle → List ℕ
with_part l m c = map (λ (p : ℕ). asks (with_cycle p 0 false l m c)) (0 ∷ 1 ∷ 2 ∷ 3 ∷ 4 ∷ 5 ∷ 6 ∷ 7 ∷ 255 ∷ [])

-- the answers for ticks left of a bulk erase
abbrev pub with_ticks : Bool → List ℕ
with_ticks l = map (λ (x : ℕ). asks (with_cycle 4 7 false l (Busy x) erasing_all)) (0 ∷ 1 ∷ 2 ∷ 1000000 ∷ 1000001 ∷ [])

-- which records are sound, and their status bytes
pub record Soundness : Type 0 where
  -- each duration, and ticks left, are 1 to 1,000,000; the latch is set exactly if more than one tick is left
  pub program : map (λ (x : ℕ). asks (delivered 0 x 5 9 2)) borders ≡ 6 ∷ 0 ∷ 0 ∷ 6 ∷ []
  pub sector-erase : map (λ (x : ℕ). asks (delivered 0 3 x 9 2)) borders ≡ 6 ∷ 0 ∷ 0 ∷ 6 ∷ []
  pub bulk-erase : map (λ (x : ℕ). asks (delivered 0 3 5 x 2)) borders ≡ 6 ∷ 0 ∷ 0 ∷ 6 ∷ []
  pub write-status : map (λ (x : ℕ). asks (delivered 0 3 5 9 x)) borders ≡ 6 ∷ 0 ∷ 0 ∷ 6 ∷ []
  pub ticks-latch : with_ticks true ≡ 6 ∷ 6 ∷ 0 ∷ 0 ∷ 6 ∷ []
  pub ticks-reset : with_ticks false ≡ 6 ∷ 0 ∷ 6 ∷ 6 ∷ 6 ∷ []
  -- the highest BP is 3, 3, 7, 7, 7, 3, 7
  pub bp-bench : with_bp 0 ≡ 0 ∷ 0 ∷ 0 ∷ 0 ∷ 6 ∷ 6 ∷ 6 ∷ 6 ∷ 6 ∷ []
  pub bp-m25p10a : with_bp 1 ≡ 0 ∷ 0 ∷ 0 ∷ 0 ∷ 6 ∷ 6 ∷ 6 ∷ 6 ∷ 6 ∷ []
  pub bp-m25p40 : with_bp 2 ≡ 0 ∷ 0 ∷ 0 ∷ 0 ∷ 0 ∷ 0 ∷ 0 ∷ 0 ∷ 6 ∷ []
  pub bp-m25p32 : with_bp 3 ≡ 0 ∷ 0 ∷ 0 ∷ 0 ∷ 0 ∷ 0 ∷ 0 ∷ 0 ∷ 6 ∷ []
  pub bp-m25p128 : with_bp 4 ≡ 0 ∷ 0 ∷ 0 ∷ 0 ∷ 0 ∷ 0 ∷ 0 ∷ 0 ∷ 6 ∷ []
  pub bp-older : with_bp 5 ≡ 0 ∷ 0 ∷ 0 ∷ 0 ∷ 6 ∷ 6 ∷ 6 ∷ 6 ∷ 6 ∷ []
  pub bp-m25pe40 : with_bp 6 ≡ 0 ∷ 0 ∷ 0 ∷ 0 ∷ 0 ∷ 0 ∷ 0 ∷ 0 ∷ 6 ∷ []
  -- the part is 0 to 6, a busy record has its latch set but for the last tick, and the M25P128 is not in deep power-down
  pub standby : with_part false Standby none ≡ 0 ∷ 0 ∷ 0 ∷ 0 ∷ 0 ∷ 0 ∷ 0 ∷ 6 ∷ 6 ∷ []
  pub standby-latch : with_part true Standby none ≡ 0 ∷ 0 ∷ 0 ∷ 0 ∷ 0 ∷ 0 ∷ 0 ∷ 6 ∷ 6 ∷ []
  pub busy-latch : with_part true (Busy 2) erasing_all ≡ 0 ∷ 0 ∷ 0 ∷ 0 ∷ 0 ∷ 0 ∷ 0 ∷ 6 ∷ 6 ∷ []
  pub busy-reset : with_part false (Busy 2) erasing_all ≡ 6 ∷ 6 ∷ 6 ∷ 6 ∷ 6 ∷ 6 ∷ 6 ∷ 6 ∷ 6 ∷ []
  pub last-latch : with_part true (Busy 1) erasing_all ≡ 6 ∷ 6 ∷ 6 ∷ 6 ∷ 6 ∷ 6 ∷ 6 ∷ 6 ∷ 6 ∷ []
  pub last-reset : with_part false (Busy 1) erasing_all ≡ 0 ∷ 0 ∷ 0 ∷ 0 ∷ 0 ∷ 0 ∷ 0 ∷ 6 ∷ 6 ∷ []
  pub deep-latch : with_part true Deep none ≡ 0 ∷ 0 ∷ 0 ∷ 0 ∷ 6 ∷ 0 ∷ 0 ∷ 6 ∷ 6 ∷ []
  pub deep-reset : with_part false Deep none ≡ 0 ∷ 0 ∷ 0 ∷ 0 ∷ 6 ∷ 0 ∷ 0 ∷ 6 ∷ 6 ∷ []
  pub all-zero : asks zero_record ≡ 6
  -- 'Status byte': bit 7 SRWD, bits 4 to 2 BP, bit 1 the latch, bit 0 set while busy
  pub bits-bp : map (λ (b : ℕ). status_byte (of 3 b false false Standby)) (0 ∷ 1 ∷ 2 ∷ 3 ∷ 4 ∷ 5 ∷ 6 ∷ 7 ∷ []) ≡ 0x00 ∷ 0x04 ∷ 0x08 ∷ 0x0C ∷ 0x10 ∷ 0x14 ∷ 0x18 ∷ 0x1C ∷ []
  pub bit-srwd : status_byte (of 3 0 true false Standby) ≡ 0x80
  pub bit-latch : status_byte (of 3 0 false true Standby) ≡ 0x02
  pub bits-busy : status_byte (with_cycle 3 0 false true (Busy 7) erasing_all) ≡ 0x03
  pub bits-last : status_byte (with_cycle 3 0 false false (Busy 1) erasing_all) ≡ 0x01
  pub bits-deep : status_byte (of 3 0 false true Deep) ≡ 0x02
  pub bits-all : status_byte busy ≡ 0x97
  -- the old settings while new ones are written: SRWD 0 and BP 1 to SRWD 1 and BP 6, and the other way round
  pub bits-old : status_byte (with_cycle 3 1 false true (Busy 7) (writing true 6)) ∷ status_byte (with_cycle 3 6 true false (Busy 1) (writing false 1)) ∷ [] ≡ 0x07 ∷ 0x99 ∷ []

-- computed by the checker
pub soundness : Soundness
unfolding delivered zero_record latch_at sound no_slots no_cycle slots_sound cycle_sound pack_answer status_byte figures_of named_sound locks_sound no_locks
soundness = record {
  program = refl;
  sector-erase = refl;
  bulk-erase = refl;
  write-status = refl;
  ticks-latch = refl;
  ticks-reset = refl;
  bp-bench = refl;
  bp-m25p10a = refl;
  bp-m25p40 = refl;
  bp-m25p32 = refl;
  bp-m25p128 = refl;
  bp-older = refl;
  bp-m25pe40 = refl;
  standby = refl;
  standby-latch = refl;
  busy-latch = refl;
  busy-reset = refl;
  last-latch = refl;
  last-reset = refl;
  deep-latch = refl;
  deep-reset = refl;
  all-zero = refl;
  bits-bp = refl;
  bit-srwd = refl;
  bit-latch = refl;
  bits-busy = refl;
  bits-last = refl;
  bits-deep = refl;
  bits-all = refl;
  bits-old = refl;
}

-- ---- when the cycle is sound

-- what is answered to a part in a mode with a cycle, BP 0, SRWD 0, latch set
abbrev pub among : ℕ → Mode → Cycle → ℕ
among p m c = asks (with_cycle p 0 false true m c)

-- none, and one of each kind
abbrev pub one_each : List Cycle
one_each = none ∷ programming 0 (full 0xFF) ∷ erasing_sector 0 ∷ erasing_all ∷ writing false 0 ∷ []

-- busy on the bench part with a cycle of each kind, and in standby and in deep power-down with none: the same address, slots, BP and SRWD in each
abbrev pub with_fields : ℕ → List ℕ → ℕ → Bool → List ℕ
with_fields a s b w =
    map (λ (k : Kind). among 0 (Busy 2) (cycle k a s b w)) (Page ∷ Sector ∷ All ∷ Settings ∷ []) ++ map (λ (m : Mode). among 0 m (cycle Idle a s b w)) (Standby ∷ Deep ∷ [])

-- the answers for new BP 0 to 8 on a part
abbrev pub with_new_bp : ℕ → List ℕ
with_new_bp p = map (λ (b : ℕ). among p (Busy 2) (writing true b)) (0 ∷ 1 ∷ 2 ∷ 3 ∷ 4 ∷ 5 ∷ 6 ∷ 7 ∷ 8 ∷ [])

-- which cycles are sound; a row of six is a program, a sector erase, a bulk erase, a settings write, none in standby, none in deep power-down
pub record Remembered : Type 0 where
  -- busy exactly if a cycle is remembered
  pub busy-kinds : map (among 0 (Busy 2)) one_each ≡ 6 ∷ 0 ∷ 0 ∷ 0 ∷ 0 ∷ []
  pub standby-kinds : map (among 0 Standby) one_each ≡ 0 ∷ 6 ∷ 6 ∷ 6 ∷ 6 ∷ []
  pub deep-kinds : map (among 0 Deep) one_each ≡ 0 ∷ 6 ∷ 6 ∷ 6 ∷ 6 ∷ []
  -- all zero; then one field after the other, which must be zero where the kind does not use it
  pub zeroed : with_fields 0 (full 0) 0 false ≡ 0 ∷ 0 ∷ 0 ∷ 0 ∷ 0 ∷ 0 ∷ []
  pub address : with_fields 1 (full 0) 0 false ≡ 0 ∷ 0 ∷ 6 ∷ 6 ∷ 6 ∷ 6 ∷ []
  pub first_slot : with_fields 0 (set (full 0) 0 1) 0 false ≡ 0 ∷ 6 ∷ 6 ∷ 6 ∷ 6 ∷ 6 ∷ []
  pub last-slot : with_fields 0 (set (full 0) 255 0x80) 0 false ≡ 0 ∷ 6 ∷ 6 ∷ 6 ∷ 6 ∷ 6 ∷ []
  pub new-bp : with_fields 0 (full 0) 1 false ≡ 6 ∷ 6 ∷ 6 ∷ 0 ∷ 6 ∷ 6 ∷ []
  pub new-srwd : with_fields 0 (full 0) 0 true ≡ 6 ∷ 6 ∷ 6 ∷ 0 ∷ 6 ∷ 6 ∷ []
  -- there are 256 slots, used or not
  pub slot-less : with_fields 0 (replicate 255 0) 0 false ≡ 6 ∷ 6 ∷ 6 ∷ 6 ∷ 6 ∷ 6 ∷ []
  pub slot-more : with_fields 0 (replicate 257 0) 0 false ≡ 6 ∷ 6 ∷ 6 ∷ 6 ∷ 6 ∷ 6 ∷ []
  -- the address is below the part's size: the last one of each part, and the next
  pub last-address : among 0 (Busy 2) (erasing_sector 4095) ∷ among 1 (Busy 2) (erasing_sector 131071) ∷ among 2 (Busy 2) (erasing_sector 524287) ∷ among 3 (Busy 2) (erasing_sector 4194303) ∷ among 4 (Busy 2) (erasing_sector 16777215) ∷ among 5 (Busy 2) (erasing_sector 131071) ∷ among 6 (Busy 2) (erasing_sector 524287) ∷ [] ≡ replicate 7 0
  pub beyond : among 0 (Busy 2) (erasing_sector 4096) ∷ among 1 (Busy 2) (erasing_sector 131072) ∷ among 2 (Busy 2) (erasing_sector 524288) ∷ among 3 (Busy 2) (erasing_sector 4194304) ∷ among 4 (Busy 2) (erasing_sector 16777216) ∷ among 5 (Busy 2) (erasing_sector 131072) ∷ among 6 (Busy 2) (erasing_sector 524288) ∷ [] ≡ replicate 7 6
  pub page-address : map (λ (a : ℕ). among 0 (Busy 2) (programming a (full 0x5A))) (0 ∷ 4095 ∷ 4096 ∷ 4294967295 ∷ []) ≡ 0 ∷ 0 ∷ 6 ∷ 6 ∷ []
  -- the new BP is at most the part's highest
  pub new-bench : with_new_bp 0 ≡ 0 ∷ 0 ∷ 0 ∷ 0 ∷ 6 ∷ 6 ∷ 6 ∷ 6 ∷ 6 ∷ []
  pub new-m25p10a : with_new_bp 1 ≡ 0 ∷ 0 ∷ 0 ∷ 0 ∷ 6 ∷ 6 ∷ 6 ∷ 6 ∷ 6 ∷ []
  pub new-m25p40 : with_new_bp 2 ≡ 0 ∷ 0 ∷ 0 ∷ 0 ∷ 0 ∷ 0 ∷ 0 ∷ 0 ∷ 6 ∷ []
  pub new-m25p32 : with_new_bp 3 ≡ 0 ∷ 0 ∷ 0 ∷ 0 ∷ 0 ∷ 0 ∷ 0 ∷ 0 ∷ 6 ∷ []
  pub new-m25p128 : with_new_bp 4 ≡ 0 ∷ 0 ∷ 0 ∷ 0 ∷ 0 ∷ 0 ∷ 0 ∷ 0 ∷ 6 ∷ []
  pub new-older : with_new_bp 5 ≡ 0 ∷ 0 ∷ 0 ∷ 0 ∷ 6 ∷ 6 ∷ 6 ∷ 6 ∷ 6 ∷ []
  pub new-m25pe40 : with_new_bp 6 ≡ 0 ∷ 0 ∷ 0 ∷ 0 ∷ 0 ∷ 0 ∷ 0 ∷ 0 ∷ 6 ∷ []
  -- nothing else is asked: more ticks left than any duration; a cycle where all is protected, and a settings write with SRWD set
  pub long : map (among 0 (Busy 1000000)) one_each ≡ 6 ∷ 0 ∷ 0 ∷ 0 ∷ 0 ∷ []
  pub protected : map (λ (c : Cycle). asks (with_cycle 0 3 true true (Busy 2) c)) one_each ≡ 6 ∷ 0 ∷ 0 ∷ 0 ∷ 0 ∷ []

-- computed by the checker
pub remembered : Remembered
unfolding latch_at sound no_slots no_cycle slots_sound cycle_sound pack_answer figures_of named_sound locks_sound no_locks
remembered = record {
  busy-kinds = refl;
  standby-kinds = refl;
  deep-kinds = refl;
  zeroed = refl;
  address = refl;
  first_slot = refl;
  last-slot = refl;
  new-bp = refl;
  new-srwd = refl;
  slot-less = refl;
  slot-more = refl;
  last-address = refl;
  beyond = refl;
  page-address = refl;
  new-bench = refl;
  new-m25p10a = refl;
  new-m25p40 = refl;
  new-m25p32 = refl;
  new-m25p128 = refl;
  new-older = refl;
  new-m25pe40 = refl;
  long = refl;
  protected = refl;
}
