-- The packing told a second time, byte by byte, and computed: 304 bytes of a record in a cycle of each kind and of one without, both ways, and what is answered where a byte or the length is another.
use Rattle.std.specs.Prelude.{◌≡◌, refl, true, false, List, [], ◌∷◌, ◌++◌, map, ℕ, set, take, replicate}
use Rattle.parts.specs.Parts.{figures_of}
use Rattle.device.specs.Locks.{locks_sound, no_locks}
use Rattle.device.specs.declared.Mode.TheVariants.{Busy}
use Rattle.device.specs.declared.Device.{Device}
use Rattle.device.specs.declared.Checked.{Checked}
use Rattle.device.specs.declared.cycle.Kind.TheVariants.{Idle, Page, Sector, All, Settings, PageWrite, PageErase, Subsector}
use Rattle.device.specs.Cycles.{no_slots, no_cycle, slots_sound, cycle_sound, named_sound}
use Rattle.device.specs.Device.{latch_at, zero_record, delivered, sound}
use Rattle.device.specs.Packing.{kind_number, kind_of, cycle_at, front_of, pack_of, fields_of, formed, pack_answer, unpack_answer, unpack_of}
use Rattle.told.specs.Cycles.{full, row, none, programming, erasing_sector, erasing_all, writing, kinds}
use Rattle.told.specs.Record.{with_cycle, busy, deep, still, zeros}

-- ---- records and their bytes

-- the packed durations of these records
abbrev pub durations : List ℕ
durations = 0x03 ∷ 0x02 ∷ 0x01 ∷ 0 ∷ 0x06 ∷ 0x05 ∷ 0x04 ∷ 0 ∷ 0x0D ∷ 0x08 ∷ 0x07 ∷ 0 ∷ 0x10 ∷ 0x0F ∷ 0x0E ∷ 0 ∷ []

-- bytes 292 to 303 of a part without lock registers: no bytes named, eight zeros
abbrev pub tail : List ℕ
tail = 0 ∷ 0 ∷ 0 ∷ 0 ∷ 0 ∷ 0 ∷ 0 ∷ 0 ∷ 0 ∷ 0 ∷ 0 ∷ 0 ∷ []

-- bytes 28 to 303 without a cycle
abbrev pub no_cycle_bytes : List ℕ
no_cycle_bytes = replicate 276 0

-- the 28 bytes of an M25P40 in a cycle, SRWD 1, BP 5, 0A0B0C ticks left
abbrev pub front : List ℕ
front = (2 ∷ 5 ∷ 1 ∷ 1 ∷ 1 ∷ 0 ∷ 0 ∷ 0 ∷ 0x0C ∷ 0x0B ∷ 0x0A ∷ 0 ∷ []) ++ durations

-- in a program at 051234: the bytes of `busy`
abbrev pub busy_bytes : List ℕ
busy_bytes = front ++ ((1 ∷ 0 ∷ 0 ∷ 0 ∷ 0x34 ∷ 0x12 ∷ 0x05 ∷ 0 ∷ []) ++ (0x11 ∷ 0x22 ∷ (replicate 253 0xFF ++ (0x33 ∷ tail))))

-- in an erase of the sector of 07FEDC
abbrev pub erase : Device
erase = with_cycle 2 5 true true (Busy 0x0A0B0C) (erasing_sector 0x07FEDC)

-- its bytes
abbrev pub erase_bytes : List ℕ
erase_bytes = front ++ ((2 ∷ 0 ∷ 0 ∷ 0 ∷ 0xDC ∷ 0xFE ∷ 0x07 ∷ 0 ∷ []) ++ (replicate 256 0 ++ tail))

-- in a bulk erase
abbrev pub bulk : Device
bulk = with_cycle 2 5 true true (Busy 0x0A0B0C) erasing_all

-- its bytes
abbrev pub bulk_bytes : List ℕ
bulk_bytes = front ++ ((3 ∷ 0 ∷ 0 ∷ 0 ∷ 0 ∷ 0 ∷ 0 ∷ 0 ∷ []) ++ (replicate 256 0 ++ tail))

-- in a write of SRWD 1 and BP 6
abbrev pub write : Device
write = with_cycle 2 5 true true (Busy 0x0A0B0C) (writing true 6)

-- its bytes
abbrev pub write_bytes : List ℕ
write_bytes = front ++ ((4 ∷ 6 ∷ 1 ∷ 0 ∷ 0 ∷ 0 ∷ 0 ∷ 0 ∷ []) ++ (replicate 256 0 ++ tail))

-- an M25P128 on the last tick of a program at FEDCBA, latch reset
abbrev pub last : Device
last = with_cycle 4 7 false false (Busy 1) (programming 0xFEDCBA (full 0xFF))

-- its bytes
abbrev pub last_bytes : List ℕ
last_bytes = (4 ∷ 7 ∷ 0 ∷ 0 ∷ 1 ∷ 0 ∷ 0 ∷ 0 ∷ 1 ∷ 0 ∷ 0 ∷ 0 ∷ []) ++ (durations ++ ((1 ∷ 0 ∷ 0 ∷ 0 ∷ 0xBA ∷ 0xDC ∷ 0xFE ∷ 0 ∷ []) ++ (replicate 256 0xFF ++ tail)))

-- the bytes of `deep`
abbrev pub deep_bytes : List ℕ
deep_bytes = (3 ∷ 6 ∷ 1 ∷ 0 ∷ 2 ∷ 0 ∷ 0 ∷ 0 ∷ 0 ∷ 0 ∷ 0 ∷ 0 ∷ []) ++ (durations ++ no_cycle_bytes)

-- the bytes of `still`
abbrev pub still_bytes : List ℕ
still_bytes = (4 ∷ 7 ∷ 0 ∷ 1 ∷ 0 ∷ 0 ∷ 0 ∷ 0 ∷ 0 ∷ 0 ∷ 0 ∷ 0 ∷ []) ++ (durations ++ no_cycle_bytes)

-- an answer and a record, handed back together
abbrev pub checked : ℕ → Device → Checked
checked k d = record { answer = k; device = d }

-- what pack and unpack answer and hand back
pub record Packings : Type 0 where
  -- the kind byte, both ways; another number is none
  pub kind-numbers : map kind_number kinds ≡ 0 ∷ 1 ∷ 2 ∷ 3 ∷ 4 ∷ 5 ∷ 6 ∷ 7 ∷ []
  pub number-kinds : map kind_of (0 ∷ 1 ∷ 2 ∷ 3 ∷ 4 ∷ 5 ∷ 6 ∷ 7 ∷ 8 ∷ 255 ∷ []) ≡ Idle ∷ Page ∷ Sector ∷ All ∷ Settings ∷ PageWrite ∷ PageErase ∷ Subsector ∷ Idle ∷ Idle ∷ []
  -- the 36 bytes before the slots
  pub fronts : front_of busy ≡ front ++ (1 ∷ 0 ∷ 0 ∷ 0 ∷ 0x34 ∷ 0x12 ∷ 0x05 ∷ 0 ∷ [])
  -- the fields of the cycle in the bytes
  pub cycle-fields : cycle_at busy_bytes ∷ cycle_at erase_bytes ∷ cycle_at bulk_bytes ∷ cycle_at write_bytes ∷ cycle_at deep_bytes ∷ [] ≡ programming 0x051234 (row 0x11 0x22 0xFF 0x33) ∷ erasing_sector 0x07FEDC ∷ erasing_all ∷ writing true 6 ∷ none ∷ []
  -- both ways
  pub packs-busy : pack_of busy ≡ busy_bytes
  pub packs-erase : pack_of erase ≡ erase_bytes
  pub packs-bulk : pack_of bulk ≡ bulk_bytes
  pub packs-write : pack_of write ≡ write_bytes
  pub packs-last : pack_of last ≡ last_bytes
  pub packs-deep : pack_of deep ≡ deep_bytes
  pub packs-still : pack_of still ≡ still_bytes
  pub unpacks-busy : unpack_of busy_bytes ≡ checked 0 busy
  pub unpacks-erase : unpack_of erase_bytes ≡ checked 0 erase
  pub unpacks-bulk : unpack_of bulk_bytes ≡ checked 0 bulk
  pub unpacks-write : unpack_of write_bytes ≡ checked 0 write
  pub unpacks-last : unpack_of last_bytes ≡ checked 0 last
  pub unpacks-deep : unpack_of deep_bytes ≡ checked 0 deep
  pub unpacks-still : unpack_of still_bytes ≡ checked 0 still
  -- 8 before 6, each with nothing written; and both alone
  pub pack-answers : map (pack_answer busy) (0 ∷ 28 ∷ 292 ∷ 303 ∷ 304 ∷ 305 ∷ []) ≡ 8 ∷ 8 ∷ 8 ∷ 8 ∷ 0 ∷ 8 ∷ []
  pub pack-unsound : map (pack_answer zeros) (0 ∷ 28 ∷ 292 ∷ 303 ∷ 304 ∷ 305 ∷ []) ≡ 8 ∷ 8 ∷ 8 ∷ 8 ∷ 6 ∷ 8 ∷ []
  pub nothing : unpack_of [] ≡ checked 8 zeros
  pub short : unpack_of (take 303 busy_bytes) ≡ checked 8 zeros
  pub long : unpack_of (busy_bytes ++ (0 ∷ [])) ≡ checked 8 zeros
  pub all-zero : unpack_of (replicate 304 0) ≡ checked 6 zeros
  pub short-zero : unpack_of (replicate 303 0) ≡ checked 8 zeros
  -- a packing without its cycle, without its slots, and without what stands behind them
  pub without-cycle : unpack_of (take 28 still_bytes) ∷ unpack_of (take 36 busy_bytes) ∷ unpack_of (take 292 busy_bytes) ∷ [] ≡ replicate 3 (checked 8 zeros)

-- computed by the checker
pub packings : Packings
unfolding zero_record delivered latch_at sound no_slots no_cycle slots_sound cycle_sound front_of pack_of fields_of formed pack_answer unpack_answer unpack_of figures_of named_sound locks_sound no_locks
packings = record {
  kind-numbers = refl;
  number-kinds = refl;
  fronts = refl;
  cycle-fields = refl;
  packs-busy = refl;
  packs-erase = refl;
  packs-bulk = refl;
  packs-write = refl;
  packs-last = refl;
  packs-deep = refl;
  packs-still = refl;
  unpacks-busy = refl;
  unpacks-erase = refl;
  unpacks-bulk = refl;
  unpacks-write = refl;
  unpacks-last = refl;
  unpacks-deep = refl;
  unpacks-still = refl;
  pack-answers = refl;
  pack-unsound = refl;
  nothing = refl;
  short = refl;
  long = refl;
  all-zero = refl;
  short-zero = refl;
  without-cycle = refl;
}

-- ---- one byte is another

-- what unpack answers to bytes of which one is another
abbrev pub damaged : List ℕ → ℕ → ℕ → ℕ
damaged bytes v i = unpack_answer (set bytes i v)

-- the places of the 28 bytes of a record
abbrev pub places : List ℕ
places = 0 ∷ 1 ∷ 2 ∷ 3 ∷ 4 ∷ 5 ∷ 6 ∷ 7 ∷ 8 ∷ 9 ∷ 10 ∷ 11 ∷ 12 ∷ 13 ∷ 14 ∷ 15 ∷ 16 ∷ 17 ∷ 18 ∷ 19 ∷ 20 ∷ 21 ∷ 22 ∷ 23 ∷ 24 ∷ 25 ∷ 26 ∷ 27 ∷ []

-- the places of the cycle's eight bytes, and of its first slot and its last
abbrev pub cycle_places : List ℕ
cycle_places = 28 ∷ 29 ∷ 30 ∷ 31 ∷ 32 ∷ 33 ∷ 34 ∷ 35 ∷ 36 ∷ 291 ∷ []

-- the places of the number of bytes named, and of the lock registers
abbrev pub last_places : List ℕ
last_places = 292 ∷ 293 ∷ 294 ∷ 295 ∷ 296 ∷ 297 ∷ 298 ∷ 299 ∷ 300 ∷ 301 ∷ 302 ∷ 303 ∷ []

-- a program, a sector erase, a bulk erase, a settings write, deep power-down: a value in one place of each
abbrev pub in_each : ℕ → ℕ → List ℕ
in_each i v = map (λ (b : List ℕ). damaged b v i) (busy_bytes ∷ erase_bytes ∷ bulk_bytes ∷ write_bytes ∷ deep_bytes ∷ [])

-- what is answered then
pub record Damages : Type 0 where
  -- FF in each place in turn: every field refuses it but the two low bytes of a number, and a slot of a program
  pub full-bytes : map (damaged busy_bytes 0xFF) places ≡ 6 ∷ 6 ∷ 6 ∷ 6 ∷ 6 ∷ 6 ∷ 6 ∷ 6 ∷ 0 ∷ 0 ∷ 6 ∷ 6 ∷ 0 ∷ 0 ∷ 6 ∷ 6 ∷ 0 ∷ 0 ∷ 6 ∷ 6 ∷ 0 ∷ 0 ∷ 6 ∷ 6 ∷ 0 ∷ 0 ∷ 6 ∷ 6 ∷ []
  pub full-cycle : map (damaged busy_bytes 0xFF) cycle_places ≡ 6 ∷ 6 ∷ 6 ∷ 6 ∷ 0 ∷ 0 ∷ 6 ∷ 6 ∷ 0 ∷ 0 ∷ []
  -- 02 in each place in turn: SRWD, latch, deep with ticks left, padding and the high byte of a number refuse it; and a sector erase with slots, new settings, padding and the address's high byte
  pub twos : map (damaged busy_bytes 2) places ≡ 0 ∷ 0 ∷ 6 ∷ 6 ∷ 6 ∷ 6 ∷ 6 ∷ 6 ∷ 0 ∷ 0 ∷ 0 ∷ 6 ∷ 0 ∷ 0 ∷ 0 ∷ 6 ∷ 0 ∷ 0 ∷ 0 ∷ 6 ∷ 0 ∷ 0 ∷ 0 ∷ 6 ∷ 0 ∷ 0 ∷ 0 ∷ 6 ∷ []
  pub twos-cycle : map (damaged busy_bytes 2) cycle_places ≡ 6 ∷ 6 ∷ 6 ∷ 6 ∷ 0 ∷ 0 ∷ 0 ∷ 6 ∷ 0 ∷ 0 ∷ []
  -- 01 in each place of a deep record in turn: the M25P10-A has no BP 6; busy without ticks, padding, ticks left and the high byte of a duration refuse it too; and so does all of the cycle
  pub ones : map (damaged deep_bytes 1) places ≡ 6 ∷ 0 ∷ 0 ∷ 0 ∷ 6 ∷ 6 ∷ 6 ∷ 6 ∷ 6 ∷ 6 ∷ 6 ∷ 6 ∷ 0 ∷ 0 ∷ 0 ∷ 6 ∷ 0 ∷ 0 ∷ 0 ∷ 6 ∷ 0 ∷ 0 ∷ 0 ∷ 6 ∷ 0 ∷ 0 ∷ 0 ∷ 6 ∷ []
  pub ones-cycle : map (damaged deep_bytes 1) cycle_places ≡ 6 ∷ 6 ∷ 6 ∷ 6 ∷ 6 ∷ 6 ∷ 6 ∷ 6 ∷ 6 ∷ 6 ∷ []
  -- the mode byte 0 to 3: with ticks left busy alone, without them all but busy, on the M25P128 standby alone; then a busy record with its latch reset, and the last tick with its latch set, each refused
  pub modes-busy : map (λ (m : ℕ). damaged busy_bytes m 4) (0 ∷ 1 ∷ 2 ∷ 3 ∷ []) ≡ 6 ∷ 0 ∷ 6 ∷ 6 ∷ []
  pub modes-deep : map (λ (m : ℕ). damaged deep_bytes m 4) (0 ∷ 1 ∷ 2 ∷ 3 ∷ []) ≡ 0 ∷ 6 ∷ 0 ∷ 6 ∷ []
  pub modes-still : map (λ (m : ℕ). damaged still_bytes m 4) (0 ∷ 1 ∷ 2 ∷ 3 ∷ []) ≡ 0 ∷ 6 ∷ 6 ∷ 6 ∷ []
  pub latch-reset : damaged busy_bytes 0 3 ≡ 6
  pub latch-last : damaged last_bytes 1 3 ≡ 6
  -- a deep M25P32 as other parts: BP 6 is too high for the bench part and both M25P10-A, and the M25P128 is never deep
  pub parts : map (λ (p : ℕ). damaged deep_bytes p 0) (0 ∷ 1 ∷ 2 ∷ 3 ∷ 4 ∷ 5 ∷ 6 ∷ 7 ∷ []) ≡ 6 ∷ 6 ∷ 0 ∷ 0 ∷ 6 ∷ 6 ∷ 0 ∷ 6 ∷ []
  -- an M25P40 in a program at 051234 as other parts: BP 5 and the address are beyond the bench part and both M25P10-A
  pub parts-busy : map (λ (p : ℕ). damaged busy_bytes p 0) (0 ∷ 1 ∷ 2 ∷ 3 ∷ 4 ∷ 5 ∷ 6 ∷ 7 ∷ []) ≡ 6 ∷ 6 ∷ 0 ∷ 0 ∷ 0 ∷ 6 ∷ 0 ∷ 6 ∷ []
  -- an M25P128 in a program at FEDCBA: beyond every other part
  pub parts_last : map (λ (p : ℕ). damaged last_bytes p 0) (0 ∷ 1 ∷ 2 ∷ 3 ∷ 4 ∷ 5 ∷ 6 ∷ 7 ∷ []) ≡ 6 ∷ 6 ∷ 6 ∷ 6 ∷ 0 ∷ 6 ∷ 6 ∷ 6 ∷ []
  -- the kind byte 0 to 8, and 255: what a kind does not use is zero, 5 to 7 are the M25PE40's; in deep power-down none
  pub kinds-busy : map (λ (k : ℕ). damaged busy_bytes k 28) (0 ∷ 1 ∷ 2 ∷ 3 ∷ 4 ∷ 5 ∷ 6 ∷ 7 ∷ 8 ∷ 255 ∷ []) ≡ 6 ∷ 0 ∷ 6 ∷ 6 ∷ 6 ∷ 6 ∷ 6 ∷ 6 ∷ 6 ∷ 6 ∷ []
  pub kinds-erase : map (λ (k : ℕ). damaged erase_bytes k 28) (0 ∷ 1 ∷ 2 ∷ 3 ∷ 4 ∷ 5 ∷ 6 ∷ 7 ∷ 8 ∷ 255 ∷ []) ≡ 6 ∷ 0 ∷ 0 ∷ 6 ∷ 6 ∷ 6 ∷ 6 ∷ 6 ∷ 6 ∷ 6 ∷ []
  pub kinds-bulk : map (λ (k : ℕ). damaged bulk_bytes k 28) (0 ∷ 1 ∷ 2 ∷ 3 ∷ 4 ∷ 5 ∷ 6 ∷ 7 ∷ 8 ∷ 255 ∷ []) ≡ 6 ∷ 0 ∷ 0 ∷ 0 ∷ 0 ∷ 6 ∷ 6 ∷ 6 ∷ 6 ∷ 6 ∷ []
  pub kinds-write : map (λ (k : ℕ). damaged write_bytes k 28) (0 ∷ 1 ∷ 2 ∷ 3 ∷ 4 ∷ 5 ∷ 6 ∷ 7 ∷ 8 ∷ 255 ∷ []) ≡ 6 ∷ 6 ∷ 6 ∷ 6 ∷ 0 ∷ 6 ∷ 6 ∷ 6 ∷ 6 ∷ 6 ∷ []
  pub kinds-deep : map (λ (k : ℕ). damaged deep_bytes k 28) (0 ∷ 1 ∷ 2 ∷ 3 ∷ 4 ∷ 5 ∷ 6 ∷ 7 ∷ 8 ∷ 255 ∷ []) ≡ 0 ∷ 6 ∷ 6 ∷ 6 ∷ 6 ∷ 6 ∷ 6 ∷ 6 ∷ 6 ∷ 6 ∷ []
  -- the new BP: a settings write takes 0 to 7, the others 0 alone
  pub new-bp : map (λ (b : ℕ). damaged write_bytes b 29) (0 ∷ 3 ∷ 7 ∷ 8 ∷ 255 ∷ []) ≡ 0 ∷ 0 ∷ 0 ∷ 6 ∷ 6 ∷ []
  pub no-bp : in_each 29 1 ≡ 6 ∷ 6 ∷ 6 ∷ 0 ∷ 6 ∷ []
  -- the new SRWD: a settings write takes 0 and 1, the others 0 alone
  pub new-srwd : map (λ (b : ℕ). damaged write_bytes b 30) (0 ∷ 1 ∷ 2 ∷ 255 ∷ []) ≡ 0 ∷ 0 ∷ 6 ∷ 6 ∷ []
  pub no-srwd : in_each 30 1 ≡ 6 ∷ 6 ∷ 6 ∷ 0 ∷ 6 ∷ []
  -- byte 31 is zero
  pub padding : in_each 31 1 ∷ in_each 31 0 ∷ [] ≡ replicate 5 6 ∷ replicate 5 0 ∷ []
  -- the address, below 080000, of a program and a sector erase; zero in the others
  pub low : in_each 32 1 ≡ 0 ∷ 0 ∷ 6 ∷ 6 ∷ 6 ∷ []
  pub middle : in_each 33 1 ≡ 0 ∷ 0 ∷ 6 ∷ 6 ∷ 6 ∷ []
  pub high : in_each 34 1 ∷ in_each 34 7 ∷ in_each 34 8 ∷ [] ≡ (0 ∷ 0 ∷ 6 ∷ 6 ∷ 6 ∷ []) ∷ (0 ∷ 0 ∷ 6 ∷ 6 ∷ 6 ∷ []) ∷ replicate 5 6 ∷ []
  pub highest : in_each 35 1 ≡ 6 ∷ 6 ∷ 6 ∷ 6 ∷ 6 ∷ []
  -- the slots of a program; zero in the others
  pub slots : map (λ (i : ℕ). in_each i 1) (36 ∷ 37 ∷ 163 ∷ 290 ∷ 291 ∷ []) ≡ replicate 5 (0 ∷ 6 ∷ 6 ∷ 6 ∷ 6 ∷ [])
  -- no bytes named and no lock register set, in each of them
  pub behind : map (λ (i : ℕ). in_each i 1) last_places ≡ replicate 12 (replicate 5 6)

-- computed by the checker
pub damages : Damages
unfolding latch_at sound no_slots no_cycle slots_sound cycle_sound front_of pack_of fields_of formed unpack_answer figures_of named_sound locks_sound no_locks
damages = record {
  full-bytes = refl;
  full-cycle = refl;
  twos = refl;
  twos-cycle = refl;
  ones = refl;
  ones-cycle = refl;
  modes-busy = refl;
  modes-deep = refl;
  modes-still = refl;
  latch-reset = refl;
  latch-last = refl;
  parts = refl;
  parts-busy = refl;
  parts_last = refl;
  kinds-busy = refl;
  kinds-erase = refl;
  kinds-bulk = refl;
  kinds-write = refl;
  kinds-deep = refl;
  new-bp = refl;
  no-bp = refl;
  new-srwd = refl;
  no-srwd = refl;
  padding = refl;
  low = refl;
  middle = refl;
  high = refl;
  highest = refl;
  slots = refl;
  behind = refl;
}
