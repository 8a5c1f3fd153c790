-- The M25PE40's packing told a second time, byte by byte, and computed: records in each of its own cycles and with lock registers, both ways, and what is answered where a byte or the length is another.
use Rattle.std.specs.Prelude.{◌≡◌, refl, true, false, List, [], ◌∷◌, ◌++◌, map, ℕ, set, take, replicate}
use Rattle.parts.specs.Parts.{figures_of}
use Rattle.device.specs.Locks.{locks_sound}
use Rattle.device.specs.declared.Mode.TheVariants.{Busy, Deep}
use Rattle.device.specs.declared.Device.{Device}
use Rattle.device.specs.declared.cycle.Cycle.{Cycle}
use Rattle.device.specs.Locks.{no_locks}
use Rattle.device.specs.Cycles.{no_slots, no_cycle, slots_sound, cycle_sound, named_sound}
use Rattle.device.specs.Device.{latch_at, zero_record, delivered, sound}
use Rattle.device.specs.Packing.{front_of, pack_of, fields_of, formed, pack_answer, unpack_answer, unpack_of}
use Rattle.told.specs.Cycles.{full, none, replacing, erasing_page, erasing_subsector}
use Rattle.told.specs.Record.{zeros}
use Rattle.told.specs.Packing.{checked}
use Rattle.told.specs.Pe.{held, unset}

-- the first 28 bytes: part 6, BP, SRWD, latch, mode, ticks left; durations 3, 5, 9, 2
abbrev pub front : ℕ → ℕ → ℕ → ℕ → ℕ → List ℕ
front b s l m t = 6 ∷ b ∷ s ∷ l ∷ m ∷ 0 ∷ 0 ∷ 0 ∷ t ∷ 0 ∷ 0 ∷ 0 ∷ 3 ∷ 0 ∷ 0 ∷ 0 ∷ 5 ∷ 0 ∷ 0 ∷ 0 ∷ 9 ∷ 0 ∷ 0 ∷ 0 ∷ 2 ∷ 0 ∷ 0 ∷ 0 ∷ []

-- lock registers of which no two neighbours are the same
abbrev pub mixed : List ℕ
mixed = 1 ∷ 2 ∷ 3 ∷ 0 ∷ 3 ∷ 1 ∷ 0 ∷ 2 ∷ []

-- right after a page write of 11 22 33 at 0001FE
abbrev pub write : Device
write = held 6 0 false true (Busy 3) (replacing 0x0001FE (0x33 ∷ (replicate 253 0xFF ++ (0x11 ∷ 0x22 ∷ []))) 3) unset

-- its bytes
abbrev pub write_bytes : List ℕ
write_bytes = front 0 0 1 1 3 ++ ((5 ∷ 0 ∷ 0 ∷ 0 ∷ 0xFE ∷ 0x01 ∷ 0 ∷ 0 ∷ []) ++ (0x33 ∷ (replicate 253 0xFF ++ (0x11 ∷ 0x22 ∷ 3 ∷ 0 ∷ 0 ∷ 0 ∷ unset))))

-- a page write of 256 bytes at 07FFFF, BP 5, SRWD 1, on its last tick, with lock registers
abbrev pub last : Device
last = held 6 5 true false (Busy 1) (replacing 0x07FFFF (full 0x5A) 256) mixed

-- its bytes
abbrev pub last_bytes : List ℕ
last_bytes = front 5 1 0 1 1 ++ ((5 ∷ 0 ∷ 0 ∷ 0 ∷ 0xFF ∷ 0xFF ∷ 0x07 ∷ 0 ∷ []) ++ (replicate 256 0x5A ++ (0 ∷ 1 ∷ 0 ∷ 0 ∷ 1 ∷ 2 ∷ 3 ∷ 0 ∷ 3 ∷ 1 ∷ 0 ∷ 2 ∷ [])))

-- an erase of a page or a subsector at 012345, with lock registers
abbrev pub erase : Cycle → Device
erase c = held 6 0 false true (Busy 2) c mixed

-- its bytes, by the kind byte
abbrev pub erase_bytes : ℕ → List ℕ
erase_bytes k = front 0 0 1 1 2 ++ ((k ∷ 0 ∷ 0 ∷ 0 ∷ 0x45 ∷ 0x23 ∷ 0x01 ∷ 0 ∷ []) ++ (replicate 256 0 ++ (0 ∷ 0 ∷ 0 ∷ 0 ∷ 1 ∷ 2 ∷ 3 ∷ 0 ∷ 3 ∷ 1 ∷ 0 ∷ 2 ∷ [])))

-- in deep power-down, BP 7, every lock register 3
abbrev pub asleep : Device
asleep = held 6 7 false true Deep none (replicate 8 3)

-- its bytes
abbrev pub asleep_bytes : List ℕ
asleep_bytes = front 7 0 1 2 0 ++ (replicate 268 0 ++ (3 ∷ 3 ∷ 3 ∷ 3 ∷ 3 ∷ 3 ∷ 3 ∷ 3 ∷ []))

-- what unpack answers to the page write's bytes with one of them changed
abbrev pub changed : ℕ → ℕ → ℕ
changed i v = unpack_answer (set write_bytes i v)

-- and with two
abbrev pub changed_both : ℕ → ℕ → ℕ → ℕ → ℕ
changed_both i v j w = unpack_answer (set (set write_bytes i v) j w)

-- what pack and unpack give
pub record Packings : Type 0 where
  -- both ways
  pub packs : pack_of write ∷ pack_of last ∷ pack_of (erase (erasing_page 0x012345)) ∷ pack_of (erase (erasing_subsector 0x012345)) ∷ pack_of asleep ∷ [] ≡ write_bytes ∷ last_bytes ∷ erase_bytes 6 ∷ erase_bytes 7 ∷ asleep_bytes ∷ []
  pub unpacks-write : unpack_of write_bytes ∷ unpack_of last_bytes ∷ [] ≡ checked 0 write ∷ checked 0 last ∷ []
  pub unpacks-erase : unpack_of (erase_bytes 6) ∷ unpack_of (erase_bytes 7) ∷ [] ≡ checked 0 (erase (erasing_page 0x012345)) ∷ checked 0 (erase (erasing_subsector 0x012345)) ∷ []
  pub unpacks-asleep : unpack_of asleep_bytes ≡ checked 0 asleep
  -- 8: 292 bytes, 303, 305
  pub lengths : unpack_of (take 292 last_bytes) ∷ unpack_of (take 303 last_bytes) ∷ unpack_of (last_bytes ++ (0 ∷ [])) ∷ [] ≡ replicate 3 (checked 8 zeros)
  -- 6: the page write as another part's
  pub parts : map (changed 0) (0 ∷ 1 ∷ 2 ∷ 3 ∷ 4 ∷ 5 ∷ 6 ∷ 7 ∷ []) ≡ 6 ∷ 6 ∷ 6 ∷ 6 ∷ 6 ∷ 6 ∷ 0 ∷ 6 ∷ []
  -- as another kind: a program too names nothing
  pub kinds : map (changed 28) (0 ∷ 1 ∷ 2 ∷ 3 ∷ 4 ∷ 5 ∷ 6 ∷ 7 ∷ 8 ∷ []) ≡ 6 ∷ 6 ∷ 6 ∷ 6 ∷ 6 ∷ 0 ∷ 6 ∷ 6 ∷ 6 ∷ []
  pub program : changed_both 28 1 292 0 ≡ 0
  -- the number of bytes named, low byte first: 0, 1, 255; 256 and 257; 259, 65,539 and 16,777,219
  pub named : map (changed 292) (0 ∷ 1 ∷ 255 ∷ []) ≡ 6 ∷ 0 ∷ 0 ∷ []
  pub named-256 : changed_both 292 0 293 1 ∷ changed_both 292 1 293 1 ∷ [] ≡ 0 ∷ 6 ∷ []
  pub named-high : changed 293 1 ∷ changed 294 1 ∷ changed 295 1 ∷ [] ≡ 6 ∷ 6 ∷ 6 ∷ []
  -- each lock register is 0 to 3: 0, 1, 2, 3, 4 and 255 in bytes 296 to 303
  pub registers : map (λ (i : ℕ). map (changed i) (0 ∷ 1 ∷ 2 ∷ 3 ∷ 4 ∷ 255 ∷ [])) (296 ∷ 297 ∷ 298 ∷ 299 ∷ 300 ∷ 301 ∷ 302 ∷ 303 ∷ []) ≡ replicate 8 (0 ∷ 0 ∷ 0 ∷ 0 ∷ 6 ∷ 6 ∷ [])
  -- a slot that is not named may be any byte; the address 0801FE is beyond the part
  pub slot : changed 37 0 ≡ 0
  pub beyond : changed 34 8 ≡ 6
  -- a deep record with lock registers is no other part's
  pub asleep-parts : map (λ (p : ℕ). unpack_answer (set asleep_bytes 0 p)) (2 ∷ 3 ∷ 6 ∷ 7 ∷ []) ≡ 6 ∷ 6 ∷ 0 ∷ 6 ∷ []

-- computed by the checker
pub packings : Packings
unfolding zero_record delivered latch_at sound no_slots no_cycle slots_sound cycle_sound front_of pack_of fields_of formed pack_answer unpack_answer unpack_of figures_of named_sound locks_sound no_locks
packings = record {
  packs = refl;
  unpacks-write = refl;
  unpacks-erase = refl;
  unpacks-asleep = refl;
  lengths = refl;
  parts = refl;
  kinds = refl;
  program = refl;
  named = refl;
  named-256 = refl;
  named-high = refl;
  registers = refl;
  slot = refl;
  beyond = refl;
  asleep-parts = refl;
}
