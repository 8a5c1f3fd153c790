-- The packing of a record, and reading it back: 28 bytes of the record, then 8, the 256 slots and 4 of its cycle, then the lock registers.
use Rattle.std.specs.Prelude.{◌≡◌, Bool, cond, ◌&&◌, List, [], ◌∷◌, ◌++◌, ℕ, eqb, leb, length, get_or, take, drop, Result, Ok, Err}
use Rattle.refusals.specs.declared.Refusal.{Refusal}
use Rattle.refusals.specs.declared.Refusal.TheVariants.{NotSound}
use Rattle.slices.specs.Bytes.{same_bytes, word, word_at}
use Rattle.device.specs.declared.Mode.{Mode}
use Rattle.device.specs.declared.Mode.TheVariants.{Standby, Busy, Deep}
use Rattle.device.specs.declared.Device.{Device}
use Rattle.device.specs.declared.Checked.{Checked}
use Rattle.device.specs.declared.cycle.Kind.{Kind}
use Rattle.device.specs.declared.cycle.Kind.TheVariants.{Idle, Page, Sector, All, Settings, PageWrite, PageErase, Subsector}
use Rattle.device.specs.declared.cycle.Cycle.{Cycle}
use Rattle.device.specs.Device.{sound, zero_record, on_zero}

-- how many bytes a packing has
abbrev pub packed_length : ℕ
packed_length = 304

-- how many of them come before the slots
abbrev pub front_length : ℕ
front_length = 36

-- where the number of bytes named stands, behind the slots
abbrev pub named_place : ℕ
named_place = 292

-- where the lock registers stand
abbrev pub locks_place : ℕ
locks_place = 296

-- 1 for true, 0 for false
abbrev pub bit : Bool → ℕ
bit x = cond x 1 0

-- the mode byte
abbrev pub mode_number : Mode → ℕ
mode_number Standby = 0
mode_number (Busy left) = 1
mode_number Deep = 2

-- the ticks left, 0 unless busy
abbrev pub ticks_of : Mode → ℕ
ticks_of Standby = 0
ticks_of (Busy left) = left
ticks_of Deep = 0

-- the mode of a mode byte and of ticks left
abbrev pub mode_of : ℕ → ℕ → Mode
mode_of number ticks = cond (eqb number 1) (Busy ticks) (cond (eqb number 2) Deep Standby)

-- the kind byte
abbrev pub kind_number : Kind → ℕ
kind_number Idle = 0
kind_number Page = 1
kind_number Sector = 2
kind_number All = 3
kind_number Settings = 4
kind_number PageWrite = 5
kind_number PageErase = 6
kind_number Subsector = 7

-- the kind of a kind byte
abbrev pub kind_of : ℕ → Kind
kind_of number = cond (eqb number 1) Page (cond (eqb number 2) Sector (cond (eqb number 3) All (cond (eqb number 4) Settings (cond (eqb number 5) PageWrite (cond (eqb number 6) PageErase (cond (eqb number 7) Subsector Idle))))))

-- the same where a byte that is no kind's is refused
abbrev pub kind_read : ℕ → Result Kind Refusal
kind_read number = cond (leb number 7) (Ok (kind_of number)) (Err NotSound)

-- the first eight bytes: part, BP, SRWD, latch, mode, three zero bytes
abbrev pub head_of : Device → List ℕ
head_of d = d.part ∷ d.bp ∷ bit d.srwd ∷ bit d.latch ∷ mode_number d.mode ∷ 0 ∷ 0 ∷ 0 ∷ []

-- bytes 28 to 31: the cycle's kind, its new BP and SRWD, a zero byte
abbrev pub cycle_head : Cycle → List ℕ
cycle_head c = kind_number c.kind ∷ c.bp ∷ bit c.srwd ∷ 0 ∷ []

-- what comes before the slots: the first eight, ticks left and the four durations, the cycle's four and its address
unfoldable pub front_of : Device → List ℕ
front_of d =
    head_of d
    ++ (word (ticks_of d.mode)
    ++ (word d.program
    ++ (word d.sector_erase
    ++ (word d.bulk_erase
    ++ (word d.write_status
    ++ (cycle_head d.cycle
    ++ word d.cycle.address))))))

-- the packing: these, then the slots, how many bytes were named, the lock registers
unfoldable pub pack_of : Device → List ℕ
pack_of d = front_of d ++ (d.cycle.slots ++ (word d.cycle.named ++ d.locks))

-- the cycle whose fields stand in the bytes, whether they are a packing or not
abbrev pub cycle_at : List ℕ → Cycle
cycle_at b = record { kind = kind_of (get_or b 28 0); address = word_at b 32; slots = take 256 (drop front_length b); bp = get_or b 29 0; srwd = eqb (get_or b 30 0) 1; named = word_at b named_place }

-- the record whose fields stand in the bytes, whether they are a packing or not
unfoldable pub fields_of : List ℕ → Device
fields_of b = record { part = get_or b 0 0; bp = get_or b 1 0; srwd = eqb (get_or b 2 0) 1; latch = eqb (get_or b 3 0) 1; mode = mode_of (get_or b 4 0) (word_at b 8); program = word_at b 12; sector_erase = word_at b 16; bulk_erase = word_at b 20; write_status = word_at b 24; cycle = cycle_at b; locks = drop locks_place b }

-- whether bytes are the packing of the record whose fields stand in them
unfoldable pub formed : List ℕ → Bool
formed b = same_bytes b (pack_of (fields_of b))

-- 8 where the buffer is not of a packing's length, 6 where the record is not sound, else 0
unfoldable pub pack_answer : Device → ℕ → ℕ
pack_answer d n = cond (eqb n packed_length) (cond (sound d) 0 6) 8

-- what pack answers and what the lent bytes are afterwards
pub record Packed (d : Device) (out : List ℕ) (r : ℕ) (out' : List ℕ) : Type 0 where
  pub answer : r ≡ pack_answer d (length out)
  pub bytes : out' ≡ on_zero (pack_answer d (length out)) (pack_of d) out

-- 8 where the bytes are not of a packing's length, 6 where they are not the packing of a sound record, else 0
unfoldable pub unpack_answer : List ℕ → ℕ
unpack_answer b = cond (eqb (length b) packed_length) (cond (formed b && sound (fields_of b)) 0 6) 8

-- what unpack answers and hands back
unfoldable pub unpack_of : List ℕ → Checked
unpack_of b = record { answer = unpack_answer b; device = on_zero (unpack_answer b) (fields_of b) zero_record }
