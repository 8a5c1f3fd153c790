-- Document 01, 'Instructions': a row for each code, in the table's order; then those that document 02, Wish 11, adds for the M25PE40.
use Rattle.std.specs.Prelude.{Bool, true, false, cond, List, ℕ, ◌+◌, ◌*◌, ◌/◌, ◌%◌, eqb, get_or}
use Rattle.parts.specs.declared.Figures.{Figures}
use Rattle.parts.specs.Parts.{figures_of}
use Rattle.device.specs.declared.Device.{Device}
use Rattle.device.specs.declared.cycle.Kind.{Kind}
use Rattle.device.specs.declared.cycle.Kind.TheVariants.{Settings, Page, Sector, All, PageWrite, PageErase, Subsector}
use Rattle.chip.specs.declared.table.Turn.{Turn}
use Rattle.chip.specs.declared.table.Turn.TheVariants.{Keep, Enable, Disable, Start, Sleep, Wake, Lock}
use Rattle.chip.specs.declared.table.Drive.{Drive}
use Rattle.chip.specs.declared.table.Drive.TheVariants.{Nothing, Identification, Status, Array, Signature, Register}
use Rattle.chip.specs.declared.table.Row.{Row}
use Rattle.chip.specs.declared.table.Instruction.{Instruction}

-- the most bytes that a transaction has: where the table says n ≥ k, n is from k up to this
abbrev pub longest : ℕ
longest = 65536

-- an order: n = 1, no further pulses; nothing is driven
abbrev pub order : Turn → Row
order t = record { known = true; least = 1; most = 1; no_pulses = true; latch = false; busy = false; deep = false; turn = t; drive = Nothing; from = 1 }

-- a reading: n ≥ least, further pulses allowed; driven from byte `from` on
abbrev pub reading : ℕ → Drive → ℕ → Turn → Row
reading n d k t = record { known = true; least = n; most = longest; no_pulses = false; latch = false; busy = false; deep = false; turn = t; drive = d; from = k }

-- a write: n from least to most, no further pulses, the latch
abbrev pub write : ℕ → ℕ → Turn → Row
write n m t = record { known = true; least = n; most = m; no_pulses = true; latch = true; busy = false; deep = false; turn = t; drive = Nothing; from = 1 }

-- a code that is not an instruction of the part
abbrev pub unknown : Row
unknown = record { known = false; least = 1; most = longest; no_pulses = false; latch = false; busy = false; deep = false; turn = Keep; drive = Nothing; from = 1 }

-- an instruction that is taken while busy too
abbrev pub also_busy : Row → Row
also_busy r = record { known = r.known; least = r.least; most = r.most; no_pulses = r.no_pulses; latch = r.latch; busy = true; deep = r.deep; turn = r.turn; drive = r.drive; from = r.from }

-- an instruction that is taken in deep power-down too
abbrev pub also_deep : Row → Row
also_deep r = record { known = r.known; least = r.least; most = r.most; no_pulses = r.no_pulses; latch = r.latch; busy = r.busy; deep = true; turn = r.turn; drive = r.drive; from = r.from }

-- an instruction only where a test holds
abbrev pub only_if : Bool → Row → Row
only_if test r = cond test r unknown

-- AB: taken in deep power-down too. On an M25PE part it is only a release, an order; elsewhere it drives the signature
abbrev pub release : Figures → Row
release f = also_deep (cond f.pe (order Wake) (reading 1 Signature 4 Wake))

-- the row of a code: 9F is an instruction only of a part that identifies itself, B9 and AB only of one that sleeps, 0A, DB, 20, E5 and E8 only of an M25PE part
unfoldable pub row_of : Figures → ℕ → Row
row_of f code =
    cond (eqb code 0x06) (order Enable)
    (cond (eqb code 0x04) (order Disable)
    (cond (eqb code 0x9F) (only_if f.identifies (reading 1 Identification 1 Keep))
    (cond (eqb code 0x05) (also_busy (reading 1 Status 1 Keep))
    (cond (eqb code 0x01) (write 2 2 (Start Settings))
    (cond (eqb code 0x03) (reading 4 Array 4 Keep)
    (cond (eqb code 0x0B) (reading 5 Array 5 Keep)
    (cond (eqb code 0x02) (write 5 longest (Start Page))
    (cond (eqb code 0xD8) (write 4 4 (Start Sector))
    (cond (eqb code 0xC7) (write 1 1 (Start All))
    (cond (eqb code 0xB9) (only_if f.sleeps (order Sleep))
    (cond (eqb code 0xAB) (only_if f.sleeps (release f))
    (cond (eqb code 0x0A) (only_if f.pe (write 5 longest (Start PageWrite)))
    (cond (eqb code 0xDB) (only_if f.pe (write 4 4 (Start PageErase)))
    (cond (eqb code 0x20) (only_if f.pe (write 4 4 (Start Subsector)))
    (cond (eqb code 0xE5) (only_if f.pe (write 5 5 Lock))
    (cond (eqb code 0xE8) (only_if f.pe (reading 4 Register 4 Keep))
    unknown))))))))))))))))

-- what an instruction has by the kind of cycle that it starts; one that starts none has the other
abbrev pub on_start : {A : Type 0} → Turn → (Kind → A) → A → A
on_start Keep by other = other
on_start Enable by other = other
on_start Disable by other = other
on_start (Start k) by other = by k
on_start Sleep by other = other
on_start Wake by other = other
on_start Lock by other = other

-- an address: 24 bits, high byte first, modulo the part's size
unfoldable pub address_of : Figures → List ℕ → ℕ
address_of f bytes = (get_or bytes 1 0 * 65536 + get_or bytes 2 0 * 256 + get_or bytes 3 0) % f.bytes

-- the sector of that address
unfoldable pub sector_in : Figures → List ℕ → ℕ
sector_in f bytes = address_of f bytes / f.sector_bytes

-- the row of a transaction's first byte
abbrev pub row_in : Device → List ℕ → Row
row_in d sent = row_of (figures_of d.part) (get_or sent 0 0)

-- a transaction's instruction: the part's figures, the row of the first byte, the address
abbrev pub instruction_in : Device → List ℕ → Instruction
instruction_in d sent = record { figures = figures_of d.part; row = row_in d sent; address = address_of (figures_of d.part) sent }
