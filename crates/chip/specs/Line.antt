-- Document 01, 'Response line': what the chip drives during a byte is fixed by the record, the array and the bytes before it.
use Rattle.std.specs.Prelude.{◌≡◌, Bool, Option, Some, None, cond, not, ◌&&◌, ◌||◌, List, [], ◌∷◌, ℕ, suc, ◌-◌, eqb, leb, ltb, length, get_or, take}
use Rattle.slices.specs.Changed.{map_at, sum_at}
use Rattle.memory.specs.Memory.{rolled}
use Rattle.parts.specs.declared.Figures.{Figures}
use Rattle.parts.specs.Parts.{figures_of}
use Rattle.device.specs.declared.Device.{Device}
use Rattle.device.specs.Locks.{lock_of}
use Rattle.device.specs.Device.{is_busy, is_deep, status_byte}
use Rattle.chip.specs.declared.table.Drive.{Drive}
use Rattle.chip.specs.declared.table.Drive.TheVariants.{Nothing, Identification, Status, Array, Signature, Register}
use Rattle.chip.specs.declared.table.Row.{Row}
use Rattle.chip.specs.declared.line.Span.{Span}
use Rattle.chip.specs.Table.{address_of, only_if, row_in}

-- what the chip does with the line during one byte
pub data Driven : Type 0 where
  silent : Driven
  drives : ℕ → Driven

-- a byte of the line: FF where nothing is driven
abbrev pub on_line : Driven → ℕ
on_line silent = 255
on_line (drives b) = b

-- the three identification bytes, then 00
abbrev pub identification : Figures → ℕ → ℕ
identification f k = get_or (f.maker ∷ f.memory_type ∷ f.capacity ∷ []) k 0

-- driven byte k, counted from the first: identification; the status byte, repeated; the array from the address on, rolling over from last byte to 0; the signature, repeated; the lock register of the address, repeated
abbrev pub kth : Drive → Figures → ℕ → List ℕ → List ℕ → ℕ → ℕ → Driven
kth Nothing f status locks array at k = silent
kth Identification f status locks array at k = drives (identification f k)
kth Status f status locks array at k = drives status
kth Array f status locks array at k = drives (rolled array at k)
kth Signature f status locks array at k = drives f.signature
kth Register f status locks array at k = drives (lock_of f locks at)

-- what a row drives after the bytes before
unfoldable pub by_row : Row → Figures → ℕ → List ℕ → List ℕ → List ℕ → Driven
by_row r f status locks array before =
    cond (leb r.from (length before)) (kth r.drive f status locks array (address_of f before) (length before - r.from)) silent

-- whether an instruction is taken at all: known, and, while busy or in deep power-down, one that is taken then
unfoldable pub heard : Device → Row → Bool
heard d r = r.known && ((not (is_busy d.mode) || r.busy) && (not (is_deep d.mode) || r.deep))

-- the row that the chip goes by: an instruction that is not taken at all is as an unknown one
unfoldable pub heard_row : Device → List ℕ → Row
heard_row d before = only_if (heard d (row_in d before)) (row_in d before)

-- what is driven during the byte that comes after the bytes before
unfoldable pub driven : Device → List ℕ → List ℕ → Driven
driven d array before = by_row (heard_row d before) (figures_of d.part) (status_byte d) d.locks array before

-- the response: byte i of the first n is what was driven during byte i, the rest stays
unfoldable pub lined : Device → List ℕ → List ℕ → ℕ → ℕ → ℕ
lined d array sent i x = cond (ltb i (length sent)) (on_line (driven d array (take i sent))) x

-- ---- first driven position and count

-- 1 where something is driven
abbrev pub driving : Driven → ℕ
driving silent = 0
driving (drives b) = 1

-- 1 where something is driven during byte i
unfoldable pub driving_at : Device → List ℕ → List ℕ → ℕ → ℕ
driving_at d array sent i = driving (driven d array (take i sent))

-- the first place from k on where g is not 0, and 0 where there is none
abbrev pub first_from : (ℕ → ℕ) → ℕ → List ℕ → ℕ
first_from g k [] = 0
first_from g k (x ∷ xs) = cond (eqb (g k) 0) (first_from g (suc k) xs) k

-- the first driven position, 0 with none driven
unfoldable pub first_of : Device → List ℕ → List ℕ → ℕ
first_of d array sent = first_from (driving_at d array sent) 0 sent

-- how many bytes are driven
unfoldable pub count_of : Device → List ℕ → List ℕ → ℕ
count_of d array sent = sum_at (λ i x. driving_at d array sent i) sent

-- ---- as the code finds them

-- whether a byte is driven, and which
abbrev pub line_byte : Driven → Option ℕ
line_byte silent = None
line_byte (drives b) = Some b

abbrev pub no_span : Span
no_span = record { first = 0; count = 0 }

-- from a place on, of n bytes
abbrev pub from_on : ℕ → ℕ → Span
from_on from n = cond (ltb from n) (record { first = from; count = n - from }) no_span

abbrev pub span_of : Drive → ℕ → ℕ → Span
span_of Nothing from n = no_span
span_of Identification from n = from_on from n
span_of Status from n = from_on from n
span_of Array from n = from_on from n
span_of Signature from n = from_on from n
span_of Register from n = from_on from n

-- what the response function promises
pub record Responded (d : Device) (array sent response : List ℕ) (s : Span) (response' : List ℕ) : Type 0 where
  pub first : s.first ≡ first_of d array sent
  pub count : s.count ≡ count_of d array sent
  pub line : response' ≡ map_at (lined d array sent) response
