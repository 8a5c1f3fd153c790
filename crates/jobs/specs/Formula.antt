-- Demand 3: each array byte ends as the bitwise and of what it started from with the byte of each later executed program that reached it.
use Rattle.std.specs.Prelude.{Bool, false, cond, ◌&&◌, ◌||◌, List, [], ◌∷◌, ◌++◌, ℕ, ◌/◌, ◌%◌, eqb, drop}
use Rattle.std.specs.Int.Bits.{bit_and}
use Rattle.memory.specs.Memory.{reached, landed}
use Rattle.parts.specs.declared.Figures.{Figures}
use Rattle.jobs.specs.Jobs.{Job, Entry, is_program, is_sector_erase, is_bulk_erase, address, sector}

-- executed: the call answered 0 in that run
abbrev pub executed : Entry → Bool
executed r = eqb r.number 0

-- an erase is over byte i: a sector erase where it lies in the addressed sector, a bulk erase always
abbrev pub over : Figures → ℕ → Job → Bool
over f i j = is_bulk_erase j || (is_sector_erase j && eqb (i / f.sector_bytes) (sector f j))

-- an executed erase over byte i
abbrev pub erased_by : Figures → ℕ → Entry → Bool
erased_by f i r = executed r && over f i r.job

-- a program reaches byte i: the byte lies in the addressed page, and a data byte falls into its slot
abbrev pub reaches : Figures → ℕ → Job → Bool
reaches f i j = is_program j && (eqb (i / 256) (address f j / 256) && reached (address f j) (drop 4 j.sent) (i % 256))

-- an executed program that reached byte i
abbrev pub programmed_by : Figures → ℕ → Entry → Bool
programmed_by f i r = executed r && reaches f i r.job

-- the byte of a program that reached byte i: the final value of its slot
abbrev pub byte_for : Figures → ℕ → Job → ℕ
byte_for f i j = landed (address f j) (drop 4 j.sent) (i % 256) 255

-- whether there is an executed erase over byte i
abbrev pub ever_erased : Figures → ℕ → List Entry → Bool
ever_erased f i [] = false
ever_erased f i (r ∷ rs) = erased_by f i r || ever_erased f i rs

-- what came after the last executed erase over byte i: all, where there is none
abbrev pub after_last_erase : Figures → ℕ → List Entry → List Entry
after_last_erase f i [] = []
after_last_erase f i (r ∷ rs) = cond (ever_erased f i rs) (after_last_erase f i rs) (cond (erased_by f i r) rs (r ∷ rs))

-- the byte of each executed program that reached byte i
abbrev pub programmed_bytes : Figures → ℕ → List Entry → List ℕ
programmed_bytes f i [] = []
programmed_bytes f i (r ∷ rs) = cond (programmed_by f i r) (byte_for f i r.job ∷ []) [] ++ programmed_bytes f i rs

-- what byte i started from: its first value, or FF after the last executed erase over it
abbrev pub started_from : Figures → ℕ → List Entry → ℕ → ℕ
started_from f i rs first = cond (ever_erased f i rs) 0xFF first

-- the bitwise and of x with each byte
abbrev pub ands : ℕ → List ℕ → ℕ
ands x [] = x
ands x (b ∷ bs) = ands (bit_and x b) bs

-- what byte i ends as, from its first value and what happened in the run
abbrev pub ends_as : Figures → ℕ → List Entry → ℕ → ℕ
ends_as f i rs first = ands (started_from f i rs first) (programmed_bytes f i (after_last_erase f i rs))
