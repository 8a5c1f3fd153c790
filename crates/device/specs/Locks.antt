-- Document 02, Wish 11: the lock registers, one for each sector of the M25PE40, eight in every record.
use Rattle.std.specs.Prelude.{Bool, true, false, cond, ◌&&◌, ◌||◌, List, [], ◌∷◌, ℕ, ◌/◌, ◌%◌, eqb, leb, length, get_or, set, replicate}
use Rattle.parts.specs.declared.Figures.{Figures}

-- how many a record has
abbrev pub registers : ℕ
registers = 8

-- all zero: as delivered, after power-up and after a loss, and always on a part that is no M25PE
unfoldable pub no_locks : List ℕ
no_locks = replicate registers 0

-- bit 0, the write lock: it stops writing in its sector
abbrev pub stops : ℕ → Bool
stops r = eqb (r % 2) 1

-- bit 1, the lock-down: it freezes its register
abbrev pub freezes : ℕ → Bool
freezes r = eqb (r / 2 % 2) 1

-- the register of the sector of an address; 0 where there is none
unfoldable pub lock_of : Figures → List ℕ → ℕ → ℕ
lock_of f locks at = get_or locks (at / f.sector_bytes) 0

-- whether some register has its write lock set
abbrev pub any_stops : List ℕ → Bool
any_stops [] = false
any_stops (r ∷ rs) = stops r || any_stops rs

-- a byte written to the register of the sector of an address: its bits 1 and 0 are taken
unfoldable pub relocked : Figures → List ℕ → ℕ → ℕ → List ℕ
relocked f locks at b = set locks (at / f.sector_bytes) (b % 4)

-- each register is at most m
abbrev pub each_at_most : ℕ → List ℕ → Bool
each_at_most m [] = true
each_at_most m (r ∷ rs) = leb r m && each_at_most m rs

-- there are eight: each 0 to 3 on an M25PE part, zero on the others
unfoldable pub locks_sound : Figures → List ℕ → Bool
locks_sound f locks = eqb (length locks) registers && each_at_most (cond f.pe 3 0) locks
