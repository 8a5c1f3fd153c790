-- Document 01, 'Protected area', by its rule (document 02, Wish 6).
use Rattle.std.specs.Prelude.{cond, ℕ, ◌-◌, ◌^◌, min, eqb}

-- how many of the highest sectors are protected: 0 for BP 0, otherwise the smaller of the sector count and 2 to the power BP - 1
unfoldable pub protected_of : ℕ → ℕ → ℕ
protected_of sectors bp = cond (eqb bp 0) 0 (min sectors (2 ^ (bp - 1)))
