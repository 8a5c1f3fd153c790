-- Document 01's table of protected sectors as the paper prints it; each of its cells is what the rule gives.
use Rattle.std.specs.Prelude.{◌≡◌, refl, List, [], ◌∷◌, map, ℕ}
use Rattle.slices.specs.Changed.{map_at}
use Rattle.parts.specs.Protected.{protected_of}

-- a column: the sector count at its head, and its cells by BP from 0 on, as far as the paper fills them
pub record Column : Type 0 where
  pub sectors : ℕ
  pub cells : List ℕ

-- '4 sectors', '8 sectors', '64 sectors'; the first has no cells for BP 4 to 7
abbrev pub table : List Column
table =
    record { sectors = 4; cells = 0 ∷ 1 ∷ 2 ∷ 4 ∷ [] }
    ∷ record { sectors = 8; cells = 0 ∷ 1 ∷ 2 ∷ 4 ∷ 8 ∷ 8 ∷ 8 ∷ 8 ∷ [] }
    ∷ record { sectors = 64; cells = 0 ∷ 1 ∷ 2 ∷ 4 ∷ 8 ∷ 16 ∷ 32 ∷ 64 ∷ [] }
    ∷ []

-- a column of as many cells, each of which the rule gives
abbrev pub ruled : Column → Column
ruled column = record { sectors = column.sectors; cells = map_at (λ bp cell. protected_of column.sectors bp) column.cells }

-- every cell of the paper is the rule's
pub table-by-rule : map ruled table ≡ table
unfolding map_at protected_of
table-by-rule = refl
