-- The table of the seven parts (document 01, and document 02's Wishes 4 and 11) told a second time, column by column, and computed; and the protected sectors where the paper's table (`Table`) has no cell.
use Rattle.std.specs.Prelude.{◌≡◌, refl, true, false, List, [], ◌∷◌, map, ℕ}
use Rattle.parts.specs.declared.Figures.{Figures}
use Rattle.parts.specs.Parts.{known_part, figures_of}
use Rattle.parts.specs.Protected.{protected_of}

-- a figure of each part: bench, M25P10-A, M25P40, M25P32, M25P128, the older M25P10-A, M25PE40
abbrev pub column : {A : Type 0} → (Figures → A) → List A
column figure = map (λ (p : ℕ). figure (figures_of p)) (0 ∷ 1 ∷ 2 ∷ 3 ∷ 4 ∷ 5 ∷ 6 ∷ [])

-- what the table of parts says, and what the rule gives where the other table has no cell
pub record Told : Type 0 where
  -- 'The five parts', and the two others
  pub bytes : column (λ (f : Figures). f.bytes) ≡ 4096 ∷ 131072 ∷ 524288 ∷ 4194304 ∷ 16777216 ∷ 131072 ∷ 524288 ∷ []
  pub sectors : column (λ (f : Figures). f.sectors) ≡ 4 ∷ 4 ∷ 8 ∷ 64 ∷ 64 ∷ 4 ∷ 8 ∷ []
  pub sector-bytes : column (λ (f : Figures). f.sector_bytes) ≡ 1024 ∷ 32768 ∷ 65536 ∷ 65536 ∷ 262144 ∷ 32768 ∷ 65536 ∷ []
  -- subsectors: the M25PE40 alone has some, and the sector's bytes stand on the others
  pub subsector-bytes : column (λ (f : Figures). f.subsector_bytes) ≡ 1024 ∷ 32768 ∷ 65536 ∷ 65536 ∷ 262144 ∷ 32768 ∷ 4096 ∷ []
  -- the older M25P10-A has no identification: 0s stand there
  pub first_byte : column (λ (f : Figures). f.maker) ≡ 0x00 ∷ 0x20 ∷ 0x20 ∷ 0x20 ∷ 0x20 ∷ 0x00 ∷ 0x20 ∷ []
  pub second-byte : column (λ (f : Figures). f.memory_type) ≡ 0x00 ∷ 0x20 ∷ 0x20 ∷ 0x20 ∷ 0x20 ∷ 0x00 ∷ 0x80 ∷ []
  pub third-byte : column (λ (f : Figures). f.capacity) ≡ 0x0C ∷ 0x11 ∷ 0x13 ∷ 0x16 ∷ 0x18 ∷ 0x00 ∷ 0x13 ∷ []
  pub identifies : column (λ (f : Figures). f.identifies) ≡ true ∷ true ∷ true ∷ true ∷ true ∷ false ∷ true ∷ []
  -- the M25P128 and the M25PE40 have no signature: a 0 stands there
  pub signature : column (λ (f : Figures). f.signature) ≡ 0x0B ∷ 0x10 ∷ 0x12 ∷ 0x15 ∷ 0x00 ∷ 0x10 ∷ 0x00 ∷ []
  pub sleeps : column (λ (f : Figures). f.sleeps) ≡ true ∷ true ∷ true ∷ true ∷ false ∷ true ∷ true ∷ []
  pub highest : column (λ (f : Figures). f.highest_bp) ≡ 3 ∷ 3 ∷ 7 ∷ 7 ∷ 7 ∷ 3 ∷ 7 ∷ []
  -- the M25PE40 alone is an M25PE part
  pub pe : column (λ (f : Figures). f.pe) ≡ false ∷ false ∷ false ∷ false ∷ false ∷ false ∷ true ∷ []
  -- parts are 0 to 6; another number has the bench part's figures
  pub known : map known_part (0 ∷ 1 ∷ 2 ∷ 3 ∷ 4 ∷ 5 ∷ 6 ∷ 7 ∷ 255 ∷ 256 ∷ []) ≡ true ∷ true ∷ true ∷ true ∷ true ∷ true ∷ true ∷ false ∷ false ∷ false ∷ []
  pub none : figures_of 7 ≡ figures_of 0
  -- 'Protected area', where no sound record comes: 4 sectors with BP above 3
  pub four : map (protected_of 4) (4 ∷ 5 ∷ 6 ∷ 7 ∷ 8 ∷ 255 ∷ []) ≡ 4 ∷ 4 ∷ 4 ∷ 4 ∷ 4 ∷ 4 ∷ []
  -- BP above 7
  pub eight : map (protected_of 8) (8 ∷ 255 ∷ []) ≡ 8 ∷ 8 ∷ []
  pub sixty-four : map (protected_of 64) (8 ∷ 255 ∷ []) ≡ 64 ∷ 64 ∷ []
  -- sector counts that no part has: none, one, one that is no power of two, and the most that the code's numbers hold
  pub none_at_all : map (protected_of 0) (0 ∷ 1 ∷ 255 ∷ []) ≡ 0 ∷ 0 ∷ 0 ∷ []
  pub single : map (protected_of 1) (0 ∷ 1 ∷ 2 ∷ 255 ∷ []) ≡ 0 ∷ 1 ∷ 1 ∷ 1 ∷ []
  pub thousand : map (protected_of 1000) (0 ∷ 1 ∷ 2 ∷ 7 ∷ 8 ∷ 9 ∷ 10 ∷ 11 ∷ 255 ∷ []) ≡ 0 ∷ 1 ∷ 2 ∷ 64 ∷ 128 ∷ 256 ∷ 512 ∷ 1000 ∷ 1000 ∷ []
  pub most : map (protected_of 18446744073709551615) (63 ∷ 64 ∷ 65 ∷ 255 ∷ []) ≡ 4611686018427387904 ∷ 9223372036854775808 ∷ 18446744073709551615 ∷ 18446744073709551615 ∷ []

-- computed by the checker
pub told : Told
unfolding figures_of protected_of
told = record {
  bytes = refl;
  sectors = refl;
  sector-bytes = refl;
  subsector-bytes = refl;
  first_byte = refl;
  second-byte = refl;
  third-byte = refl;
  identifies = refl;
  signature = refl;
  sleeps = refl;
  highest = refl;
  pe = refl;
  known = refl;
  none = refl;
  four = refl;
  eight = refl;
  sixty-four = refl;
  none_at_all = refl;
  single = refl;
  thousand = refl;
  most = refl;
}
