-- Demand 3: neighbours may change places if both are programs, both are erases, or they name different sectors, a bulk erase naming all.
use Rattle.std.specs.Prelude.{◌≡◌, Bool, true, ◌||◌, ℕ, eqb}
use Rattle.parts.specs.declared.Figures.{Figures}
use Rattle.jobs.specs.Jobs.{Job, is_program, is_erase, is_bulk_erase, sector}

-- a job names the sector of its address, a bulk erase names all
abbrev pub names : Figures → Job → ℕ → Bool
names f j s = is_bulk_erase j || eqb (sector f j) s

-- neighbours that may change places
pub data MaySwap (f : Figures) (a b : Job) : Type 0 where
  both_programs : is_program a ≡ true → is_program b ≡ true → MaySwap f a b
  both_erases : is_erase a ≡ true → is_erase b ≡ true → MaySwap f a b
  different_sectors : ((s : ℕ) → names f a s ≡ true → names f b s ≡ true → ⊥) → MaySwap f a b
