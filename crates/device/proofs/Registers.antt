-- Laws of the lock registers: as the code finds what it tests of them, and what a write of one changes.
-- Assumes nothing.
use mathlib.Core.Path.{◌≡◌, refl, ap}
use mathlib.Core.Bool.{Bool, true, false, ◌&&◌, ◌||◌, true≢false}
use mathlib.Core.List.{List, [], ◌∷◌}
use Prim.Native.Nat.{ℕ, zero, suc, ◌/◌, ◌%◌, ◌≤◌}
use native.Mathlib.Omega.{arith}
use lib.Dec.{leb}
use lib.ListN.{get_or}
use lib.Seq.{get_or-set_other}
use borrow.Author.Tests.{leb-true}
use Rattle.slices.proofs.Choices.{both}
use Rattle.std.specs.List.{list_any, list_all}
use Rattle.parts.specs.declared.Figures.{Figures}
use Rattle.device.specs.Locks.{stops, any_stops, each_at_most, relocked}

-- neither of two tests
pub neither : (a b : Bool) → a || b ≡ false → (a ≡ false) × (b ≡ false)
neither true b h = absurd (true≢false h)
neither false b h = (refl, h)

-- as the library finds it
pub any-listed : (ls : List ℕ) → list_any stops ls ≡ any_stops ls
any-listed [] = refl
any-listed (r ∷ rs) = ap (λ (rest : Bool). stops r || rest) (any-listed rs)

pub all-listed : (m : ℕ) (ls : List ℕ) → list_all (λ r. leb r m) ls ≡ each_at_most m ls
all-listed m [] = refl
all-listed m (r ∷ rs) = ap (λ (rest : Bool). leb r m && rest) (all-listed m rs)

-- each register is at most what each is
pub at_most : (m : ℕ) (ls : List ℕ) (i : ℕ) → each_at_most m ls ≡ true → get_or ls i 0 ≤ m
at_most m [] i h = omega arith
at_most m (r ∷ rs) zero h = leb-true r m (both (leb r m) (each_at_most m rs) h).0
at_most m (r ∷ rs) (suc i) h = at_most m rs i (both (leb r m) (each_at_most m rs) h).1

-- where no write lock is set, a register has none set
pub none-stops : (ls : List ℕ) (i : ℕ) → any_stops ls ≡ false → stops (get_or ls i 0) ≡ false
none-stops [] i h = refl
none-stops (r ∷ rs) zero h = (neither (stops r) (any_stops rs) h).0
none-stops (r ∷ rs) (suc i) h = none-stops rs i (neither (stops r) (any_stops rs) h).1

-- a register of another sector stays as one is written
pub relocked-other : (f : Figures) (ls : List ℕ) (at b s : ℕ) → (s ≡ at / f.sector_bytes → ⊥) → get_or (relocked f ls at b) s 0 ≡ get_or ls s 0
unfolding relocked
relocked-other f ls at b s n = get_or-set_other ls (at / f.sector_bytes) s (b % 4) 0 n
