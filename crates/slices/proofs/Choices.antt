-- Laws of tests and of what is chosen by them.
-- Assumes nothing.
use mathlib.Core.Path.{◌≡◌, refl}
use mathlib.Core.Bool.{Bool, true, false, cond, ◌&&◌}
use Prim.Native.Nat.{ℕ, zero, suc}
use native.Mathlib.Omega.{arith}
use Rattle.std.proofs.lemmas.Bool.{and_parts, cond_both}
use Rattle.slices.specs.Chosen.{on_zero}

-- what holds of both holds of the chosen one
pub cond_ind : {A : Type 0} (P : A → Type 0) (b : Bool) {x y : A} → P x → P y → P (cond b x y)
cond_ind P true p q = p
cond_ind P false p q = q

-- what holds of each, where the test is known, holds of the chosen one
pub cond-case : {A : Type 0} (P : A → Type 0) (b : Bool) {x y : A} → (b ≡ true → P x) → (b ≡ false → P y) → P (cond b x y)
cond-case P b {x} {y} p q = cond_both b x y P p q

-- two tests, both true
pub both : (a b : Bool) → a && b ≡ true → (a ≡ true) × (b ≡ true)
both = and_parts

-- the first number that applies: where none is given, this test failed and the rest gives none
pub past : (b : Bool) (k x : ℕ) → cond b (suc k) x ≡ 0 → (b ≡ false) × (x ≡ 0)
past true k x h = let z : ◌≡◌ {A = ℕ} (suc k) 0 = h in absurd (omega arith)
past false k x h = (refl, h)

-- what holds of both holds of the one that a number chooses
pub zero-ind : {A : Type 0} (P : A → Type 0) (k : ℕ) {x y : A} → P x → P y → P (on_zero k x y)
zero-ind P zero p q = p
zero-ind P (suc k) p q = q

-- a number that is not 0 keeps what was
pub other : {A : Type 0} (k : ℕ) (x y : A) → (k ≡ 0 → ⊥) → y ≡ on_zero k x y
other zero x y n = absurd (n refl)
other (suc k) x y n = refl
