-- The laws that a check of a call rests on: where it refuses, the number that answers is not 0, and says which refusal it is.
-- Assumes nothing.
use Rattle.std.proofs.Common.{◌≡◌, ℕ, false, eqb, Result, Ok, Err, sym, refl, ap, ◌∙◌, arith}
use Rattle.refusals.specs.declared.Refusal.{Refusal}
use Rattle.refusals.specs.Numbers.{number_of, answer_of}

-- no refusal has the number 0
pub refused_by : (r : Refusal) → number_of r ≡ 0 → ⊥
refused_by r e = grind arith

-- the same as a test
pub refusal_some : (r : Refusal) → eqb (number_of r) 0 ≡ false
refusal_some r = grind arith

-- two refusals of one number are the same
pub number-apart : (r s : Refusal) → number_of r ≡ number_of s → r ≡ s
number-apart r s e = grind arith

-- and so a check that hands back nothing else has one outcome only for each number
pub one-answer : {x y : Result (Unit {0}) Refusal} {n : ℕ} → answer_of x ≡ n → answer_of y ≡ n → x ≡ y
one-answer {x = Ok a} {y = Ok b} p q = refl
one-answer {x = Ok a} {y = Err s} p q = absurd (refused_by s (q ∙ sym p))
one-answer {x = Err r} {y = Ok b} p q = absurd (refused_by r (p ∙ sym q))
one-answer {x = Err r} {y = Err s} p q = ap Err (number-apart r s (p ∙ sym q))
