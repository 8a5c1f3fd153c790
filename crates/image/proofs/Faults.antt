-- Laws of the reason for which a block is bad.
-- Assumes nothing.
use Rattle.std.proofs.Common.{◌≡◌, true, false, Result, Ok, Err, is_err, refl}
use Rattle.image.specs.declared.Fault.{Fault}
use Rattle.image.specs.declared.Fault.TheVariants.{Number, Sum}
use Rattle.image.specs.Faults.{number_of, reason_in}

-- each has a number of its own, and none is 0
pub faulty : (f : Fault) → number_of f ≡ 0 → ⊥
faulty Number e = cc
faulty Sum e = cc

-- a block that was checked is good exactly if there is none
pub found_good : {A : Type 0} (r : Result A Fault) → is_err r ≡ false → reason_in r ≡ 0
found_good (Ok _) e = refl
found_good (Err f) e = cc

pub found-bad : {A : Type 0} (r : Result A Fault) → is_err r ≡ true → reason_in r ≡ 0 → ⊥
found-bad (Ok _) e z = cc
found-bad (Err f) e z = faulty f z
