-- Why a block is bad, and the number of the reason in the list of a salvage.
use Rattle.std.specs.Prelude.{ℕ, Result, Ok, Err}
use Rattle.image.specs.declared.Fault.{Fault}
use Rattle.image.specs.declared.Fault.TheVariants.{Number, Sum}

-- 1 the number is not the block's place, 2 a sum is wrong
abbrev pub number_of : Fault → ℕ
number_of Number = 1
number_of Sum = 2

-- the same of a block that was checked, and 0 where it is good
abbrev pub reason_in : {A : Type 0} → Result A Fault → ℕ
reason_in (Ok _) = 0
reason_in (Err fault) = number_of fault
