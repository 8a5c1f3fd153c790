-- `bus::accepts_row` meets its contract.
use Rattle.std.proofs.Common.{arith}
use Rattle.std.proofs.lemmas.Bool.Decides.{nat_tests}
use Rattle.bus.specs.Calls.{whole_number}
use Rattle.bus.proofs.accepts_row.Goals as goal

pub returns-then-not-all_sound : goal.returns-then-not-all_sound
unfolding whole_number
returns-then-not-all_sound c = grind (arith, nat_tests)

pub returns-then-array-bytes_in : goal.returns-then-array-bytes_in
unfolding whole_number
returns-then-array-bytes_in c = grind (arith, nat_tests)

pub returns : goal.returns
unfolding whole_number
returns c = grind (arith, nat_tests)
