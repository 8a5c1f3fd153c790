-- `bus::accepts_wait` meets its contract.
use Rattle.std.proofs.Common.{arith}
use Rattle.std.proofs.lemmas.Bool.Decides.{nat_tests}
use Rattle.bus.specs.Calls.{wait_number}
use Rattle.bus.proofs.accepts_wait.Goals as goal

pub returns-then-is_empty : goal.returns-then-is_empty
unfolding wait_number
returns-then-is_empty c = grind (arith, nat_tests)

pub returns : goal.returns
unfolding wait_number
returns c = grind (arith, nat_tests)
