-- `bus::accepts_turn` meets its contract.
use Rattle.std.proofs.Common.{arith}
use Rattle.std.proofs.lemmas.Bool.Decides.{nat_tests}
use Rattle.bus.specs.Calls.{bus_number}
use Rattle.bus.proofs.accepts_turn.Goals as goal

pub returns-then-is_empty : goal.returns-then-is_empty
unfolding bus_number
returns-then-is_empty c = grind (arith, nat_tests)

pub returns-then-row-chip : goal.returns-then-row-chip
unfolding bus_number
returns-then-row-chip c = grind (arith, nat_tests)

pub returns : goal.returns
unfolding bus_number
returns c = grind (arith, nat_tests)
