-- `device::locks::relocked` meets its contract.
use Rattle.device.specs.Locks.{relocked}
use borrow.Author.Rules.{rules}
use native.Mathlib.Omega.{arith}
use Rattle.std.proofs.lemmas.Grind.{common_steps}
use Rattle.device.proofs.locks.relocked.Goals as goal

pub returns-then-sector-lt-REGISTERS : goal.returns-then-sector-lt-REGISTERS
unfolding relocked
returns-then-sector-lt-REGISTERS c = search rules

pub returns-else-sector-lt-REGISTERS : goal.returns-else-sector-lt-REGISTERS
unfolding relocked
returns-else-sector-lt-REGISTERS c = grind (arith, common_steps)
