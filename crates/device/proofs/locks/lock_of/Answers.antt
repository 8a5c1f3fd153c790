-- `device::locks::lock_of` meets its contract.
use Rattle.device.specs.Locks.{lock_of}
use borrow.Author.Rules.{rules}
use Rattle.device.proofs.locks.lock_of.Goals as goal

pub returns : goal.returns
unfolding lock_of
returns c = search rules
