-- `device::Device::unlocked` meets its contract.
use Rattle.device.specs.Time.{unlocked}
use Rattle.device.specs.Locks.{no_locks}
use borrow.Author.Rules.{rules}
use Rattle.device.proofs.Device.unlocked.Goals as goal

pub returns : goal.returns
unfolding unlocked no_locks
returns c = search rules
