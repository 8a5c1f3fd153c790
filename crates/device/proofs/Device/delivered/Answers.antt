-- `device::Device::delivered` meets its contract.
use Rattle.device.specs.Device.{delivered}
use Rattle.device.specs.Locks.{no_locks}
use borrow.Author.Rules.{rules}
use Rattle.device.proofs.Device.delivered.Goals as goal

pub returns : goal.returns
unfolding delivered no_locks
returns c = search rules
