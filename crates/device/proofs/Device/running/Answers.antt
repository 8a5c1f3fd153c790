-- `device::Device::running` meets its contract.
use Rattle.device.specs.Device.{running}
use borrow.Author.Rules.{rules}
use Rattle.device.proofs.Device.running.Goals as goal

pub returns : goal.returns
unfolding running
returns c = search rules
