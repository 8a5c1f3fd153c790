-- `device::Device::settled` meets its contract.
use Rattle.device.specs.Device.{settled}
use borrow.Author.Rules.{rules}
use Rattle.device.proofs.Device.settled.Goals as goal

pub returns : goal.returns
unfolding settled
returns c = search rules
