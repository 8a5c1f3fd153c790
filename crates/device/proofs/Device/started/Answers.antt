-- `device::Device::started` meets its contract.
use Rattle.device.specs.Device.{started}
use borrow.Author.Rules.{rules}
use Rattle.device.proofs.Device.started.Goals as goal

pub returns : goal.returns
unfolding started
returns c = search rules
