-- `device::Device::locked` meets its contract.
use Rattle.device.specs.Device.{locked}
use borrow.Author.Rules.{rules}
use Rattle.device.proofs.Device.locked.Goals as goal

pub returns : goal.returns
unfolding locked
returns c = search rules
