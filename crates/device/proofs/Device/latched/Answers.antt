-- `device::Device::latched` meets its contract.
use Rattle.device.specs.Device.{latched}
use borrow.Author.Rules.{rules}
use Rattle.device.proofs.Device.latched.Goals as goal

pub returns : goal.returns
unfolding latched
returns c = search rules
