-- `device::Device::ended` meets its contract.
use Rattle.device.specs.Device.{ended}
use borrow.Author.Rules.{rules}
use Rattle.device.proofs.Device.ended.Goals as goal

pub returns : goal.returns
unfolding ended
returns c = search rules
