-- `device::Device::moded` meets its contract.
use Rattle.device.specs.Device.{moded}
use borrow.Author.Rules.{rules}
use Rattle.device.proofs.Device.moded.Goals as goal

pub returns : goal.returns
unfolding moded
returns c = search rules
