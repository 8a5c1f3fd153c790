-- `device::Device::remembering` meets its contract.
use Rattle.device.specs.Device.{remembering}
use borrow.Author.Rules.{rules}
use Rattle.device.proofs.Device.remembering.Goals as goal

pub returns : goal.returns
unfolding remembering
returns c = search rules
