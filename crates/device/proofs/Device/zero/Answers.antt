-- `device::Device::zero` meets its contract.
use Rattle.device.specs.Device.{zero_record}
use borrow.Author.Rules.{rules}
use Rattle.device.proofs.Device.zero.Goals as goal

pub returns : goal.returns
unfolding zero_record
returns c = search rules
