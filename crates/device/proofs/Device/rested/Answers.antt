-- `device::Device::rested` meets its contract.
use borrow.Author.Rules.{rules}
use Rattle.device.specs.Time.{waited, finished}
use Rattle.device.proofs.Device.rested.Goals as goal

pub returns-in-Busy : goal.returns-in-Busy
unfolding waited
returns-in-Busy c xs = search rules

pub returns-in-Busy-2 : goal.returns-in-Busy-2
unfolding waited finished
returns-in-Busy-2 c xs = search rules

pub returns-in-Standby : goal.returns-in-Standby
unfolding waited
returns-in-Standby c xs = search rules
