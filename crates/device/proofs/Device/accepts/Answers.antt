-- `device::Device::accepts` meets its contract.
use Rattle.device.specs.Time.{time_number}
use borrow.Author.Rules.{rules}
use Rattle.device.proofs.Device.accepts.Goals as goal

pub returns-then-not-sound : goal.returns-then-not-sound
unfolding time_number
returns-then-not-sound c = search rules

pub returns-then-array-of : goal.returns-then-array-of
unfolding time_number
returns-then-array-of c = search rules

pub returns : goal.returns
unfolding time_number
returns c = search rules
