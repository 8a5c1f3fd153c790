-- `device::Device::after_cycle` meets its contract.
use Rattle.device.specs.Time.{after_cycle}
use borrow.Author.Rules.{rules}
use Rattle.device.proofs.Device.after_cycle.Goals as goal

pub returns-then-of : goal.returns-then-of
unfolding after_cycle
returns-then-of c = search rules

pub returns-else-yes : goal.returns-else-yes
unfolding after_cycle
returns-else-yes c = search rules
