-- `device::Device::power_up` meets its contract.
use Rattle.device.specs.Time.{power_up_call, powered_up, finished}
use Rattle.device.proofs.Timed.{handed-kept, handed-done}
use borrow.Author.Rules.{rules}
use Rattle.device.proofs.Device.power_up.Goals as goal

pub returns-in-Err : goal.returns-in-Err
unfolding power_up_call powered_up finished
returns-in-Err c = rw c.refused.ensures (handed-kept _ _ _ _ c.in-Err.ensures)

pub returns : goal.returns
unfolding power_up_call powered_up finished
returns c = handed-done _ _ _ c.in_default.ensures (search rules)
