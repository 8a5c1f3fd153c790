-- `device::Device::loss` meets its contract.
use Rattle.device.specs.Time.{loss_call, lost}
use Rattle.device.proofs.Timed.{handed-kept, handed-done}
use borrow.Author.Rules.{rules}
use Rattle.device.proofs.Device.loss.Goals as goal

pub returns-in-Err : goal.returns-in-Err
unfolding loss_call lost
returns-in-Err c = rw c.refused.ensures (handed-kept _ _ _ _ c.in-Err.ensures)

pub returns : goal.returns
unfolding loss_call lost
returns c = handed-done _ _ _ c.in_default.ensures (search rules)
