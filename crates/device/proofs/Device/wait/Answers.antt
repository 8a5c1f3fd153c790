-- `device::Device::wait` meets its contract.
use Rattle.device.specs.Time.{wait_call}
use Rattle.device.proofs.Timed.{handed-kept, handed-done}
use Rattle.device.proofs.Device.wait.Goals as goal

pub returns-in-Err : goal.returns-in-Err
unfolding wait_call
returns-in-Err c = rw c.refused.ensures (handed-kept _ _ _ _ c.in-Err.ensures)

pub returns : goal.returns
unfolding wait_call
returns c = handed-done _ _ _ c.in_default.ensures c.waited.ensures
