-- `device::Device::wait_foreseen` meets its contract.
use Rattle.device.proofs.Timed.{foreseen-kept, foreseen-done}
use Rattle.device.proofs.Device.wait_foreseen.Goals as goal

pub returns-in-Err : goal.returns-in-Err
returns-in-Err c = rw c.refused.ensures (foreseen-kept _ _ _ _ c.in-Err.ensures)

pub returns : goal.returns
returns c = foreseen-done _ _ _ c.in_default.ensures c.rested.ensures
