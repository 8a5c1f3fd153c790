-- `device::Device::status` meets its contract.
use Rattle.device.specs.Device.{status_byte}
use native.Mathlib.Omega.{arith}
use Rattle.std.proofs.lemmas.Grind.{common_steps}
use Rattle.device.proofs.Device.status.Goals as goal

pub returns : goal.returns
unfolding status_byte
returns c = grind (arith, common_steps)
