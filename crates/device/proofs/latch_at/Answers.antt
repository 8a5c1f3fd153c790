-- `device::latch_at` meets its contract.
use mathlib.Core.Path.{refl}
use Rattle.device.specs.Device.{latch_at}
use Rattle.device.proofs.latch_at.Goals as goal

pub returns : goal.returns
unfolding latch_at
returns c = refl
