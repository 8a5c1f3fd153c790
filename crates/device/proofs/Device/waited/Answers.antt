-- `device::Device::waited` meets its contract.
use mathlib.Core.Path.{◌≡◌}
use Rattle.device.specs.Chip.{chip}
use Rattle.device.specs.Time.{waited, finished}
use native.Mathlib.Omega.{arith}
use Rattle.std.proofs.lemmas.Grind.{common_steps}
use Rattle.device.proofs.Device.waited.Goals as goal

pub returns : goal.returns
unfolding waited finished
returns c =
    let a = c.args in
    let device : c.rested.result ≡ (waited (chip a.self a.array.now) a.t).device = c.rested.ensures a.array.now in
    let array : c.if-matches.array ≡ (waited (chip a.self a.array.now) a.t).array = grind (arith, common_steps) in
    rw (device, array)
