-- `device::Device::sound` meets its contract.
use Rattle.device.specs.Device.{sound}
use borrow.Author.Rules.{rules}
use Rattle.device.proofs.Device.sound.Goals as goal

pub returns-then-sound : goal.returns-then-sound
unfolding sound
returns-then-sound c = search rules

pub returns-else-sound : goal.returns-else-sound
unfolding sound
returns-else-sound c = search rules
