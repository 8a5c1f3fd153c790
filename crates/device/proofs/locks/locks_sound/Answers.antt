-- `device::locks::locks_sound` meets its contract.
use Rattle.device.specs.Locks.{locks_sound}
use borrow.Author.Rules.{rules}
use Rattle.device.proofs.locks.locks_sound.Goals as goal

pub returns : goal.returns
unfolding locks_sound
returns c = search rules
