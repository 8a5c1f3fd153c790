-- `device::packing::pack` meets its contract.
use Rattle.device.specs.Packing.{pack_answer}
use Rattle.device.proofs.Calls.{packed-well}
use borrow.Author.Rules.{rules}
use Rattle.device.proofs.packing.pack.Goals as goal

pub returns-then-out-ne-LENGTH : goal.returns-then-out-ne-LENGTH
unfolding pack_answer
returns-then-out-ne-LENGTH c = record { answer = search rules; bytes = search rules }

pub returns-then-not-sound : goal.returns-then-not-sound
unfolding pack_answer
returns-then-not-sound c = record { answer = search rules; bytes = search rules }

pub returns : goal.returns
unfolding pack_answer
returns c = packed-well _ _ (search rules) c.write.ensures
