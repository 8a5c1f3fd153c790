-- `bus::lent::transact_part` meets its contract.
use Rattle.bus.specs.Found.{partly}
use Rattle.bus.proofs.Chips.{part-back}
use Rattle.bus.proofs.lent.transact_part.Goals as goal

pub returns : goal.returns
unfolding partly
returns c =
    let m = c.transact.ensures in
    let s = c in
    record { answer = m.answer; device = m.device; memory = part-back s.args.from s.args.to s.args.array.now s.requires.0 m.memory; line = m.line }
