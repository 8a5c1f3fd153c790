-- `pins::underway::Underway::clocked` meets its contract.
use Rattle.pins.proofs.Seen.{clock-aside}
use Rattle.pins.proofs.underway.Underway.clocked.Goals as goal

pub returns-then-pins : goal.returns-then-pins
returns-then-pins c = let e = clock-aside c.args.pins c.args.levels c.if-pins.true in record { under = rw (e.0, e.1); bytes = rw e.0 }
