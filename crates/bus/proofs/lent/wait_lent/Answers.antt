-- `bus::lent::wait_lent` meets its contract.
use Rattle.bus.proofs.Waits.{wait-refused}
use Rattle.bus.proofs.lent.wait_lent.Goals as goal

pub returns-in-Err : goal.returns-in-Err
returns-in-Err c = let a = c.args in wait-refused a.row.now a.array.now a.ticks c.in-Err.refusal c.in-Err.ensures c.into.ensures
