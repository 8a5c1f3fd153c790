-- `device::locks::any_stops` meets its contract.
use mathlib.Core.Path.{◌∙◌}
use borrow.Author.Tests.{tests}
use Rattle.std.proofs.lemmas.Iterator.{YieldsList-from_slice}
use Rattle.std.proofs.lemmas.Iterator.Search.{any_from_yields_List}
use Rattle.device.proofs.Registers.{any-listed}
use Rattle.device.specs.Locks.{stops}
use borrow.Author.Rules.{rules}
use Rattle.device.proofs.locks.any_stops.Goals as goal

pub returns : goal.returns
returns c = any_from_yields_List stops _ _ _ c.any.ensures.ran (YieldsList-from_slice c.args.locks cc) (λ x b q k. search (rules, tests)) ∙ any-listed c.args.locks
