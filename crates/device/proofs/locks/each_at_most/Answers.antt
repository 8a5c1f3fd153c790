-- `device::locks::each_at_most` meets its contract.
use mathlib.Core.Path.{◌∙◌}
use lib.Dec.{leb}
use borrow.Author.Tests.{tests}
use Rattle.std.proofs.lemmas.Iterator.{YieldsList-from_slice}
use Rattle.std.proofs.lemmas.Iterator.Search.{all_from_yields_List}
use Rattle.device.proofs.Registers.{all-listed}
use borrow.Author.Rules.{rules}
use Rattle.device.proofs.locks.each_at_most.Goals as goal

pub returns : goal.returns
returns c = all_from_yields_List (λ r. leb r c.args.most) _ _ _ c.all.ensures.ran (YieldsList-from_slice c.args.locks cc) (λ x b q k. search (rules, tests)) ∙ all-listed c.args.most c.args.locks
