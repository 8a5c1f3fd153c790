-- `memory::unmet_in` meets its contract.
use mathlib.Core.Path.{◌∙◌}
use native.Mathlib.Omega.{arith}
use Rattle.std.proofs.Common.{rules, tests}
use Rattle.std.proofs.lemmas.Iterator.{YieldsList-from_slice, YieldsList-from_map, YieldsList-from_zip}
use Rattle.std.proofs.lemmas.Iterator.Consumers.{YieldsList-at, sum_by_from_yields_List, fits_by_from_yields_list}
use Rattle.memory.specs.Missing.{unmet}
use Rattle.memory.proofs.Unmet.{pairs-unmet, pairs-few}
use Rattle.memory.proofs.unmet_in.Goals as goal

pub sum-requires-clause-fits : goal.sum-requires-clause-fits
sum-requires-clause-fits c =
    fits_by_from_yields_list _ _ c.map.result _ (YieldsList-from_map _ (λ p. unmet p.0 p.1) (YieldsList-at c.map.ensures.source (YieldsList-from_zip (YieldsList-at c.zip.ensures.first (YieldsList-from_slice c.args.slots cc)) (YieldsList-from_slice c.args.page.now c.zip.ensures.second.0))) c.map.ensures.closure (λ x r q k. search (rules, tests))) (omega (arith, pairs-few c.args.slots c.args.page.now))

pub returns : goal.returns
returns c =
    sum_by_from_yields_List _ _ c.map.result _ c.sum.ensures.ran (YieldsList-from_map _ (λ p. unmet p.0 p.1) (YieldsList-at c.map.ensures.source (YieldsList-from_zip (YieldsList-at c.zip.ensures.first (YieldsList-from_slice c.args.slots cc)) (YieldsList-from_slice c.args.page.now c.zip.ensures.second.0))) c.map.ensures.closure (λ x r q k. search (rules, tests)))
    ∙ pairs-unmet c.args.slots c.args.page.now
