-- `bus::bytes_in` meets its contract.
use Rattle.std.proofs.Common.{sym, ◌∙◌, rules}
use Rattle.std.proofs.lemmas.Iterator.{YieldsList-from_slice, YieldsList-from_map}
use Rattle.std.proofs.lemmas.Iterator.Consumers.{sum_by_from_yields_List, fits_by_from_yields_list}
use Rattle.bus.specs.Bus.{bytes_of}
use Rattle.bus.proofs.Rows.{sum_by-bytes, sum_by-fits}
use Rattle.bus.proofs.bytes_in.Goals as goal

pub sum-requires-clause-fits : goal.sum-requires-clause-fits
sum-requires-clause-fits c =
    fits_by_from_yields_list bytes_of c.args.row.now _ _ (YieldsList-from_map _ bytes_of (YieldsList-from_slice c.args.row.now (cc)) (cc) (λ x r q k. search rules)) (sum_by-fits c.args.row.now c.requires)

pub returns : goal.returns
returns c =
    sum_by_from_yields_List bytes_of c.args.row.now _ _ c.sum.ensures.ran (YieldsList-from_map _ bytes_of (YieldsList-from_slice c.args.row.now (cc)) (cc) (λ x r q k. search rules)) ∙ sym (sum_by-bytes c.args.row.now)
