-- `bus::all_sound` meets its contract.
use Rattle.std.proofs.Common.{sym, ◌∙◌, rules}
use Rattle.std.proofs.lemmas.Iterator.{YieldsList-from_slice}
use Rattle.std.proofs.lemmas.Iterator.Search.{all_from_yields_List}
use Rattle.device.specs.Device.{sound}
use Rattle.bus.proofs.Rows.{all_by-sound}
use Rattle.bus.proofs.all_sound.Goals as goal

pub returns : goal.returns
returns c = all_from_yields_List sound _ _ _ c.all.ensures.ran (YieldsList-from_slice c.args.row.now (cc)) (λ x b q k. search rules) ∙ sym (all_by-sound c.args.row.now)
