-- `image::salvage` meets its contract.
use Rattle.std.proofs.Common.{sym, ◌∙◌, arith}
use Rattle.slices.proofs.Choices.{other}
use Rattle.image.proofs.Calls.{salvage-fits, counted, salvage-refused, salvage-done}
use Rattle.refusals.proofs.Laws.{refused_by}
use Rattle.image.proofs.salvage.Goals as goal

pub returns-in-Err : goal.returns-in-Err
returns-in-Err c =
    let e = c.in-Err.ensures in
    let r = c.in-Err.refusal in
    record { answer = c.refused.ensures ∙ salvage-refused _ _ _ r e; blocks = other _ _ _ (λ z. refused_by r (e ∙ z)); places = other _ _ _ (λ z. refused_by r (e ∙ z)) }

pub salvage_all-requires : goal.salvage_all-requires
salvage_all-requires c = let t = salvage-fits _ _ _ (sym c.in_default.ensures) in (omega arith, omega arith)

pub returns : goal.returns
returns c =
    let z = sym c.in_default.ensures in
    let same = counted _ _ (salvage-fits _ _ _ z).0 in
    let m = c.salvage_all.ensures in
    record { answer = salvage-done _ _ _ _ (m.used ∙ rw same) z; blocks = rw z m.blocks; places = rw (z, ← same) m.places }
