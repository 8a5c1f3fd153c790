-- `image::first_bad` meets its contract.
use Rattle.std.proofs.Common.{◌≡◌, ◌/◌, length, sym, refl, ap, ◌∙◌, add-one, arith}
use Rattle.image.specs.Faults.{reason_in}
use Rattle.image.specs.Images.{reason_at, bad_places}
use Rattle.image.proofs.Faults.{found_good, found-bad}
use Rattle.image.proofs.Parts.{chunk-is}
use Rattle.image.proofs.Lists.{past-good, first-here}
use Rattle.image.proofs.first_bad.Goals as goal

pub loop-place-init : goal.loop-place-init
unfolding bad_places
loop-place-init c = refl

pub loop-place-preserved : goal.loop-place-preserved
loop-place-preserved c =
    let p = c.loop-place.place in
    let image = c.args.image.now in
    let r : reason_in c.check.result ≡ reason_at image p = c.check.ensures ∙ rw (c.as_chunks.ensures.front, chunk-is 512 (length image / 512) p image _ (omega arith)) in
    ap (bad_places image) (add-one p) ∙ past-good image p (sym r ∙ found_good _ (sym c.is_err.ensures.value ∙ c.if-is_err.false)) ∙ c.loop-place.invariant

pub returns-then-is_err : goal.returns-then-is_err
returns-then-is_err c =
    let p = c.loop-place.place in
    let image = c.args.image.now in
    let r : reason_in c.check.result ≡ reason_at image p = c.check.ensures ∙ rw (c.as_chunks.ensures.front, chunk-is 512 (length image / 512) p image _ (omega arith)) in
    first-here image p (length image / 512) c.loop-place.invariant (λ e. found-bad _ (sym c.is_err.ensures.value ∙ c.if-is_err.true) (r ∙ e)) (omega arith)

pub returns : goal.returns
returns c =
    let z : c.loop-place.place ≡ length c.args.image.now / 512 = omega arith in
    rw (← z, c.loop-place.invariant)
