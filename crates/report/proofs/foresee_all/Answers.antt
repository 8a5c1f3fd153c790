-- `report::foresee_all` meets its contract.
use Rattle.std.proofs.Common.{◌≡◌, refl, sym, ◌∙◌, arith, replicate}
use lib.ListN.{length-replicate}
use Rattle.batch.specs.Items.{items_of}
use Rattle.report.proofs.Going.{going-first, going-good, going-spare, going_next, going_end}
use Rattle.report.proofs.foresee_all.Goals as goal

pub loop-item-init : goal.loop-item-init
loop-item-init c =
    let a = c.args in
    let e : items_of c.into_iter-item-iterator.result.rest.now ≡ items_of a.items.now = cc in
    (tt, tt, refl, λ xs l. going-first a.items.now a.device a.array xs l c.requires.0 c.requires.1 c.requires.2 _ e)

pub foresee_one-device-requires : goal.foresee_one-device-requires
foresee_one-device-requires c =
    let g = c.loop-item.invariant.3 (replicate c.args.array 0) (length-replicate c.args.array 0) in
    let i = c.in-Some.item.now in
    let n = c.in-Some.ensures.steps in
    (going-good g i _ n, g.good.sound, sym g.array_long ∙ g.good.whole, going-spare g i _ n (omega (arith, c.well_formed)))

pub loop-item-preserved : goal.loop-item-preserved
loop-item-preserved c =
    let w = c.foresee_one-device.ensures in
    let z = c.loop-item.invariant.3 (replicate c.args.array 0) (length-replicate c.args.array 0) in
    (tt, tt, (w z.array z.array_long).grown.long, λ xs q. let g = c.loop-item.invariant.3 xs q in going_next g c.in-Some.item.now _ c.in-Some.ensures.steps (w g.array g.array_long))

pub returns : goal.returns
returns c = record { long = c.loop-item.invariant.2; each = λ xs q i h. going_end (c.loop-item.invariant.3 xs q) c.in-None.ensures.steps.0 i h }
