-- `image::read_all` meets its contract.
use Rattle.std.proofs.Common.{◌≡◌, ◌+◌, ◌*◌, ◌/◌, ◌≤◌, min, length, drop, ◌∙◌, arith}
use Rattle.slices.proofs.Windows.{window-start, window-end}
use Rattle.slices.proofs.Parts.{lent_map}
use Rattle.image.specs.Images.{part_of}
use Rattle.image.proofs.Parts.{part_step, chunk-is, window-past}
use Rattle.image.proofs.read_all.Goals as goal

pub loop-place-init : goal.loop-place-init
loop-place-init c = window-start 0 _ _

pub loop-place-preserved : goal.loop-place-preserved
loop-place-preserved c =
    let p = c.loop-place.place in
    let image = c.args.image.now in
    let d = c.min-to.result in
    let fit : d ≤ length c.loop-place.array = omega arith in
    let past : d ≡ min ((p + 1) * 504) (length c.args.array.now) = omega arith in
    lent_map (p * 504) d c.loop-place.array (omega arith) fit _ c.read_block.ensures
    ∙ (rw (c.as_chunks.ensures.front, chunk-is 512 (length image / 512) p image _ (omega arith)) (part_step 504 p d (λ k. drop 8 (part_of 512 k image)) c.args.array.now (omega arith) (omega arith) c.loop-place.invariant)
    ∙ window-past _ _ _ _ past)

pub returns : goal.returns
returns c = c.loop-place.invariant ∙ window-end _ _ _ (omega arith)
