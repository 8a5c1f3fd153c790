-- `image::sums_of` meets its contract.
use Rattle.std.proofs.Common.{refl, ◌∙◌}
use Rattle.image.specs.Sums.{sums_of}
use Rattle.image.proofs.Folds.{sums_next, sums-end}
use Rattle.image.proofs.sums_of.Goals as goal

pub loop-byte-init : goal.loop-byte-init
unfolding sums_of
loop-byte-init c = refl

pub loop-byte-preserved : goal.loop-byte-preserved
loop-byte-preserved c =
    let l = c.loop-byte in
    sums_next l.first l.second _ _ _ c.args.bytes.now l.byte-index c.loop-byte-test.true c.from-first.ensures refl refl ∙ l.invariant

pub returns : goal.returns
returns c = sums-end _ _ _ _ c.loop-byte-test.false ∙ c.loop-byte.invariant
