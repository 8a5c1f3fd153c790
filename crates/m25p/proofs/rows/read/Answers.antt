-- `m25p::rows::read` meets its contract.
use Rattle.std.proofs.Common.{◌<◌, ap, ◌∙◌, arith, add-one}
use lib.ListN.{length-set, length-take}
use lib.Seq.{get_or-take}
use Rattle.device.specs.Packing.{unpack_of}
use Rattle.m25p.proofs.Records.{read_next, read-end}
use Rattle.m25p.proofs.rows.read.Goals as goal

pub loop-at-preserved : goal.loop-at-preserved
loop-at-preserved c =
    let l = c.loop-at in
    let x = c.as_chunks.ensures in
    let h : l.at < c.min.result = let t = length-take c.min.result c.as_chunks.result.0.now in omega (arith, t) in
    let e = rw x.front at (c.unpack.ensures ∙ ap unpack_of (get_or-take c.min.result c.as_chunks.result.0.now l.at _ h)) in
    let t = length-take c.min.result c.as_chunks.result.0.now in
    (length-set l.records l.at _ ∙ l.invariant.0, rw (add-one l.at) (read_next c.args.row.now l.at _ l.records (omega (arith, l.invariant.0)) (omega (arith, t, x.front_len)) l.invariant.1 e))

pub returns : goal.returns
returns c =
    let l = c.loop-at in
    let t = length-take c.min.result c.as_chunks.result.0.now in
    read-end _ l.at l.records l.invariant.0 (omega (arith, t, c.as_chunks.ensures.front_len)) l.invariant.1
