-- `batch::carry_one` meets its contract.
use Rattle.std.proofs.Common.{◌≡◌, ◌≤◌, sym, ◌∙◌, ap, subst, arith, length}
use Rattle.device.specs.Chip.{chip}
use Rattle.batch.specs.Items.{length_in}
use Rattle.batch.specs.Batch.{room_of}
use Rattle.batch.proofs.One.{one-sends}
use Rattle.batch.proofs.Fits.{Fits, item-fits}
use Rattle.batch.proofs.carry_one.Goals as goal

pub returns-in-Transaction : goal.returns-in-Transaction
returns-in-Transaction c =
    let a = c.args in
    let t = c.in-Transaction in
    let few : length_in a.item.now ≤ 65535 = omega (arith, c.type_inv.item 0, c.type_inv.item 1) in
    let f = subst Fits (sym t.ensures) (item-fits a.item.now c.requires.0 few) in
    let l : length a.response.now ≡ length t.sent.now = c.requires.1 ∙ ap room_of (sym t.ensures) in
    rw (← t.ensures) (one-sends (chip a.device a.array.now) c.requires.2 t.sent.now t.pulses t.w f.0 f.1 a.response.now l c.transact.ensures)
