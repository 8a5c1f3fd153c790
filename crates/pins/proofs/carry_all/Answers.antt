-- `pins::carry_all` meets its contract.
use Rattle.std.proofs.Common.{◌≡◌, sym, ap, ◌∙◌, ◌≤◌, arith, length}
use Rattle.pins.specs.Pins.{Pins, on_select}
use Rattle.pins.specs.Counted.{pins_of}
use Rattle.pins.proofs.Seen.{stays, select-taken, kept-rest, kept-after}
use Rattle.pins.proofs.Held.{Begun, held_first, whole-few, missed-fits, begun-anew, ended-now, begun-thrown, begun-same, begun-few, begun-room, held_next, held-last}
use Rattle.pins.proofs.carry_all.Goals as goal
use Rattle.pins.proofs.carry_all.Goals.{then-changes, else-changes, then-ends, else-ends}

pub loop-i-init : goal.loop-i-init
loop-i-init c = rw (kept-rest, c.none-under.ensures) (held_first _ _ _ _ _)

pub carry_out-done-requires : goal.carry_out-done-requires
carry_out-done-requires c = omega (arith, whole-few c.loop-i.invariant c.requires.0, c.loop-i.auto.sent, c.requires.2)

pub overflow_add-missing : goal.overflow_add-missing
overflow_add-missing c =
    let l = c.loop-i in
    let inv = rw (← c.after-pins.ensures) at l.invariant in
    let response : 65536 ≤ length l.response = omega (arith, l.auto.response, c.requires.3) in
    record { fits = omega (arith, missed-fits _ _ _ _ l.i c.loop-i-test.true c.requires.0 inv c.of-levels.ensures l.response response (ended-now _ _ _ _ l.i c.loop-i-test.true c.requires.0 inv c.of-levels.ensures l.response (sym c.ends.ensures ∙ c.if-ends.true) c.carry_out-done.ensures)) }

pub clocked-under-requires : goal.clocked-under-requires
clocked-under-requires c =
    let l = c.loop-i in
    let inv = rw (← c.after-pins.ensures) at l.invariant in
    let lt = c.loop-i-test.true in
    let en = c.of-levels.ensures in
    let sent : 65536 ≤ length l.sent = omega (arith, l.auto.sent, c.requires.2) in
    let response : 65536 ≤ length l.response = omega (arith, l.auto.response, c.requires.3) in
    let b : Begun c.args.device c.args.array.now c.args.samples.now l.i c.of-levels.result c.if-changes.array c.if-changes.device c.if-changes.missing c.if-changes.under
    = elim c.if-changes.branch [
      | then-changes w ↦ elim w.if-ends.branch [
        | then-ends v ↦ rw (w.array-is, w.device-is, w.missing-is, w.under-is, v.array-is, v.device-is, v.missing-is) (begun-anew _ _ _ _ l.i lt c.requires.0 inv en l.response response (sym c.changes.ensures ∙ w.if-changes.true) (ended-now _ _ _ _ l.i lt c.requires.0 inv en l.response (sym w.ends.ensures ∙ v.if-ends.true) v.carry_out-done.ensures) w.none-under-then-changes.ensures)
        | else-ends v ↦ rw (w.array-is, w.device-is, w.missing-is, w.under-is, v.array-is, v.device-is, v.missing-is) (begun-thrown _ _ _ _ l.i lt c.requires.0 inv en l.response response (sym c.changes.ensures ∙ w.if-changes.true) (sym w.ends.ensures ∙ v.if-ends.false) w.none-under-then-changes.ensures)
      ]
      | else-changes w ↦ rw (w.array-is, w.device-is, w.missing-is, w.under-is) (begun-same _ _ _ _ l.i lt c.requires.0 inv en (sym c.changes.ensures ∙ w.if-changes.false))
    ] in
    let es : pins_of c.if-changes.pins ≡ on_select (pins_of c.after-pins.result) c.of-levels.result
    = elim c.if-changes.branch [
      | then-changes w ↦ rw w.pins-is w.on_select-pins.ensures
      | else-changes w ↦ rw w.pins-is (stays _ _ (sym c.changes.ensures ∙ w.if-changes.false))
    ] in
    let eh = select-taken _ (pins_of c.after-pins.result) c.of-levels.result es in
    (begun-few _ _ _ _ l.i lt c.requires.0 inv en b eh, begun-room _ _ _ _ l.i lt c.requires.0 inv en b eh sent)

pub loop-i-preserved : goal.loop-i-preserved
unfolding on_select
loop-i-preserved c =
    let l = c.loop-i in
    let inv = rw (← c.after-pins.ensures) at l.invariant in
    let lt = c.loop-i-test.true in
    let en = c.of-levels.ensures in
    let sent : 65536 ≤ length l.sent = omega (arith, l.auto.sent, c.requires.2) in
    let response : 65536 ≤ length l.response = omega (arith, l.auto.response, c.requires.3) in
    let b : Begun c.args.device c.args.array.now c.args.samples.now l.i c.of-levels.result c.if-changes.array c.if-changes.device c.if-changes.missing c.if-changes.under
    = elim c.if-changes.branch [
      | then-changes w ↦ elim w.if-ends.branch [
        | then-ends v ↦ rw (w.array-is, w.device-is, w.missing-is, w.under-is, v.array-is, v.device-is, v.missing-is) (begun-anew _ _ _ _ l.i lt c.requires.0 inv en l.response response (sym c.changes.ensures ∙ w.if-changes.true) (ended-now _ _ _ _ l.i lt c.requires.0 inv en l.response (sym w.ends.ensures ∙ v.if-ends.true) v.carry_out-done.ensures) w.none-under-then-changes.ensures)
        | else-ends v ↦ rw (w.array-is, w.device-is, w.missing-is, w.under-is, v.array-is, v.device-is, v.missing-is) (begun-thrown _ _ _ _ l.i lt c.requires.0 inv en l.response response (sym c.changes.ensures ∙ w.if-changes.true) (sym w.ends.ensures ∙ v.if-ends.false) w.none-under-then-changes.ensures)
      ]
      | else-changes w ↦ rw (w.array-is, w.device-is, w.missing-is, w.under-is) (begun-same _ _ _ _ l.i lt c.requires.0 inv en (sym c.changes.ensures ∙ w.if-changes.false))
    ] in
    let es : pins_of c.if-changes.pins ≡ on_select (pins_of c.after-pins.result) c.of-levels.result
    = elim c.if-changes.branch [
      | then-changes w ↦ rw w.pins-is w.on_select-pins.ensures
      | else-changes w ↦ rw w.pins-is (stays _ _ (sym c.changes.ensures ∙ w.if-changes.false))
    ] in
    let eh = select-taken _ (pins_of c.after-pins.result) c.of-levels.result es in
    let t = ap (λ (p : Pins). p.select) eh in
    rw (kept-after _ _ _ t c.on_hold-pins.ensures en) (held_next _ _ _ _ l.i lt c.requires.0 inv en b eh _ l.auto.output c.requires.1 sent c.clocked-under.ensures c.on_hold-pins.ensures c.output.ensures)

pub returns : goal.returns
returns c = held-last c.loop-i.invariant (omega arith)
