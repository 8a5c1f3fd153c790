-- `bus::lent::wait_all` meets its contract.
use Rattle.std.proofs.Common.{◌≡◌, ◌+◌, ◌<◌, ℕ, length, refl, ap, ◌∙◌, arith}
use Rattle.bus.specs.Bus.{bytes_of, at}
use Rattle.bus.proofs.Numbers.{wait-zero}
use Rattle.bus.proofs.Chips.{part-back}
use Rattle.bus.proofs.Waits.{going-first, going-record, going-fits, going_next, going_end}
use Rattle.bus.proofs.lent.wait_all.Goals as goal

pub loop-device-init : goal.loop-device-init
loop-device-init c =
    let a = c.args in
    let h = wait-zero a.row.now _ c.requires in
    (h.few, h.sum, going-first a.row.now a.array.now a.ticks)

pub overflow_add-to : goal.overflow_add-to
overflow_add-to c =
    let l = c.loop-device in
    let a = c.args in
    let g = l.invariant.2 in
    let more : l.device-index < length a.row.now = omega arith in
    let f = going-fits a.row.now a.array.now a.ticks l.device-index l.from l.row _ g more l.invariant.1 in
    record { fits = omega (arith, c.bytes_of.ensures ∙ ap bytes_of (going-record a.row.now a.array.now a.ticks l.device-index l.from l.row _ g more _), f) }

pub slice_bounds-wait-end : goal.slice_bounds-wait-end
slice_bounds-wait-end c =
    let l = c.loop-device in
    let a = c.args in
    let g = l.invariant.2 in
    let more : l.device-index < length a.row.now = omega arith in
    let f = going-fits a.row.now a.array.now a.ticks l.device-index l.from l.row _ g more l.invariant.1 in
    omega (arith, c.bytes_of.ensures ∙ ap bytes_of (going-record a.row.now a.array.now a.ticks l.device-index l.from l.row _ g more _), f)

pub loop-device-preserved : goal.loop-device-preserved
loop-device-preserved c =
    let l = c.loop-device in
    let a = c.args in
    let g = l.invariant.2 in
    let more : l.device-index < length a.row.now = omega arith in
    let r = going-record a.row.now a.array.now a.ticks l.device-index l.from l.row _ g more _ in
    let b : c.bytes_of.result ≡ bytes_of (at a.row.now l.device-index) = c.bytes_of.ensures ∙ ap bytes_of r in
    let to = l.from + c.bytes_of.result in
    let m = rw r at c.wait.ensures in
    let n = going_next a.row.now a.array.now a.ticks l.device-index l.from l.row _ g more l.invariant.1 to (ap (λ (x : ℕ). l.from + x) b) m in
    (l.invariant.0, l.invariant.1, rw (part-back l.from to _ (omega arith) refl) n)

pub returns : goal.returns
returns c =
    let l = c.loop-device in
    let a = c.args in
    going_end a.row.now a.array.now a.ticks l.device-index l.from l.row _ l.invariant.2 (omega arith) c.requires
