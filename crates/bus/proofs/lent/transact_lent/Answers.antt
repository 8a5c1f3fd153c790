-- `bus::lent::transact_lent` meets its contract.
use Rattle.std.proofs.Common.{◌≡◌, ◌+◌, ℕ, sym, ap, ◌∙◌, arith, length}
use lib.Seq.{length-take-le}
use Rattle.chip.specs.Outcome.{bare}
use Rattle.bus.specs.Bus.{bytes_of, at}
use Rattle.bus.proofs.Rows.{at-any, own_within}
use Rattle.bus.proofs.Numbers.{bus-zero}
use Rattle.bus.proofs.Turns.{turn-refused, turn-done}
use Rattle.bus.proofs.lent.transact_lent.Goals as goal

pub returns-in-Err : goal.returns-in-Err
returns-in-Err c = let a = c.args in turn-refused a.row.now a.chip a.array.now a.sent.now a.pulses a.w a.response.now c.in-Err.refusal c.in-Err.ensures (c.bare.ensures ∙ ap bare c.into.ensures)

pub offset_bounds-row-chip : goal.offset_bounds-row-chip
offset_bounds-row-chip c = let h = bus-zero c.args.row.now (length c.args.array.now) c.args.chip (sym c.in_default.ensures) in record { fits = omega (arith, h.0.few, h.1) }

pub slice_copy_out-device : goal.slice_copy_out-device
slice_copy_out-device c = (bus-zero c.args.row.now (length c.args.array.now) c.args.chip (sym c.in_default.ensures)).1

pub slice_bounds-bytes_in-end : goal.slice_bounds-bytes_in-end
slice_bounds-bytes_in-end c = let h = bus-zero c.args.row.now (length c.args.array.now) c.args.chip (sym c.in_default.ensures) in omega (arith, h.1)

pub slice_bounds-bytes_in-end-2 : goal.slice_bounds-bytes_in-end-2
slice_bounds-bytes_in-end-2 c = let h = bus-zero c.args.row.now (length c.args.array.now) c.args.chip (sym c.in_default.ensures) in sym (length-take-le c.args.chip c.args.row.now (omega (arith, h.1)))

pub bytes_in-from-requires : goal.bytes_in-from-requires
bytes_in-from-requires c =
    let h = bus-zero c.args.row.now (length c.args.array.now) c.args.chip (sym c.in_default.ensures) in
    let l = length-take-le c.args.chip c.args.row.now (omega (arith, h.1)) in
    omega (arith, l, h.0.few, h.1)

pub overflow_add-to : goal.overflow_add-to
overflow_add-to c =
    let a = c.args in
    let h = bus-zero a.row.now (length a.array.now) a.chip (sym c.in_default.ensures) in
    let b : c.bytes_of.result ≡ bytes_of (at a.row.now a.chip) = c.bytes_of.ensures ∙ ap bytes_of (at-any a.row.now a.chip _ h.1) in
    let e = own_within a.row.now a.chip h.1 in
    record { fits = omega (arith, b, c.bytes_in-from.ensures, e, h.0.sum) }

pub transact_part-done-requires : goal.transact_part-done-requires
transact_part-done-requires c =
    let a = c.args in
    let h = bus-zero a.row.now (length a.array.now) a.chip (sym c.in_default.ensures) in
    let b : c.bytes_of.result ≡ bytes_of (at a.row.now a.chip) = c.bytes_of.ensures ∙ ap bytes_of (at-any a.row.now a.chip _ h.1) in
    let e = own_within a.row.now a.chip h.1 in
    (omega arith, omega (arith, b, c.bytes_in-from.ensures, e, h.0.sum))

pub offset_bounds-row-chip-2 : goal.offset_bounds-row-chip-2
offset_bounds-row-chip-2 c = let h = bus-zero c.args.row.now (length c.args.array.now) c.args.chip (sym c.in_default.ensures) in record { fits = omega (arith, h.0.few, h.1) }

pub bounds-row-chip : goal.bounds-row-chip
bounds-row-chip c = (bus-zero c.args.row.now (length c.args.array.now) c.args.chip (sym c.in_default.ensures)).1

pub returns : goal.returns
returns c =
    let a = c.args in
    let z = sym c.in_default.ensures in
    let h = bus-zero a.row.now (length a.array.now) a.chip z in
    let r = at-any a.row.now a.chip _ h.1 in
    let b : c.bytes_of.result ≡ bytes_of (at a.row.now a.chip) = c.bytes_of.ensures ∙ ap bytes_of r in
    let from = c.bytes_in-from.result in
    turn-done a.row.now a.chip a.array.now a.sent.now a.pulses a.w a.response.now z from (from + c.bytes_of.result) c.bytes_in-from.ensures (ap (λ (x : ℕ). from + x) b)
    (rw (← r) c.transact_part-done.ensures)
