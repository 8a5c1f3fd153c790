-- `batch::carry_all` meets its contract.
use Rattle.std.proofs.Common.{◌≡◌, refl, ℕ, ◌+◌, ap, arith, length, length-set, inl}
use Rattle.batch.specs.Items.{items_of}
use Rattle.batch.proofs.Items.{items-few, map-long}
use Rattle.batch.proofs.Going.{going-first, going-good, going-room, going-place, going-part, going_next, going_end}
use Rattle.batch.proofs.carry_all.Goals as goal

pub loop-k-init : goal.loop-k-init
loop-k-init c =
    let a = c.args in
    let e : items_of c.into_iter-k-iterator.result.iter.rest.now ≡ items_of a.items.now = cc in
    let z : c.into_iter-k-iterator.result.count ≡ 0 = cc in
    let n = ap length e in
    let f = items-few a.items.now in
    ((tt, tt, inl (omega (arith, c.well_formed))), tt, going-first a.device a.array.now a.items.now a.responses.now a.answers.now c.requires.0 c.requires.1 c.requires.2 c.requires.3 _ e _ z)

pub overflow_add-end : goal.overflow_add-end
overflow_add-end c =
    let r = going-room c.loop-k.invariant.2 c.in-Some.item.now _ c.in-Some.ensures.steps.0 in
    record { fits = omega (arith, c.room.ensures, c.loop-k.auto.responses, c.well_formed) }

pub slice_bounds-carry_one-end : goal.slice_bounds-carry_one-end
slice_bounds-carry_one-end c =
    let r = going-room c.loop-k.invariant.2 c.in-Some.item.now _ c.in-Some.ensures.steps.0 in
    omega (arith, c.room.ensures)

pub carry_one-done-requires : goal.carry_one-done-requires
carry_one-done-requires c =
    let g = c.loop-k.invariant.2 in
    let i = c.in-Some.item.now in
    let n = c.in-Some.ensures.steps.0 in
    (going-good g i _ n, going-part g i _ n _ (ap (λ (x : ℕ). c.loop-k.from + x) c.room.ensures), g.good)

pub bounds-answers-k : goal.bounds-answers-k
bounds-answers-k c =
    let p = going-place c.loop-k.invariant.2 c.in-Some.item.now _ c.in-Some.ensures.steps.0 in
    omega (arith, c.in-Some.ensures.steps.1)

pub loop-k-preserved : goal.loop-k-preserved
loop-k-preserved c =
    let i = c.in-Some.item.now in
    let s = c.in-Some.ensures.steps in
    let g = going_next c.loop-k.invariant.2 i _ s.0 _ (ap (λ (x : ℕ). c.loop-k.from + x) c.room.ensures) c.carry_one-done.ensures _ refl in
    let f = map-long (items_of c.next.new.self.iter.rest.now) in
    let l = length-set c.loop-k.answers c.loop-k.k-iterator.count c.carry_one-done.result.answer.number in
    ((tt, tt, inl (omega (arith, g.places, s.2, c.loop-k.auto.answers, c.well_formed))), tt, rw (s.1, s.2, c.from.ensures) g)

pub returns : goal.returns
returns c = going_end c.loop-k.invariant.2 c.in-None.ensures.steps.0.0
