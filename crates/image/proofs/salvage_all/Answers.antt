-- `image::salvage_all` meets its contract.
use Rattle.std.proofs.Common.{◌≡◌, ℕ, ◌+◌, ◌*◌, ◌/◌, ◌≤◌, List, length, sym, refl, ap, ◌∙◌, arith, length-append, lit≤}
use Rattle.slices.specs.Changed.{map_at, stored}
use Rattle.slices.proofs.Stores.{store-next, stored-none}
use Rattle.slices.proofs.Windows.{window-start, window-end}
use Rattle.image.specs.Faults.{reason_in}
use Rattle.image.specs.Images.{bad_places, listed, reason_at}
use Rattle.image.specs.Steps.{note_of}
use Rattle.image.proofs.Lists.{note-few, listed_next}
use Rattle.image.proofs.Salvages.{salvage-part, salvage-step}
use Rattle.image.proofs.salvage_all.Goals as goal

pub loop-place-init : goal.loop-place-init
unfolding bad_places listed
loop-place-init c = record { room = lit≤ tt; used = refl; blocks = window-start 0 _ _; places = stored-none 0 _ }

pub loop-place-preserved : goal.loop-place-preserved
loop-place-preserved c =
    let l = c.loop-place in
    let x = c.args in
    let b = c.salvage_block-found in
    let n = c.note-at in
    let r = reason_in b.result in
    let old = listed x.image.now (bad_places x.image.now l.place) in
    let fit : l.place * 512 + 512 ≤ length x.image.now = omega arith in
    let part = salvage-part l.place x.image.now l.image fit l.invariant.blocks in
    let why : r ≡ reason_at x.image.now l.place = b.ensures.reason ∙ rw part in
    let next = listed_next x.image.now l.place r why in
    let few = note-few l.place r in
    let len : n.result ≡ l.at + length (note_of l.place r) = n.ensures.next in
    record {
      room = omega (arith, few, len);
      used = len ∙ (ap (λ (k : ℕ). k + length (note_of l.place r)) l.invariant.used ∙ (sym (length-append old _) ∙ ap length next));
      blocks = salvage-step l.place x.image.now l.image fit l.invariant.blocks b.ensures.block;
      places = store-next l.at old _ x.list.now l.invariant.places (sym l.invariant.used) n.ensures.places ∙ ap (λ (t : List ℕ). map_at (stored 0 t) x.list.now) next;
    }

pub returns : goal.returns
returns c =
    let l = c.loop-place in
    let x = c.args in
    let z : l.place ≡ length x.image.now / 512 = omega arith in
    record { used = l.invariant.used ∙ rw z; blocks = l.invariant.blocks ∙ window-end _ _ _ (omega arith); places = l.invariant.places ∙ rw z }
