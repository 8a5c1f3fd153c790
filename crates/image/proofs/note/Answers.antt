-- `image::note` meets its contract.
use Rattle.std.proofs.Common.{◌≡◌, ℕ, ◌+◌, List, take, ap, ◌∙◌, add-zero, refl}
use Rattle.slices.specs.Changed.{map_at, stored}
use Rattle.slices.specs.Bytes.{word}
use Rattle.slices.proofs.Stores.{stored-none, store-behind}
use Rattle.image.specs.Faults.{reason_in}
use Rattle.image.proofs.Faults.{faulty}
use Rattle.image.proofs.Lists.{note-none, note-some}
use Rattle.image.proofs.note.Goals as goal

pub returns-in_default : goal.returns-in_default
returns-in_default c =
    let x = c.args in
    let z = note-none x.place (reason_in x.found) (rw c.in_default.is refl) in
    record { next = rw (z, add-zero); places = rw z (stored-none x.at x.list.now) }

pub returns : goal.returns
returns c =
    let x = c.args in
    let e : reason_in x.found ≡ c.from-why.result = rw c.in-Err.is cc in
    let z = note-some x.place (reason_in x.found) (rw c.in-Err.is (faulty c.in-Err.fault)) in
    record {
      next = rw z;
      places =
          rw (z, e)
          (store-behind x.at _ (word x.place) (word c.from-why.result) x.list.now
          (c.store.ensures ∙ ap (λ (t : List ℕ). map_at (stored x.at (take 4 t)) x.list.now) c.to_le_bytes.ensures)
          refl
          (c.store-2.ensures ∙ ap (λ (t : List ℕ). map_at (stored (x.at + 4) t) c.store.new.out) c.to_le_bytes-2.ensures));
    }
