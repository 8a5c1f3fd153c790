-- `device::packing::write_rest` meets its contract.
use mathlib.Core.Path.{◌≡◌, ap, ◌∙◌}
use mathlib.Core.List.{List, ◌++◌, append_assoc}
use Prim.Native.Nat.{ℕ, ◌+◌}
use lib.ListN.{length, length-append}
use Rattle.slices.specs.Bytes.{word}
use Rattle.slices.specs.Changed.{map_at, stored}
use Rattle.slices.proofs.Stores.{store-behind}
use Rattle.device.specs.Packing.{front_length, named_place, locks_place}
use borrow.Author.Rules.{rules}
use Rattle.device.proofs.packing.write_rest.Goals as goal

pub returns : goal.returns
returns c =
    let a = c.args in
    let n : length a.d.cycle.slots ≡ 256 = search rules in
    let w : List ℕ = a.d.cycle.slots ++ word a.d.cycle.named in
    let m : front_length + length w ≡ locks_place = ap (λ (k : ℕ). front_length + k) (length-append a.d.cycle.slots (word a.d.cycle.named)) ∙ rw n in
    let f2 = store-behind front_length named_place a.d.cycle.slots (word a.d.cycle.named) _ c.store.ensures (rw n) c.store_word.ensures in
    store-behind front_length locks_place w a.d.locks _ f2 m c.store-2.ensures ∙ ap (λ (t : List ℕ). map_at (stored front_length t) a.out.now) (append_assoc a.d.cycle.slots (word a.d.cycle.named) a.d.locks)
