-- `device::packing::write_front` meets its contract.
use mathlib.Core.Path.{refl}
use Rattle.slices.proofs.Stores.{store-next}
use Rattle.device.specs.Packing.{front_of}
use Rattle.device.proofs.packing.write_front.Goals as goal

-- each store comes four places after the one before, or eight

pub returns : goal.returns
unfolding front_of
returns c =
    let f1 = rw c.head_bytes.ensures at c.store.ensures in
    let f2 = store-next _ _ _ _ f1 refl (rw c.ticks_of.ensures at c.store_word.ensures) in
    let f3 = store-next _ _ _ _ f2 refl c.store_word-2.ensures in
    let f4 = store-next _ _ _ _ f3 refl c.store_word-3.ensures in
    let f5 = store-next _ _ _ _ f4 refl c.store_word-4.ensures in
    let f6 = store-next _ _ _ _ f5 refl c.store_word-5.ensures in
    let f7 = store-next _ _ _ _ f6 refl (rw c.cycle_bytes.ensures at c.store-2.ensures) in
    store-next _ _ _ _ f7 refl c.store_word-6.ensures
