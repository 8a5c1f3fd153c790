-- `device::packing::write` meets its contract.
use mathlib.Core.List.{◌++◌}
use Rattle.slices.specs.Bytes.{word}
use Rattle.slices.proofs.Stores.{store-next}
use Rattle.device.specs.Packing.{front_length, front_of, pack_of}
use Rattle.device.proofs.Calls.{length_front}
use Rattle.device.proofs.packing.write.Goals as goal

pub returns : goal.returns
unfolding pack_of
returns c =
    let d = c.args.d in
    store-next front_length (front_of d) (d.cycle.slots ++ (word d.cycle.named ++ d.locks)) _ c.write_front.ensures (length_front d) c.write_rest.ensures
