-- `device::packing::unpack` meets its contract.
use mathlib.Core.Path.{◌≡◌}
use lib.ListN.{length}
use Rattle.device.proofs.Calls.{agreed-by}
use Rattle.device.specs.Packing.{packed_length, formed, unpack_answer, unpack_of}
use borrow.Author.Rules.{rules}
use Rattle.device.proofs.packing.unpack.Goals as goal

pub returns-in_default : goal.returns-in_default
unfolding unpack_of unpack_answer
returns-in_default c = search rules

pub returns-then-sound : goal.returns-then-sound
unfolding unpack_of unpack_answer
returns-then-sound c =
    let long : length c.args.packed.now ≡ packed_length = search rules in
    let same : c.in-Ok.b.now ≡ c.args.packed.now = search rules in
    let well : c.agrees.result ≡ formed c.in-Ok.b.now = agreed-by c.in-Ok.b.now (rw same long) c.fields-d.ensures c.agrees.ensures in
    search rules

pub returns-else-agrees : goal.returns-else-agrees
unfolding unpack_of unpack_answer
returns-else-agrees c =
    let long : length c.args.packed.now ≡ packed_length = search rules in
    let same : c.in-Ok.b.now ≡ c.args.packed.now = search rules in
    let well : c.agrees.result ≡ formed c.in-Ok.b.now = agreed-by c.in-Ok.b.now (rw same long) c.fields-d.ensures c.agrees.ensures in
    search rules
