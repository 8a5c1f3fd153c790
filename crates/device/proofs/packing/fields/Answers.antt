-- `device::packing::fields` meets its contract.
use mathlib.Core.Path.{◌≡◌}
use native.Mathlib.Omega.{arith}
use lib.ListN.{take, drop, length-drop}
use lib.Seq.{take_all}
use Rattle.device.specs.Locks.{registers}
use Rattle.device.specs.Packing.{locks_place, fields_of}
use borrow.Author.Rules.{rules}
use Rattle.device.proofs.packing.fields.Goals as goal

pub returns : goal.returns
unfolding fields_of
returns c =
    let b = c.args.b.now in
    let rest : take registers (drop locks_place b) ≡ drop locks_place b = take_all registers (drop locks_place b) (omega (arith, c.told-b, length-drop locks_place b)) in
    search rules
