-- `memory::fill_slots` meets its contract.
use mathlib.Core.Path.{sym, ◌∙◌}
use Prim.Native.Nat.{◌+◌}
use Rattle.memory.proofs.Laws.{filled_next, filled-end}
use Rattle.memory.proofs.fill_slots.Goals as goal

pub loop-k-preserved : goal.loop-k-preserved
loop-k-preserved c = let l = c.loop-k in sym (filled_next l.slots c.args.address l.k c.args.bytes.now c.loop-k-test.true) ∙ l.invariant

pub returns : goal.returns
returns c = let l = c.loop-k in filled-end l.slots (c.args.address + l.k) l.k c.args.bytes.now c.loop-k-test.false ∙ l.invariant
