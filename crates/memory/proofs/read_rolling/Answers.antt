-- `memory::read_rolling` meets its contract.
use mathlib.Core.Path.{◌≡◌, sym, ◌∙◌}
use mathlib.Core.Bool.{Bool, false}
use Prim.Native.Nat.{ℕ, ◌+◌, ◌%◌, ◌<◌}
use native.Mathlib.Nat.{add-zero, mod-lt}
use native.Mathlib.Omega.{arith}
use borrow.Author.Tests.{eqb-true, eqb-false}
use lib.Dec.{eqb}
use lib.ListN.{length}
use Rattle.slices.proofs.Windows.{window-start, window-end}
use Rattle.slices.proofs.Stores.{copied-stored}
use Rattle.memory.proofs.Laws.{round, rolls-on, rolled-none}
use Rattle.memory.proofs.read_rolling.Goals as goal

-- an array that is not empty
some : {n : ℕ} {r : Bool} → r ≡ eqb n 0 → r ≡ false → 0 < n
some {n} e f = let h = eqb-false n 0 (sym e ∙ f) in omega arith

pub returns-then-is_empty : goal.returns-then-is_empty
returns-then-is_empty c = c.fill.ensures ∙ rolled-none c.args.array.now c.args.address _ (eqb-true _ 0 (sym c.is_empty.ensures ∙ c.if-is_empty.true))

pub loop-from-init : goal.loop-from-init
loop-from-init c =
    let x = c.args in
    let n = length x.array.now in
    let at = x.address % n in
    let pos : 0 < n = some c.is_empty.ensures c.if-is_empty.false in
    let lt : at < n = mod-lt x.address pos in
    let p : at ≡ (x.address + 0) % n = rw add-zero in (
      round x.address 0 at _ n p (omega arith) (omega arith),
      c.copy.ensures ∙ rw c.after.ensures (copied-stored _ x.out.now) ∙ rolls-on x.array.now x.out.now x.address at 0 _ pos p (omega arith) (window-start 0 _ _),
    )

pub loop-from-preserved : goal.loop-from-preserved
loop-from-preserved c =
    let x = c.args in
    let l = c.loop-from in
    let pos : 0 < length x.array.now = some c.is_empty.ensures c.if-is_empty.false in (
      round x.address l.from 0 _ (length x.array.now) l.invariant.0 (omega arith) (omega arith),
      c.store.ensures ∙ rolls-on x.array.now x.out.now x.address 0 l.from _ pos l.invariant.0 (omega arith) l.invariant.1,
    )

pub returns-else-is_empty : goal.returns-else-is_empty
returns-else-is_empty c = c.loop-from.invariant.1 ∙ window-end c.loop-from.from _ _ (omega arith)

pub returns-else-is_empty-2 : goal.returns-else-is_empty-2
returns-else-is_empty-2 c =
    let x = c.args in
    let l = c.loop-from in
    let pos : 0 < length x.array.now = some c.is_empty.ensures c.if-is_empty.false in
    c.store.ensures ∙ rolls-on x.array.now x.out.now x.address 0 l.from (l.from + length x.array.now) pos l.invariant.0 (omega arith) l.invariant.1 ∙ window-end _ _ _ (omega arith)
