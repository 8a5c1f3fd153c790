-- `memory::change_part` meets its contract.
use mathlib.Core.Path.{ap, ◌∙◌}
use mathlib.Core.List.{List}
use Prim.Native.Nat.{ℕ, ◌+◌, ◌-◌, ◌<◌, ◌≤◌}
use native.Mathlib.Omega.{arith}
use lib.ListN.{length, get_or, take, drop}
use Rattle.slices.proofs.Windows.{window-start, window-next, loop-step, window-end, window-clamp}
use Rattle.slices.proofs.Parts.{length-lent, lent-placed}
use borrow.Author.Rules.{rules}
use Rattle.memory.proofs.change_part.Goals as goal

pub loop-k-init : goal.loop-k-init
loop-k-init g c f h = window-start 0 _ _

pub loop-k-preserved : goal.loop-k-preserved
loop-k-preserved g c f h =
    let start = c.min-start.result in
    let part₀ = take (start + c.min.result - start) (drop start c.args.array.now) in
    let k = c.loop-k.k in
    let e = c.loop-k.invariant f h in
    let lt = c.loop-k-test.true in
    let here : start + k < length c.args.array.now = omega (arith, length-lent start (start + c.min.result) c.args.array.now (omega arith) (omega arith)) in
    loop-step 0 k (λ j x. f (start + j) x) part₀ _ e (omega arith) lt
    (h (start + k) (get_or c.loop-k.part k 0) c.change.result here (search rules) c.change.ensures ∙ ap (f (start + k)) (ap (λ (t : List ℕ). get_or t k 0) e ∙ window-next 0 k _ part₀ lt))

pub returns : goal.returns
returns g c f h =
    let a = c.args in
    let n = c.min in
    let start = c.min-start in
    let le : start.result + n.result ≤ length a.array.now = omega arith in
    lent-placed start.result (start.result + n.result) a.array.now (omega arith) le f (c.loop-k.invariant f h ∙ window-end c.loop-k.k _ _ c.loop-k-test.false)
    ∙ window-clamp a.from a.count start.result n.result f a.array.now start.ensures n.ensures
