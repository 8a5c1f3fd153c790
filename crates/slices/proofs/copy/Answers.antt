-- `slices::copy` meets its contract.
use mathlib.Core.Path.{◌≡◌, ◌∙◌}
use Prim.Native.Nat.{◌≤◌, ◌<◌}
use native.Mathlib.Omega.{arith}
use lib.ListN.{length, get_or, take, get_or-eq_default}
use lib.Seq.{length-take-le, get_or-take}
use Rattle.slices.proofs.Windows.{window-start, loop-step, window-rest}
use Rattle.slices.proofs.Maps.{get_d_any}
use borrow.Author.Rules.{rules}
use Rattle.slices.proofs.copy.Goals as goal

pub loop-i-init : goal.loop-i-init
loop-i-init c = (search rules, window-start 0 _ _)

pub loop-i-preserved : goal.loop-i-preserved
loop-i-preserved c =
    let out₀ = c.args.out.now in
    let src = c.args.src.now in
    let i = c.loop-i.i in
    let n = c.min-n.result in
    let l : length (take n src) ≡ n = length-take-le n src (omega arith) in
    let m : i < n = omega (arith, l) in
    let h : i < length out₀ = omega arith in
    let k : i < length src = omega arith in
    (search rules, loop-step 0 i _ out₀ _ c.loop-i.invariant.1 (omega arith) h (get_or-take n src i 0 m ∙ get_d_any src i _ _ k))

pub returns : goal.returns
returns c =
    let out₀ = c.args.out.now in
    let src = c.args.src.now in
    let n = c.min-n.result in
    let l : length (take n src) ≡ n = length-take-le n src (omega arith) in
    c.loop-i.invariant.1
    ∙ window-rest c.loop-i.i (get_or src) out₀ (λ i h lt. let k : length src ≤ i = omega (arith, l) in get_or-eq_default src _ k)
