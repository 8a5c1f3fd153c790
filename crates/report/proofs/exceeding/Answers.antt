-- `report::exceeding` meets its contract.
use Rattle.std.proofs.Common.{◌≤◌, sym, ◌∙◌, arith, get_or, lt-ltb, le-ltb}
use Rattle.report.specs.Totals.{largest}
use Rattle.report.proofs.Adding.{some_next, some_exceeds, exceeds-end}
use Rattle.report.proofs.exceeding.Goals as goal

pub returns-then-long_at-n : goal.returns-then-long_at-n
returns-then-long_at-n c =
    let l = c.loop-i in
    let w = c.long_at in
    let t = c.if-long_at-n.true in
    let h : w.result ≤ largest = omega arith in
    sym (some_exceeds (λ k. get_or c.args.counts.now k 0) c.args.held.now l.i (omega arith) (lt-ltb _ _ (omega (arith, w.ensures))))

pub loop-i-preserved : goal.loop-i-preserved
loop-i-preserved c = some_next c.loop-i.i _ ∙ rw c.loop-i.invariant (le-ltb _ _ (omega (arith, c.long_at.ensures)))

pub returns : goal.returns
returns c =
    let l = c.loop-i in
    sym (sym (exceeds-end (λ k. get_or c.args.counts.now k 0) c.args.held.now l.i (omega arith)) ∙ l.invariant)
