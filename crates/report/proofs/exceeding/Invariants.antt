use Rattle.std.proofs.Common.{◌≡◌, ◌+◌, false, ltb, get_or}
use Rattle.report.specs.Totals.{largest, total_in, some_below}
use Rattle.report.proofs.exceeding.Given as goal

abbrev pub invariant-loop-i : goal.invariant-loop-i
invariant-loop-i l = some_below l.i (λ k. ltb largest (total_in l.held k + get_or l.counts k 0)) ≡ false
