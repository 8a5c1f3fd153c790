use Rattle.std.proofs.Common.{◌≡◌, get_or}
use Rattle.report.specs.Totals.{added_to}
use Rattle.report.proofs.add_all.Given as goal

abbrev pub invariant-loop-i : goal.invariant-loop-i
invariant-loop-i l = l.held ≡ added_to l.i (λ k. get_or l.counts k 0) l.initial.held
