use Rattle.std.proofs.Common.{◌≡◌, get_or}
use Rattle.slices.specs.Changed.{map_at, window}
use Rattle.script.specs.Lines.{pairs}
use Rattle.script.proofs.store.Given as goal

abbrev pub invariant-loop-i : goal.invariant-loop-i
invariant-loop-i l = l.byte-items ≡ map_at (window 0 l.i (get_or (pairs l.text))) l.initial.byte-items
