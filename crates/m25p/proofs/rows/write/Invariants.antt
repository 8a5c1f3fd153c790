use mathlib.Core.Path.{◌≡◌}
use Prim.Native.Nat.{◌+◌, ◌*◌}
use Rattle.m25p.proofs.Records.{written}
use Rattle.m25p.proofs.rows.write.Given as goal

abbrev pub invariant-loop-record : goal.invariant-loop-record
invariant-loop-record l = (l.from ≡ (l.first + l.record-index) * 304) × (l.row ≡ written l.first l.record-index l.records l.initial.row)
