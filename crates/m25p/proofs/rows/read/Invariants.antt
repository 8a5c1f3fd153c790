use mathlib.Core.Path.{◌≡◌}
use lib.ListN.{length, take}
use Rattle.m25p.specs.Bus.{records_in}
use Rattle.m25p.proofs.rows.read.Given as goal

abbrev pub invariant-loop-at : goal.invariant-loop-at
invariant-loop-at l = (length l.records ≡ 9) × (take l.at l.records ≡ take l.at (records_in l.row))
