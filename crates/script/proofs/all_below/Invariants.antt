use mathlib.Core.Path.{◌≡◌}
use mathlib.Core.Bool.{◌&&◌}
use lib.ListN.{drop}
use Rattle.script.specs.Lines.{all_below}
use Rattle.script.proofs.all_below.Given as goal

abbrev pub invariant-loop-x : goal.invariant-loop-x
invariant-loop-x l = l.all && all_below l.base (drop l.x-index l.text) ≡ all_below l.base l.text
