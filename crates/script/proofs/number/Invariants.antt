use Rattle.std.proofs.Common.{◌≡◌, ◌<◌, drop}
use Rattle.script.specs.Lines.{number_from, number_of}
use Rattle.script.proofs.number.Given as goal

abbrev pub invariant-loop-x : goal.invariant-loop-x
invariant-loop-x l = record {
  small : l.v < 4294967296;
  so_far : number_from l.v (drop l.x-index l.text) ≡ number_of l.text;
}
