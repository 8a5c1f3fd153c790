use Rattle.std.proofs.Common.{◌≡◌, take}
use Rattle.script.specs.Steps.{Prints}
use Rattle.script.proofs.Text.put.Given as goal

abbrev pub invariant-loop-b : goal.invariant-loop-b
invariant-loop-b l = record {
  same : l.self.bytes.ghost_name ≡ l.fn.self.bytes.ghost_name;
  printed : Prints (take l.b-index l.line) l.fn.self l.self;
}
