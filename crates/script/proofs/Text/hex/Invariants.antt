use Rattle.std.proofs.Common.{◌≡◌, take}
use Rattle.script.specs.Answers.{hex_text}
use Rattle.script.specs.Steps.{Prints}
use Rattle.script.proofs.Text.hex.Given as goal

abbrev pub invariant-loop-b : goal.invariant-loop-b
invariant-loop-b l = record {
  same : l.self.bytes.ghost_name ≡ l.fn.self.bytes.ghost_name;
  printed : Prints (hex_text (take l.b-index l.bytes)) l.fn.self l.self;
}
