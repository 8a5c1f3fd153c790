-- `chip::line::respond` meets its contract.
use mathlib.Core.Path.{◌≡◌, refl, ap, ◌∙◌}
use Prim.Native.Nat.{◌≤◌}
use native.Mathlib.Omega.{arith}
use lib.ListN.{length}
use Rattle.slices.proofs.Parts.{lent_map}
use Rattle.chip.specs.Line.{heard_row, span_of}
use Rattle.chip.specs.declared.table.Row.{Row}
use Rattle.chip.specs.declared.table.Instruction.{Instruction}
use Rattle.chip.specs.declared.line.Span.{Span}
use Rattle.chip.proofs.Laws.{line-is}
use Rattle.chip.proofs.Lines.{span-is}
use Rattle.chip.proofs.line.respond.Goals as goal

pub returns : goal.returns
unfolding heard_row
returns c =
    let b = c in
    let start = b.min-start in
    let n = b.min-n in
    let s = b.span_of in
    let row = b.heard-row in
    let a = b.args in
    let asked = b.requires in
    let p = b.fill_part in
    let h : n.result ≤ length p.new.s = omega arith in
    let r : row.result ≡ heard_row a.device a.sent.now = row.ensures ∙ rw asked in
    let e : s.result ≡ span_of (heard_row a.device a.sent.now).drive (heard_row a.device a.sent.now).from (length a.sent.now) =
    s.ensures ∙ ap (λ (r : Row). span_of r.drive r.from (length a.sent.now)) r in
    let both = span-is a.device a.array.now a.sent.now (heard_row a.device a.sent.now).drive refl in
    record {
      first = ap (λ (t : Span). t.first) e ∙ both.0;
      count = ap (λ (t : Span). t.count) e ∙ both.1;
      line = lent_map start.result n.result p.new.s (omega arith) h _ c.put_driven.ensures
          ∙ line-is a.device a.array.now a.sent.now a.response.now row.result a.asked.figures a.asked.address n.result start.result r
          (ap (λ (i : Instruction). i.figures) asked) (rw asked) n.ensures start.ensures p.ensures;
    }
