-- `report::count` meets its contract.
use Rattle.std.proofs.Common.{sym, ◌∙◌, arith, eq-eqb}
use Rattle.parts.specs.Parts.{figures_of}
use Rattle.report.specs.Totals.{Dealt}
use Rattle.report.proofs.Counts.{spare-after, spare-one, sector-few, grown-program}
use Rattle.report.proofs.count.Goals as goal

pub overflow_add-sector_in : goal.overflow_add-sector_in
overflow_add-sector_in c = record { fits = omega (arith, c.sector_in.ensures, sector-few c.args.part c.args.sent.now) }

pub raise-requires-then-code-eq-PROGRAM : goal.raise-requires-then-code-eq-PROGRAM
raise-requires-then-code-eq-PROGRAM c =
    let p = spare-after c.requires.0 c.raise.ensures (omega arith) in
    let q = spare-after p c.raise-2.ensures (omega arith) in
    let r = spare-after q c.raise-then-answer-eq0.ensures (omega arith) in
    (omega (arith, r.long, c.sector_in.ensures, sector-few c.args.part c.args.sent.now), spare-one r (omega arith) _)

pub returns-then-code-eq-PROGRAM : goal.returns-then-code-eq-PROGRAM
returns-then-code-eq-PROGRAM c =
    let a = c.args in
    let t : Dealt = record { sent = a.sent.now; answer = a.answer } in
    let k = c.byte_at-code.ensures in
    grown-program (figures_of a.part) t c.requires.1 (c.type_inv.sent 0).fits c.requires.0.long (rw c.from.ensures at c.raise.ensures) (rw c.from-2.ensures at c.raise-2.ensures) (eq-eqb _ 0 c.if-answer-eq0.true) (rw (c.from-then-answer-eq0.ensures, k) at c.raise-then-answer-eq0.ensures) (eq-eqb _ 2 (sym k ∙ c.if-code-eq-PROGRAM.true)) (rw c.sector_in.ensures at c.raise-then-code-eq-PROGRAM.ensures)
