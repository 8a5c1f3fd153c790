-- What the C call of a report gives, by what unpacking answers; that its promise admits one outcome only; and what is read back from its bytes.
-- Assumes nothing.
use mathlib.Core.Path.{◌≡◌, refl, sym, ap, ◌∙◌}
use mathlib.Core.Bool.{true}
use mathlib.Core.List.{List}
use Prim.Native.Nat.{ℕ, zero, suc}
use lib.ListN.{length}
use Rattle.slices.specs.Changed.{map_at, stored}
use Rattle.slices.specs.Chosen.{on_zero}
use Rattle.slices.proofs.Choices.{other}
use Rattle.device.specs.declared.Device.{Device}
use Rattle.device.specs.declared.Checked.{Checked}
use Rattle.device.specs.Chip.{Chip, chip}
use Rattle.device.specs.Device.{sound}
use Rattle.device.specs.Packing.{pack_of, unpack_of}
use Rattle.device.proofs.Inverse.{unpack-pack}
use Rattle.device.proofs.Outcomes.{same-checked}
use Rattle.chip.specs.Outcome.{bare}
use Rattle.chip.proofs.Events.{run-keeps, after-sound}
use Rattle.batch.specs.Items.{events_of}
use Rattle.report.specs.Report.{report_number, Out, counted, reported, Reported}
use Rattle.report.proofs.Theorems.{report-sound}
use Rattle.m25p.specs.Calls.{packed_answer, packed_by}
use Rattle.m25p.specs.Report.{report_c, reported_c, ReportedC}
use Rattle.m25p.proofs.Laws.{named, unpacked-sound, kept, turned-away, came-in, settled}

-- as the code goes: what unpacking gave, and the report on it
module _ (packed array items responses answers totals : List ℕ) {came : Checked} (e : came ≡ unpack_of packed) where
  abbrev number : ℕ
  number = report_c packed array items (length responses) (length answers) totals

  -- the packing is refused
  pub refused : {r : ℕ} → (came.answer ≡ 0 → ⊥) → r ≡ packed_answer (bare came.answer) → ReportedC packed array items responses answers totals r packed array responses answers totals
  unfolding report_c reported_c reported
  refused {r} n h =
      let d = (unpack_of packed).device in
      let t = turned-away packed e (report_number d array items (length responses) (length answers) totals) n h in
      let o : Out = record { chip = chip d array; responses = responses; answers = answers; totals = totals } in
      let s : o ≡ reported_c packed array items responses answers totals = other number (counted (events_of items) (chip d array) responses answers totals) o t.1 in
      record {
        answer = t.0;
        bytes = kept number (reported_c packed array items responses answers totals).chip.device packed t.1;
        memory = ap (λ (x : Out). x.chip.array) s;
        lines = ap (λ (x : Out). x.responses) s;
        numbers = ap (λ (x : Out). x.answers) s;
        sums = ap (λ (x : Out). x.totals) s;
      }

  -- the packing is that of a sound record
  pub carried : {done : Checked} {r : ℕ} {packed' array' responses' answers' totals' : List ℕ} → came.answer ≡ 0 → Reported came.device array items responses answers totals done array' responses' answers' totals'
      → packed' ≡ on_zero done.answer (map_at (stored 0 (pack_of done.device)) packed) packed → r ≡ packed_answer (bare done.answer) → ReportedC packed array items responses answers totals r packed' array' responses' answers' totals'
  unfolding report_c reported_c
  carried {done} {r} {packed'} {array'} {responses'} {answers'} {totals'} z m p h =
      let x = came-in packed e z in
      let d = (unpack_of packed).device in
      let g : Reported d array items responses answers totals done array' responses' answers' totals' = rw (← e) m in
      let s = settled packed e z g.answer g.outcome.device (report-sound g) p h in
      record {
        answer = rw x s.0;
        bytes = rw x s.1;
        memory = rw x g.outcome.memory;
        lines = rw x g.outcome.lines;
        numbers = rw x g.outcome.numbers;
        sums = rw x g.outcome.sums;
      }

-- the promise admits one outcome only
pub one-outcome : {packed array items responses answers totals : List ℕ} {r s : ℕ} {packed' packed'' array' array'' responses' responses'' answers' answers'' totals' totals'' : List ℕ}
    → ReportedC packed array items responses answers totals r packed' array' responses' answers' totals' → ReportedC packed array items responses answers totals s packed'' array'' responses'' answers'' totals''
    → (r ≡ s) × (packed' ≡ packed'') × (array' ≡ array'') × (responses' ≡ responses'') × (answers' ≡ answers'') × (totals' ≡ totals'')
one-outcome p q = (
  p.answer ∙ sym q.answer,
  p.bytes ∙ sym q.bytes,
  p.memory ∙ sym q.memory,
  p.lines ∙ sym q.lines,
  p.numbers ∙ sym q.numbers,
  p.sums ∙ sym q.sums,
)

-- ---- read back

module _ {packed array items responses answers totals : List ℕ} {r : ℕ} {packed' array' responses' answers' totals' : List ℕ} (p : ReportedC packed array items responses answers totals r packed' array' responses' answers' totals')
    (z : (unpack_of packed).answer ≡ 0) where
  abbrev record-in : Device
  record-in = (unpack_of packed).device

  -- the packing of a sound record stays one: what is read from it is the record that the report leaves, refused or not
  pub report-reads-back : unpack_of packed' ≡ record { answer = 0; device = (reported_c packed array items responses answers totals).chip.device }
  unfolding reported_c reported counted
  report-reads-back = go (report_c packed array items (length responses) (length answers) totals) p.bytes
    where
      go : (k : ℕ) → packed' ≡ packed_by k (reported k record-in array items responses answers totals).chip.device packed
          → unpack_of packed' ≡ record { answer = 0; device = (reported k record-in array items responses answers totals).chip.device }
      go zero e = ap unpack_of e ∙ unpack-pack _ (run-keeps (λ (c : Chip). sound c.device ≡ true) after-sound (events_of items) (chip record-in array) (unpacked-sound packed z))
      go (suc k) e = ap unpack_of e ∙ same-checked z refl

  -- THEOREM: so the C call is a report on the record that is read from its bytes, and `Week` speaks of C calls, too
  pub report-is-a-step : Reported record-in array items responses answers totals (record { answer = report_c packed array items (length responses) (length answers) totals; device = (unpack_of packed').device }) array' responses' answers' totals'
  unfolding report_c reported_c
  report-is-a-step =
      let x = sym (named packed) ∙ z in
      let d = rw x at (ap (λ (c : Checked). c.device) report-reads-back) in
      rw x (record { answer = refl; outcome = record { device = d; memory = rw x at p.memory; lines = rw x at p.lines; numbers = rw x at p.numbers; sums = rw x at p.sums } })
