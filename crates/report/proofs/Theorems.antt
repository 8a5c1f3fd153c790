-- What follows from the promise of a report: a refused one changes nothing, the record stays sound, chip and buffers are those of a batch, and each total reads back.
-- Assumes nothing.
use mathlib.Core.Path.{◌≡◌, refl, sym, ◌∙◌}
use mathlib.Core.Bool.{true}
use mathlib.Core.List.{List}
use Prim.Native.Nat.{ℕ, zero, suc}
use lib.ListN.{length}
use Rattle.slices.proofs.Choices.{zero-ind}
use Rattle.device.specs.declared.Device.{Device}
use Rattle.device.specs.declared.Checked.{Checked}
use Rattle.device.specs.Chip.{Chip, chip}
use Rattle.device.specs.Device.{sound}
use Rattle.chip.proofs.Events.{run-keeps, after-sound}
use Rattle.batch.specs.Items.{events_of}
use Rattle.report.specs.Report.{report_number, Out, counted, reported, Holds, Reported}

module _ {d : Device} {array items responses answers held : List ℕ} {r : Checked} {array' responses' answers' held' : List ℕ} (p : Reported d array items responses answers held r array' responses' answers' held') where
  abbrev number : ℕ
  number = report_number d array items (length responses) (length answers) held

  -- a sound record stays sound, refused or not
  pub report-sound : sound d ≡ true → sound r.device ≡ true
  unfolding reported counted
  report-sound s =
      rw p.outcome.device
      (zero-ind (λ (o : Out). sound o.chip.device ≡ true) number (run-keeps (λ (c : Chip). sound c.device ≡ true) after-sound (events_of items) (chip d array) s) s)

  -- THEOREM: a refused report changes nothing: neither record, array, responses nor answers, nor a byte of the totals
  pub refused-stays : (r.answer ≡ 0 → ⊥) → (r.device ≡ d) × (array' ≡ array) × (responses' ≡ responses) × (answers' ≡ answers) × (held' ≡ held)
  unfolding reported
  refused-stays n = go number (λ z. n (p.answer ∙ z)) p.outcome
    where
      go : (k : ℕ) → (k ≡ 0 → ⊥) → Holds (reported k d array items responses answers held) r.device array' responses' answers' held'
          → (r.device ≡ d) × (array' ≡ array) × (responses' ≡ responses) × (answers' ≡ answers) × (held' ≡ held)
      go zero m h = absurd (m refl)
      go (suc k) m h = (h.device, h.memory, h.lines, h.numbers, h.sums)

  -- where it answers 0: its events carried out and counted
  pub taken : r.answer ≡ 0 → Holds (counted (events_of items) (chip d array) responses answers held) r.device array' responses' answers' held'
  unfolding reported
  taken z = let n = sym p.answer ∙ z in rw n at p.outcome
