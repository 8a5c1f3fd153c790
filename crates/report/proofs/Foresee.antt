-- One item foreseen: what it gives is what its event gives, whatever stands in the array.
-- Assumes nothing.
use mathlib.Core.Path.{◌≡◌, refl, ap, ◌∙◌}
use mathlib.Core.Bool.{Bool}
use mathlib.Core.List.{List, [], ◌∷◌}
use Prim.Native.Nat.{ℕ, ◌+◌, ◌≤◌, ◌<◌}
use native.Mathlib.Omega.{arith}
use lib.Dec.{ltb}
use lib.ListN.{length, get_or, replicate, length-replicate}
use Rattle.slices.specs.Bytes.{word_at}
use Rattle.parts.specs.declared.Figures.{Figures}
use Rattle.parts.specs.Parts.{figures_of}
use Rattle.device.specs.declared.Device.{Device}
use Rattle.device.specs.declared.Checked.{Checked}
use Rattle.device.specs.Time.{WaitForeseen}
use Rattle.chip.specs.declared.Done.{Done}
use Rattle.chip.specs.Outcome.{Outcome, outcome_of, transacted, Foreseen}
use Rattle.chip.specs.Events.{sends, waits, sent}
use Rattle.chip.proofs.Laws.{count-le}
use Rattle.chip.proofs.Rules.{outcome-ind, answer-few}
use Rattle.batch.specs.Items.{flag_in, event_in}
use Rattle.batch.proofs.One.{waits-is}
use Rattle.report.specs.Totals.{Dealt, total_of, totals}
use Rattle.report.specs.Found.{Grown, Seen}
use Rattle.report.proofs.Counts.{cond-none}

-- nothing gives nothing
pub total-none : (f : Figures) (i : ℕ) → total_of f [] i ≡ 0
total-none f i = rw (cond-none (ltb i 289), cond-none (ltb i 288), cond-none (ltb i 256))

-- bytes, number and count alone are counted
pub total-same : (f : Figures) (s t : Dealt) (ts : List Dealt) (i : ℕ) → s.sent ≡ t.sent → s.answer.number ≡ t.answer.number → s.answer.count ≡ t.answer.count → total_of f (s ∷ ts) i ≡ total_of f (t ∷ ts) i
total-same f s t ts i b n c = rw (b, n, c)

-- a transaction drives no more bytes than it sends
pub count-few : (d : Device) (array bytes : List ℕ) (pulses : ℕ) (w : Bool) (response : List ℕ) → (transacted d array bytes pulses w response).answer.count ≤ length bytes
unfolding outcome_of
count-few d array bytes pulses w response =
    outcome-ind d array bytes pulses w response (λ (o : Outcome). o.answer.count ≤ length bytes) (λ a. omega arith) (λ h b. omega arith) (λ h t. count-le d array bytes)

module _ (d : Device) (array : ℕ) (part : ℕ) where
  -- a wait
  pub seen-ticks : (ticks : ℕ) (counts : List ℕ) → length counts ≡ totals → {r : Checked} → WaitForeseen d array ticks r → Seen (waits ticks) d array part counts r.device counts
  seen-ticks ticks counts long w xs l =
      record { device = w.device xs l; grown = record { long = long; each = λ i h. omega (arith, total-none (figures_of part) i) } }

  -- the same of an item that is a wait
  pub seen-waits : (item : List ℕ) → flag_in item ≡ 16 → (counts : List ℕ) → length counts ≡ totals → {r : Checked} → WaitForeseen d array (word_at item 3) r → Seen (event_in item) d array part counts r.device counts
  seen-waits item e counts long w xs l = rw (waits-is item e) (seen-ticks (word_at item 3) counts long w xs l)

  module _ (bytes : List ℕ) (pulses : ℕ) (w : Bool) {o : Done} (p : Foreseen d array bytes pulses w (length bytes) o.answer o.device) where
    abbrev zeros : List ℕ
    zeros = replicate (length bytes) 0

    room : length zeros ≡ length bytes
    room = length-replicate (length bytes) 0

    abbrev whole : List ℕ
    whole = replicate array 0

    -- its answer's numbers are few
    pub seen-number : o.answer.number < 32
    seen-number =
        omega (arith, p.number whole zeros (length-replicate array 0) room, (answer-few d whole bytes pulses w zeros).number)

    pub seen-count : o.answer.count ≤ length bytes
    seen-count =
        omega (arith, p.count whole zeros (length-replicate array 0) room, count-few d whole bytes pulses w zeros)

    -- a transaction
    pub seen-sends : {counts is : List ℕ} → Grown (figures_of part) (record { sent = bytes; answer = o.answer } ∷ []) counts is → Seen (sends bytes pulses w) d array part counts o.device is
    unfolding sent
    seen-sends {counts} {is} g xs l =
        let t : Dealt = record { sent = bytes; answer = o.answer } in
        let u : Dealt = record { sent = bytes; answer = (transacted d xs bytes pulses w zeros).answer } in
        record {
          device = p.device xs zeros l room;
          grown = record { long = g.long; each = λ i h. g.each i h ∙ ap (λ (k : ℕ). get_or counts i 0 + k) (total-same (figures_of part) t u [] i refl (p.number xs zeros l room) (p.count xs zeros l room)) };
        }
