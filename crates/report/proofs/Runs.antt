-- The report as a call: what its number says, its promise in each case, and its one outcome.
-- Assumes nothing.
use mathlib.Core.Path.{◌≡◌, refl, sym, ◌∙◌}
use mathlib.Core.Bool.{Bool, true, false, cond, not, ◌||◌}
use mathlib.Core.List.{List}
use Prim.Native.Nat.{ℕ, zero, suc, ◌/◌, ◌≤◌, ◌<◌}
use native.Mathlib.Omega.{arith}
use borrow.Author.Tests.{eq-eqb, ne_eqb, ltb-true, ltb-false, lt-ltb, le-ltb}
use lib.Dec.{eqb, ltb}
use lib.ListN.{length, get_or}
use Rattle.slices.specs.Chosen.{on_zero}
use Rattle.slices.proofs.Choices.{other}
use Rattle.parts.specs.Parts.{figures_of}
use Rattle.device.specs.declared.Device.{Device}
use Rattle.device.specs.declared.Checked.{Checked}
use Rattle.device.specs.Chip.{chip}
use Rattle.device.specs.Device.{sound}
use Rattle.device.proofs.Outcomes.{same-checked}
use Rattle.batch.specs.Items.{items_of, all_good, events_of}
use Rattle.batch.specs.Batch.{room_for, missing_bytes, batch_number, carried_out, batched, Batched}
use Rattle.chip.specs.Events.{Good}
use Rattle.batch.proofs.Runs.{Accepted, accepted, accepting, or-last}
use Rattle.report.specs.Totals.{totals, total_bytes, exceeds, added}
use Rattle.report.specs.Report.{gained, report_number, Out, counted, reported, Reported}
use Rattle.report.specs.Found.{Counted}
use Rattle.report.proofs.Adding.{exceeds-same, added-same}

-- 71 comes last
split : (a b c t x : Bool)
    → ◌≡◌ {A = ℕ} (cond a 6 (cond b 2 (cond c 9 (cond t 10 (cond x 71 0))))) (on_zero (cond a 6 (cond b 2 (cond c 9 (cond t 10 0)))) (cond x 71 0) (cond a 6 (cond b 2 (cond c 9 (cond t 10 0)))))
split true b c t x = refl
split false true c t x = refl
split false false true t x = refl
split false false false true x = refl
split false false false false x = refl

-- 6, 2, 9, 10, 71, in that order: each is the answer where it applies and none before it does, whatever the rest
pub record InOrder (d : Device) (array items : List ℕ) (responses answers : ℕ) (held : List ℕ) : Type 0 where
  pub unsound : sound d ≡ false → report_number d array items responses answers held ≡ 6
  pub other-array : sound d ≡ true → (length array ≡ (figures_of d.part).bytes → ⊥) → report_number d array items responses answers held ≡ 2
  pub bad-item : Good (chip d array) → all_good (items_of items) ≡ false → report_number d array items responses answers held ≡ 9
  pub no_room : Good (chip d array) → all_good (items_of items) ≡ true → responses < room_for (events_of items) → report_number d array items responses answers held ≡ 10
  pub no-places : Good (chip d array) → all_good (items_of items) ≡ true → answers < length (events_of items) → report_number d array items responses answers held ≡ 10
  pub no-totals : Good (chip d array) → all_good (items_of items) ≡ true → length held < total_bytes → report_number d array items responses answers held ≡ 10
  pub too_large : Accepted d array items responses answers missing_bytes → total_bytes ≤ length held → exceeds (gained (events_of items) (chip d array)) held ≡ true → report_number d array items responses answers held ≡ 71
  pub none : Accepted d array items responses answers missing_bytes → total_bytes ≤ length held → exceeds (gained (events_of items) (chip d array)) held ≡ false → report_number d array items responses answers held ≡ 0

pub in_order : (d : Device) (array items : List ℕ) (responses answers : ℕ) (held : List ℕ) → InOrder d array items responses answers held
unfolding report_number
in_order d array items responses answers held =
    let bytes = (figures_of d.part).bytes in
    let room = room_for (events_of items) in
    let places = length (events_of items) in
    record {
      unsound = λ s. rw s;
      other-array = λ s n. rw (s, ne_eqb (length array) bytes n);
      bad-item = λ g f. rw (g.sound, eq-eqb (length array) bytes g.whole, f);
      no_room = λ g f h. rw (g.sound, eq-eqb (length array) bytes g.whole, f, lt-ltb responses room h);
      no-places = λ g f h. rw (g.sound, eq-eqb (length array) bytes g.whole, f, lt-ltb answers places h, or-last (ltb responses room));
      no-totals = λ g f h. rw (g.sound, eq-eqb (length array) bytes g.whole, f, lt-ltb (length held) total_bytes h, or-last (ltb responses room || ltb answers places));
      too_large = λ a h e. rw (a.good.sound, eq-eqb (length array) bytes a.good.whole, a.formed, le-ltb responses room a.room, le-ltb answers places a.places, le-ltb (length held) total_bytes h, e);
      none = λ a h e. rw (a.good.sound, eq-eqb (length array) bytes a.good.whole, a.formed, le-ltb responses room a.room, le-ltb answers places a.places, le-ltb (length held) total_bytes h, e);
    }

module _ (d : Device) (array items responses answers held : List ℕ) where
  -- the number of the others: each total has its 8 bytes where there are 2,824
  abbrev pub form : ℕ
  form = batch_number d (length array) items (length responses) (length answers) (length held / totals)

  abbrev pub number : ℕ
  number = report_number d array items (length responses) (length answers) held

  few_bytes : ltb (length held / totals) missing_bytes ≡ ltb (length held) total_bytes
  few_bytes = go (ltb (length held) total_bytes) refl
    where
      go : (b : Bool) → ltb (length held) total_bytes ≡ b → ltb (length held / totals) missing_bytes ≡ b
      go true e = let h = ltb-true (length held) total_bytes e in lt-ltb (length held / totals) missing_bytes (omega arith)
      go false e = let h = ltb-false (length held) total_bytes e in le-ltb (length held / totals) missing_bytes (omega arith)

  pub number-split : number ≡ on_zero form (cond (exceeds (gained (events_of items) (chip d array)) held) 71 0) form
  unfolding batch_number report_number
  number-split =
      rw few_bytes
      (split (not (sound d)) (not (eqb (length array) (figures_of d.part).bytes)) (not (all_good (items_of items)))
      (ltb (length responses) (room_for (events_of items)) || ltb (length answers) (length (events_of items)) || ltb (length held) total_bytes)
      (exceeds (gained (events_of items) (chip d array)) held))

  -- 6, 2, 9, 10
  pub number-form : (form ≡ 0 → ⊥) → number ≡ form
  number-form n = number-split ∙ sym (other form _ form n)

  -- none of them comes before 71 and 0
  pub number-none : number ≡ 0 → form ≡ 0
  number-none e = go form (sym number-split ∙ e)
    where
      go : (k : ℕ) → on_zero k (cond (exceeds (gained (events_of items) (chip d array)) held) 71 0) k ≡ 0 → k ≡ 0
      go zero h = refl
      go (suc k) h = h

  -- refused: nothing changes
  pub refused : (k : ℕ) → k ≡ number → (k ≡ 0 → ⊥) → Reported d array items responses answers held (record { answer = k; device = d }) array responses answers held
  unfolding reported
  refused k e n =
      let o : Out = record { chip = chip d array; responses = responses; answers = answers; totals = held } in
      let z : o ≡ reported number d array items responses answers held = other number (counted (events_of items) (chip d array) responses answers held) o (λ w. n (e ∙ w)) in
      record { answer = e; outcome = rw (← z) (record { device = refl; memory = refl; lines = refl; numbers = refl; sums = refl }) }

  module _ (z : form ≡ 0) {counts : List ℕ} (t : Counted (events_of items) d (length array) counts) where
    abbrev more : ℕ → ℕ
    more i = get_or counts i 0

    -- 71, or 0
    pub number-sums : number ≡ cond (exceeds more held) 71 0
    number-sums = rw (exceeds-same more held (gained (events_of items) (chip d array)) (t.each array refl)) (number-split ∙ rw z)

    pub sums-fit : number ≡ 0 → exceeds more held ≡ false
    sums-fit e = go (exceeds more held) (sym number-sums ∙ e)
      where
        go : (b : Bool) → ◌≡◌ {A = ℕ} (cond b 71 0) 0 → b ≡ false
        go true h = absurd (omega arith)
        go false h = refl

    -- not refused
    pub done : number ≡ 0 → {missing missing' : List ℕ} → missing_bytes ≤ length missing → {r : Checked} {array' responses' answers' held' : List ℕ}
        → Batched d array items responses answers missing r array' responses' answers' missing' → held' ≡ added more held → Reported d array items responses answers held r array' responses' answers' held'
    unfolding batched carried_out reported counted
    done n {missing} long p q =
        let k = accepted d array items (length responses) (length answers) (length held / totals) z in
        let y : batch_number d (length array) items (length responses) (length answers) (length missing) ≡ 0 = accepting (record { good = k.good; formed = k.formed; room = k.room; places = k.places; sum = long }) in
        let h = rw y at p.outcome in
        record {
          answer = p.answer ∙ (y ∙ sym n);
          outcome = rw n (record { device = h.device; memory = h.memory; lines = h.lines; numbers = h.numbers; sums = q ∙ added-same more held (gained (events_of items) (chip d array)) (t.each array refl) });
        }

-- the promise admits one outcome only
pub one-outcome : {d : Device} {array items responses answers held : List ℕ} {r s : Checked} {array' array'' responses' responses'' answers' answers'' held' held'' : List ℕ}
    → Reported d array items responses answers held r array' responses' answers' held' → Reported d array items responses answers held s array'' responses'' answers'' held''
    → (r ≡ s) × (array' ≡ array'') × (responses' ≡ responses'') × (answers' ≡ answers'') × (held' ≡ held'')
one-outcome p q = (
  same-checked (p.answer ∙ sym q.answer) (p.outcome.device ∙ sym q.outcome.device),
  p.outcome.memory ∙ sym q.outcome.memory,
  p.outcome.lines ∙ sym q.outcome.lines,
  p.outcome.numbers ∙ sym q.outcome.numbers,
  p.outcome.sums ∙ sym q.outcome.sums,
)
