-- The batch as a call: what its number says, its promise in either case, and its one outcome.
-- Assumes nothing.
use Rattle.std.proofs.Common.{◌≡◌, ℕ, ◌<◌, ◌≤◌, Bool, true, false, ◌||◌, eqb, ltb, List, length, sym, refl, ap, ◌∙◌, zero-add, ltb-false, le-ltb, lt-ltb, eq-eqb, ne_eqb, eqb-true}
use mathlib.Core.Bool.{false≢true}
use borrow.Author.Tests.{not-false}
use Rattle.slices.specs.Bytes.{long}
use Rattle.slices.specs.Changed.{map_at, stored}
use Rattle.slices.proofs.Choices.{past, other}
use Rattle.parts.specs.Parts.{figures_of}
use Rattle.device.specs.declared.Device.{Device}
use Rattle.device.specs.declared.Checked.{Checked}
use Rattle.device.specs.Chip.{chip}
use Rattle.device.specs.Device.{sound}
use Rattle.chip.specs.Events.{Good, missed}
use Rattle.batch.specs.declared.Tally.{Tally}
use Rattle.batch.specs.Items.{items_of, all_good, events_of}
use Rattle.batch.specs.Batch.{room_for, missing_bytes, wrapped, batch_number, Out, carried_out, batched, Batched}
use Rattle.batch.specs.Found.{carried_from, CarriedAs}

-- a batch that is not refused: every test passed
pub record Accepted (d : Device) (array items : List ℕ) (responses answers missing : ℕ) : Type 0 where
  pub good : Good (chip d array)
  pub formed : all_good (items_of items) ≡ true
  pub room : room_for (events_of items) ≤ responses
  pub places : length (events_of items) ≤ answers
  pub sum : missing_bytes ≤ missing

-- none of three tests
none_of : (a b c : Bool) → a || b || c ≡ false → (a ≡ false) × (b ≡ false) × (c ≡ false)
none_of false false c e = (refl, refl, e)
none_of false true c e = absurd (false≢true (sym e))
none_of true b c e = absurd (false≢true (sym e))

pub accepted : (d : Device) (array items : List ℕ) (responses answers missing : ℕ) → batch_number d (length array) items responses answers missing ≡ 0 → Accepted d array items responses answers missing
unfolding batch_number
accepted d array items responses answers missing h =
    let whole = eqb (length array) (figures_of d.part).bytes in
    let p6 = past _ 5 _ h in
    let p2 = past _ 1 _ p6.1 in
    let p9 = past _ 8 _ p2.1 in
    let p10 = past _ 9 _ p9.1 in
    let q = none_of (ltb responses (room_for (events_of items))) (ltb answers (length (events_of items))) (ltb missing missing_bytes) p10.0 in
    record {
      good = record { sound = not-false (sound d) p6.0; whole = eqb-true (length array) (figures_of d.part).bytes (not-false whole p2.0) };
      formed = not-false (all_good (items_of items)) p9.0;
      room = ltb-false responses (room_for (events_of items)) q.0;
      places = ltb-false answers (length (events_of items)) q.1;
      sum = ltb-false missing missing_bytes q.2;
    }

-- and the other way round: where every test passes there is no refusal
pub accepting : {d : Device} {array items : List ℕ} {responses answers missing : ℕ} → Accepted d array items responses answers missing → batch_number d (length array) items responses answers missing ≡ 0
unfolding batch_number
accepting {d} {array} {items} {responses} {answers} {missing} a =
    rw (a.good.sound, eq-eqb (length array) (figures_of d.part).bytes a.good.whole, a.formed, le-ltb responses (room_for (events_of items)) a.room, le-ltb answers (length (events_of items)) a.places, le-ltb missing missing_bytes a.sum)

pub or-last : (a : Bool) → a || true ≡ true
or-last true = refl
or-last false = refl

-- 6, 2, 9, 10, in that order: each is the answer where it applies and none before it does, whatever the rest
pub record InOrder (d : Device) (array : ℕ) (items : List ℕ) (responses answers missing : ℕ) : Type 0 where
  pub unsound : sound d ≡ false → batch_number d array items responses answers missing ≡ 6
  pub other-array : sound d ≡ true → (array ≡ (figures_of d.part).bytes → ⊥) → batch_number d array items responses answers missing ≡ 2
  pub bad-item : sound d ≡ true → array ≡ (figures_of d.part).bytes → all_good (items_of items) ≡ false → batch_number d array items responses answers missing ≡ 9
  pub no_room : sound d ≡ true → array ≡ (figures_of d.part).bytes → all_good (items_of items) ≡ true → responses < room_for (events_of items) → batch_number d array items responses answers missing ≡ 10
  pub no-places : sound d ≡ true → array ≡ (figures_of d.part).bytes → all_good (items_of items) ≡ true → answers < length (events_of items) → batch_number d array items responses answers missing ≡ 10
  pub no-sum : sound d ≡ true → array ≡ (figures_of d.part).bytes → all_good (items_of items) ≡ true → missing < missing_bytes → batch_number d array items responses answers missing ≡ 10

pub in_order : (d : Device) (array : ℕ) (items : List ℕ) (responses answers missing : ℕ) → InOrder d array items responses answers missing
unfolding batch_number
in_order d array items responses answers missing =
    let bytes = (figures_of d.part).bytes in
    record {
      unsound = λ s. rw s;
      other-array = λ s n. rw (s, ne_eqb array bytes n);
      bad-item = λ s a g. rw (s, eq-eqb array bytes a, g);
      no_room = λ s a g h. rw (s, eq-eqb array bytes a, g, lt-ltb responses (room_for (events_of items)) h);
      no-places = λ s a g h. rw (s, eq-eqb array bytes a, g, lt-ltb answers (length (events_of items)) h, or-last (ltb responses (room_for (events_of items))));
      no-sum = λ s a g h. rw (s, eq-eqb array bytes a, g, lt-ltb missing missing_bytes h, or-last (ltb responses (room_for (events_of items)) || ltb answers (length (events_of items))));
    }

module _ (d : Device) (array items responses answers missing : List ℕ) where
  abbrev number : ℕ
  number = batch_number d (length array) items (length responses) (length answers) (length missing)

  -- refused: nothing changes
  pub refused : (k : ℕ) → k ≡ number → (k ≡ 0 → ⊥) → Batched d array items responses answers missing (record { answer = k; device = d }) array responses answers missing
  unfolding batched
  refused k e n =
      let o : Out = record { chip = chip d array; responses = responses; answers = answers; missing = missing } in
      let z : o ≡ batched number d array items responses answers missing = other number (carried_out (events_of items) (chip d array) responses answers missing) o (λ w. n (e ∙ w)) in
      record { answer = e; outcome = rw (← z) (record { device = refl; memory = refl; lines = refl; numbers = refl; sum = refl }) }

  -- not refused
  pub done : number ≡ 0 → {r : Tally} {array' responses' answers' missing' : List ℕ} → CarriedAs (carried_from (events_of items) (chip d array) 0 responses 0 answers 0) r array' responses' answers'
      → missing' ≡ map_at (stored 0 (long r.missing)) missing → Batched d array items responses answers missing (record { answer = 0; device = r.device }) array' responses' answers' missing'
  unfolding batched carried_out carried_from
  done e {r} c m =
      let z = zero-add (missed (events_of items) (chip d array)) in
      record {
        answer = sym e;
        outcome = rw e (record { device = c.device; memory = c.memory; lines = c.lines; numbers = c.numbers; sum = m ∙ ap (λ (n : ℕ). map_at (stored 0 (long n)) missing) (c.missing ∙ ap wrapped z) });
      }

same-checked : {r s : Checked} → r.answer ≡ s.answer → r.device ≡ s.device → r ≡ s
same-checked {r} {s} a d = λ j. record { answer = a j; device = d j }

-- the promise admits one outcome only
pub one-outcome : {d : Device} {array items responses answers missing : List ℕ} {r s : Checked} {array' array'' responses' responses'' answers' answers'' missing' missing'' : List ℕ}
    → Batched d array items responses answers missing r array' responses' answers' missing' → Batched d array items responses answers missing s array'' responses'' answers'' missing''
    → (r ≡ s) × (array' ≡ array'') × (responses' ≡ responses'') × (answers' ≡ answers'') × (missing' ≡ missing'')
one-outcome p q = (
  same-checked (p.answer ∙ sym q.answer) (p.outcome.device ∙ sym q.outcome.device),
  p.outcome.memory ∙ sym q.outcome.memory,
  p.outcome.lines ∙ sym q.outcome.lines,
  p.outcome.numbers ∙ sym q.outcome.numbers,
  p.outcome.sum ∙ sym q.outcome.sum,
)
