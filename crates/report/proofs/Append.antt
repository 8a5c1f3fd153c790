-- THEOREM: where a report is not refused, chip, responses and answers are those of the batch; two reports one after the other, neither refused, are the report of both; and one that is not refused may be cut in two behind any item.
-- Assumes nothing.
use mathlib.Core.Path.{◌≡◌, refl, sym, ◌∙◌}
use mathlib.Core.Bool.{Bool, true, false, cond}
use mathlib.Core.List.{List, ◌++◌}
use Prim.Native.Nat.{ℕ, zero, suc, ◌+◌, ◌/◌, ◌≤◌, ◌<◌}
use native.Mathlib.Omega.{arith}
use lib.Dec.{lit≤}
use lib.ListN.{length, take, drop, replicate}
use Rattle.slices.specs.Bytes.{long}
use Rattle.slices.specs.Changed.{map_at, stored}
use Rattle.slices.specs.Chosen.{on_zero}
use Rattle.device.specs.declared.Device.{Device}
use Rattle.device.specs.declared.Checked.{Checked}
use Rattle.device.specs.Chip.{chip}
use Rattle.chip.specs.Events.{run, missed}
use Rattle.batch.specs.Items.{items_of, all_good, events_of}
use Rattle.batch.specs.Batch.{room_for, missing_bytes, wrapped, batch_number, carried_out, batched, Batched}
use Rattle.batch.proofs.Runs.{Accepted, accepted, accepting}
use Rattle.batch.proofs.Append.{events-append, two-batches}
use Rattle.batch.proofs.Append as batches
use Rattle.report.specs.Totals.{totals, total_bytes, exceeds, added}
use Rattle.report.specs.Report.{gained, counted, reported, Reported}
use Rattle.report.proofs.Sums.{gained-both}
use Rattle.report.proofs.Adding.{none-exceeds, all_fit, exceeds-same, length-added, added-same, added-both, both-fit}
use Rattle.report.proofs.Runs.{form, number, number-split}
use Rattle.report.proofs.Theorems.{taken}

-- ---- a report that is not refused

pub record Passed (d : Device) (array items responses answers held : List ℕ) : Type 0 where
  pub batch : Accepted d array items (length responses) (length answers) missing_bytes
  pub long : total_bytes ≤ length held
  pub fits : exceeds (gained (events_of items) (chip d array)) held ≡ false

module _ (d : Device) (array items responses answers held : List ℕ) where
  pub passed : number d array items responses answers held ≡ 0 → Passed d array items responses answers held
  passed z =
      let p = last (form d array items responses answers held) (exceeds (gained (events_of items) (chip d array)) held) (sym (number-split d array items responses answers held) ∙ z) in
      let a = accepted d array items (length responses) (length answers) (length held / totals) p.0 in
      record { batch = record { good = a.good; formed = a.formed; room = a.room; places = a.places; sum = lit≤ tt }; long = omega (arith, a.sum); fits = p.1 }
    where
      last : (k : ℕ) (x : Bool) → on_zero k (cond x 71 0) k ≡ 0 → (k ≡ 0) × (x ≡ false)
      last zero true e = absurd (omega arith)
      last zero false e = (refl, refl)
      last (suc k) x e = absurd (omega arith)

  pub passing : Passed d array items responses answers held → number d array items responses answers held ≡ 0
  passing p =
      let a = p.batch in
      let z : form d array items responses answers held ≡ 0 = accepting (record { good = a.good; formed = a.formed; room = a.room; places = a.places; sum = omega (arith, p.long) }) in
      number-split d array items responses answers held ∙ rw (z, p.fits)

-- THEOREM: chip, responses and answers are those of the batch
pub as-batch : {d : Device} {array items responses answers held : List ℕ} {r : Checked} {array' responses' answers' held' : List ℕ} → Reported d array items responses answers held r array' responses' answers' held' → r.answer ≡ 0
    → (missing : List ℕ) → missing_bytes ≤ length missing → Batched d array items responses answers missing r array' responses' answers' (map_at (stored 0 (long (wrapped (missed (events_of items) (chip d array))))) missing)
unfolding batched carried_out counted
as-batch {d} {array} {items} {responses} {answers} {held} p z missing l =
    let a = (passed d array items responses answers held (sym p.answer ∙ z)).batch in
    let n : batch_number d (length array) items (length responses) (length answers) (length missing) ≡ 0 = accepting (record { good = a.good; formed = a.formed; room = a.room; places = a.places; sum = l }) in
    let h = taken p z in
    record { answer = z ∙ sym n; outcome = rw n (record { device = h.device; memory = h.memory; lines = h.lines; numbers = h.numbers; sum = refl }) }

-- and the other way round: a batch that is not refused, counted
pub from-batch : {d : Device} {array items responses answers missing : List ℕ} {r : Checked} {array' responses' answers' missing' : List ℕ} → Batched d array items responses answers missing r array' responses' answers' missing' → r.answer ≡ 0
    → (held : List ℕ) → total_bytes ≤ length held → exceeds (gained (events_of items) (chip d array)) held ≡ false
    → Reported d array items responses answers held r array' responses' answers' (added (gained (events_of items) (chip d array)) held)
unfolding batched carried_out reported counted
from-batch {d} {array} {items} {responses} {answers} {missing} p z held l e =
    let m = sym p.answer ∙ z in
    let a = accepted d array items (length responses) (length answers) (length missing) m in
    let n = passing d array items responses answers held (record { batch = record { good = a.good; formed = a.formed; room = a.room; places = a.places; sum = lit≤ tt }; long = l; fits = e }) in
    let h = rw m at p.outcome in
    record { answer = z ∙ sym n; outcome = rw n (record { device = h.device; memory = h.memory; lines = h.lines; numbers = h.numbers; sums = refl }) }

-- ---- two reports

-- what both give, from here
module _ (d : Device) (array a b : List ℕ) where
  abbrev first : ℕ → ℕ
  first = gained (events_of a) (chip d array)

  abbrev second : ℕ → ℕ
  second = gained (events_of b) (run (events_of a) (chip d array))

  both-gained : all_good (items_of a) ≡ true → (i : ℕ) → i < totals → gained (events_of (a ++ b)) (chip d array) i ≡ first i + second i
  both-gained g i h = rw (events-append a b g) (gained-both (events_of a) (events_of b) (chip d array) i)

  module _ (held : List ℕ) (g : all_good (items_of a) ≡ true) (l : total_bytes ≤ length held) (e : exceeds first held ≡ false) where
    both-exceed : exceeds (gained (events_of (a ++ b)) (chip d array)) held ≡ exceeds second (added first held)
    both-exceed = exceeds-same (gained (events_of (a ++ b)) (chip d array)) held (λ i. first i + second i) (both-gained g) ∙ sym (both-fit first held l e second)

    both-added : added (gained (events_of (a ++ b)) (chip d array)) held ≡ added second (added first held)
    both-added = added-same (gained (events_of (a ++ b)) (chip d array)) held (λ i. first i + second i) (both-gained g) ∙ sym (added-both first held l e second)

abbrev zeros : List ℕ
zeros = replicate missing_bytes 0

module _ (d : Device) (array a b responses answers held : List ℕ) where
  abbrev pub room : ℕ
  room = room_for (events_of a)

  abbrev pub count : ℕ
  count = length (events_of a)

  module _ {r s : Checked} {array' responses' answers' held' array'' responses'' answers'' held'' : List ℕ}
      (p : Reported d array a responses answers held r array' responses' answers' held') (x : r.answer ≡ 0)
      (q : Reported r.device array' b (drop room responses') (drop count answers') held' s array'' responses'' answers'' held'') (y : s.answer ≡ 0) where
    -- THEOREM: the second report goes on from the chip and the totals that the first left, and is lent what the first left over of responses and answers: that is the report of both
    pub two-reports : Reported d array (a ++ b) responses answers held s array'' (take room responses' ++ responses'') (take count answers' ++ answers'') held''
    unfolding counted
    two-reports =
        let f = passed d array a responses answers held (sym p.answer ∙ x) in
        let g = passed r.device array' b (drop room responses') (drop count answers') held' (sym q.answer ∙ y) in
        let h = taken p x in
        let c = chip d array in
        let z : exceeds (second d array a b) (added (first d array a b) held) ≡ false = rw (h.device, h.memory, h.sums) at g.fits in
        let k = from-batch (two-batches d array a b responses answers zeros (as-batch p x zeros (lit≤ tt)) x (as-batch q y zeros (lit≤ tt)) y) y held f.long (both-exceed d array a b held f.batch.formed f.long f.fits ∙ z) in
        let w : held'' ≡ added (second d array a b) (added (first d array a b) held) = rw (h.device, h.memory, h.sums) at (taken q y).sums in
        rw (w, ← both-added d array a b held f.batch.formed f.long f.fits) k

-- ---- cut in two

-- a report that is not refused, and its first items
module _ (d : Device) (array a b responses answers held : List ℕ) (g : all_good (items_of a) ≡ true) (z : number d array (a ++ b) responses answers held ≡ 0) where
  whole : Passed d array (a ++ b) responses answers held
  whole = passed d array (a ++ b) responses answers held z

  whole-batch : batch_number d (length array) (a ++ b) (length responses) (length answers) missing_bytes ≡ 0
  whole-batch = accepting whole.batch

  first_fits : exceeds (first d array a b) held ≡ false
  first_fits = all_fit (first d array a b) held (λ i h. omega (arith, none-exceeds (gained (events_of (a ++ b)) (chip d array)) held whole.fits i h, both-gained d array a b g i h))

  -- THEOREM: these alone are not refused either
  pub first_goes : number d array a responses answers held ≡ 0
  first_goes =
      passing d array a responses answers held
      (record { batch = accepted d array a _ _ _ (batches.first_goes d array a b responses answers zeros g whole-batch); long = whole.long; fits = first_fits })

  -- THEOREM: nor are the others behind them, on what they leave
  pub rest_goes : {r : Checked} {array' responses' answers' held' : List ℕ} → Reported d array a responses answers held r array' responses' answers' held'
      → number r.device array' b (drop (room_for (events_of a)) responses') (drop (length (events_of a)) answers') held' ≡ 0
  unfolding counted
  rest_goes {r} {array'} {responses'} {answers'} {held'} p =
      let x = p.answer ∙ first_goes in
      let h = taken p x in
      let n = batches.rest_goes d array a b responses answers zeros g whole-batch zeros (as-batch p x zeros (lit≤ tt)) (lit≤ tt) in
      passing r.device array' b (drop (room_for (events_of a)) responses') (drop (length (events_of a)) answers') held'
      (record {
        batch = accepted r.device array' b _ _ _ n;
        long = rw h.sums (omega (arith, whole.long, length-added (first d array a b) held totals));
        fits = rw (h.device, h.memory, h.sums) (sym (both-exceed d array a b held g whole.long first_fits) ∙ whole.fits);
      })
