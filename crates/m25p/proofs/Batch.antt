-- What the C call of a batch gives, by what unpacking answers; and that its promise admits one outcome only.
-- Assumes nothing.
use mathlib.Core.Path.{◌≡◌, sym, ap, ◌∙◌}
use mathlib.Core.List.{List}
use Prim.Native.Nat.{ℕ}
use lib.ListN.{length}
use Rattle.slices.specs.Changed.{map_at, stored}
use Rattle.slices.specs.Chosen.{on_zero}
use Rattle.slices.proofs.Choices.{other}
use Rattle.device.specs.declared.Checked.{Checked}
use Rattle.device.specs.Chip.{chip}
use Rattle.device.specs.Packing.{pack_of, unpack_of}
use Rattle.chip.specs.Outcome.{bare}
use Rattle.batch.specs.Items.{events_of}
use Rattle.batch.specs.Batch.{batch_number, Out, carried_out, batched, Batched}
use Rattle.batch.proofs.Theorems.{batch-sound}
use Rattle.m25p.specs.Calls.{packed_answer}
use Rattle.m25p.specs.Batch.{batch_c, batched_c, BatchedC}
use Rattle.m25p.proofs.Laws.{kept, turned-away, came-in, settled}

-- as the code goes: what unpacking gave, and the batch on it
module _ (packed array items responses answers missing : List ℕ) {came : Checked} (e : came ≡ unpack_of packed) where
  abbrev number : ℕ
  number = batch_c packed (length array) items (length responses) (length answers) (length missing)

  -- the packing is refused
  pub refused : {r : ℕ} → (came.answer ≡ 0 → ⊥) → r ≡ packed_answer (bare came.answer) → BatchedC packed array items responses answers missing r packed array responses answers missing
  unfolding batch_c batched_c batched
  refused {r} n h =
      let d = (unpack_of packed).device in
      let t = turned-away packed e (batch_number d (length array) items (length responses) (length answers) (length missing)) n h in
      let o : Out = record { chip = chip d array; responses = responses; answers = answers; missing = missing } in
      let s : o ≡ batched_c packed array items responses answers missing = other number (carried_out (events_of items) (chip d array) responses answers missing) o t.1 in
      record {
        answer = t.0;
        bytes = kept number (batched_c packed array items responses answers missing).chip.device packed t.1;
        memory = ap (λ (x : Out). x.chip.array) s;
        lines = ap (λ (x : Out). x.responses) s;
        numbers = ap (λ (x : Out). x.answers) s;
        sum = ap (λ (x : Out). x.missing) s;
      }

  -- the packing is that of a sound record
  pub carried : {done : Checked} {r : ℕ} {packed' array' responses' answers' missing' : List ℕ} → came.answer ≡ 0 → Batched came.device array items responses answers missing done array' responses' answers' missing'
      → packed' ≡ on_zero done.answer (map_at (stored 0 (pack_of done.device)) packed) packed → r ≡ packed_answer (bare done.answer) → BatchedC packed array items responses answers missing r packed' array' responses' answers' missing'
  unfolding batch_c batched_c
  carried {done} {r} {packed'} {array'} {responses'} {answers'} {missing'} z m p h =
      let x = came-in packed e z in
      let d = (unpack_of packed).device in
      let g : Batched d array items responses answers missing done array' responses' answers' missing' = rw (← e) m in
      let s = settled packed e z g.answer g.outcome.device (batch-sound g) p h in
      record {
        answer = rw x s.0;
        bytes = rw x s.1;
        memory = rw x g.outcome.memory;
        lines = rw x g.outcome.lines;
        numbers = rw x g.outcome.numbers;
        sum = rw x g.outcome.sum;
      }

-- the promise admits one outcome only
pub one-outcome : {packed array items responses answers missing : List ℕ} {r s : ℕ} {packed' packed'' array' array'' responses' responses'' answers' answers'' missing' missing'' : List ℕ}
    → BatchedC packed array items responses answers missing r packed' array' responses' answers' missing' → BatchedC packed array items responses answers missing s packed'' array'' responses'' answers'' missing''
    → (r ≡ s) × (packed' ≡ packed'') × (array' ≡ array'') × (responses' ≡ responses'') × (answers' ≡ answers'') × (missing' ≡ missing'')
one-outcome p q = (
  p.answer ∙ sym q.answer,
  p.bytes ∙ sym q.bytes,
  p.memory ∙ sym q.memory,
  p.lines ∙ sym q.lines,
  p.numbers ∙ sym q.numbers,
  p.sum ∙ sym q.sum,
)
