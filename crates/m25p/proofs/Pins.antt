-- What the C call of raw pins gives, by what unpacking answers; and that its promise admits one outcome only.
-- Assumes nothing.
use mathlib.Core.Path.{◌≡◌, refl, sym, ap, ◌∙◌}
use mathlib.Core.List.{List}
use Prim.Native.Nat.{ℕ}
use lib.ListN.{length}
use Rattle.slices.specs.Changed.{map_at, window}
use Rattle.slices.proofs.Choices.{other}
use Rattle.device.specs.declared.Device.{Device}
use Rattle.device.specs.Packing.{unpack_answer, unpack_of}
use Rattle.chip.specs.declared.Answer.{Answer}
use Rattle.chip.specs.declared.Done.{Done}
use Rattle.chip.specs.Outcome.{bare}
use Rattle.pins.specs.Run.{chip_after, output_at, run_answer, answer_of, Ran}
use Rattle.pins.proofs.Runs.{answer-bare}
use Rattle.m25p.specs.Calls.{packed_answer, packed_by}
use Rattle.m25p.specs.Pins.{pins_c, RanC}
use Rattle.m25p.proofs.Laws.{named, kept, turned-away}

module _ (packed array samples output : List ℕ) where
  -- the packing is refused
  pub refused : {r : ℕ} → ((unpack_of packed).answer ≡ 0 → ⊥) → r ≡ packed_answer (bare (unpack_of packed).answer) → RanC packed array samples output r packed array output
  unfolding pins_c
  refused n e =
      let d = (unpack_of packed).device in
      let t = turned-away packed refl (run_answer d (length array) samples (length output)) n e in
      record {
        answer = t.0 ∙ ap packed_answer (answer-bare (pins_c packed (length array) samples (length output)) d array samples t.1);
        bytes = kept (pins_c packed (length array) samples (length output)) (chip_after d array samples).device packed t.1;
        memory = other (pins_c packed (length array) samples (length output)) (chip_after d array samples).array array t.1;
        shown = other (pins_c packed (length array) samples (length output)) (map_at (window 0 (length samples) (output_at d array samples)) output) output t.1;
      }

  -- the packing is that of a sound record
  pub ran : {r : ℕ} {packed' array' output' : List ℕ} {c : Done} → (unpack_of packed).answer ≡ 0 → Ran (unpack_of packed).device array samples output c array' output' → r ≡ packed_answer c.answer
      → packed' ≡ packed_by c.answer.number (chip_after (unpack_of packed).device array samples).device packed → RanC packed array samples output r packed' array' output'
  unfolding pins_c answer_of
  ran {c = c} z m e p =
      let y : unpack_answer packed ≡ 0 = sym (named packed) ∙ z in
      let a : c.answer.number ≡ run_answer (unpack_of packed).device (length array) samples (length output) = ap (λ (x : Answer). x.number) m.answer in
      record { answer = rw y (e ∙ ap packed_answer m.answer); bytes = rw (y, ← a) p; memory = rw y m.memory; shown = rw y m.shown }

-- the record of a run with answer 0
pub next-is : {d : Device} {array samples output array' output' : List ℕ} {c : Done} → Ran d array samples output c array' output' → c.answer.number ≡ 0 → c.device ≡ (chip_after d array samples).device
unfolding answer_of
next-is {d} {array} {samples} {output} m z =
    let y : run_answer d (length array) samples (length output) ≡ 0 = sym (ap (λ (x : Answer). x.number) m.answer) ∙ z in
    m.device ∙ rw y

-- the promise admits one outcome only
pub one-outcome : {packed array samples output : List ℕ} {r s : ℕ} {packed' packed'' array' array'' output' output'' : List ℕ} → RanC packed array samples output r packed' array' output' → RanC packed array samples output s packed'' array'' output''
    → (r ≡ s) × (packed' ≡ packed'') × (array' ≡ array'') × (output' ≡ output'')
one-outcome p q = (p.answer ∙ sym q.answer, p.bytes ∙ sym q.bytes, p.memory ∙ sym q.memory, p.shown ∙ sym q.shown)
