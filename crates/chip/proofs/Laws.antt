-- What the steps of the code give: the data, the line, the bounds of first and count, and the promise.
-- Assumes nothing.
use mathlib.Core.Path.{◌≡◌, refl, sym, ap, ◌∙◌}
use mathlib.Core.Bool.{Bool, true, false, cond}
use mathlib.Core.List.{List, [], ◌∷◌}
use Prim.Native.Nat.{ℕ, suc, ◌+◌, ◌-◌, ◌≤◌, ◌<◌, min}
use native.Mathlib.Nat.{zero-add}
use native.Mathlib.Omega.{arith}
use borrow.Author.Tests.{lt-ltb, le-ltb, lt-leb}
use lib.Dec.{eqb}
use lib.ListN.{length, get_or, take, replicate, length-replicate}
use Rattle.slices.specs.Changed.{map_at, window, put, sum_from, sum_at}
use Rattle.slices.proofs.Maps.{map-agree}
use Rattle.slices.proofs.Windows.{window_more, window-rest, window-ext}
use Rattle.parts.specs.declared.Figures.{Figures}
use Rattle.parts.specs.Parts.{figures_of}
use Rattle.device.specs.declared.Device.{Device}
use Rattle.device.specs.Device.{status_byte}
use Rattle.device.specs.declared.Checked.{Checked}
use Rattle.device.proofs.Outcomes.{same-checked}
use Rattle.chip.specs.declared.table.Row.{Row}
use Rattle.chip.specs.declared.table.Instruction.{Instruction}
use Rattle.chip.specs.declared.line.Span.{Span}
use Rattle.chip.specs.declared.answers.Verdict.{Verdict}
use Rattle.chip.specs.declared.answers.Verdict.TheVariants.{Executed}
use Rattle.chip.specs.declared.Answer.{Answer}
use Rattle.chip.specs.Table.{address_of, only_if, instruction_in}
use Rattle.chip.specs.Answers.{chip_number, decided, delivery_answer, host_number, verdict_of}
use Rattle.chip.specs.Line.{Driven, silent, drives, on_line, kth, heard, heard_row, driven, lined, driving, driving_at, first_from, first_of, count_of, span_of}
use Rattle.chip.specs.Outcome.{Outcome, outcome_of, transacted, Meets, Foreseen, Delivered}
use Rattle.chip.proofs.Lines.{driven-from, driven-before, span-is}
use Rattle.chip.proofs.Verdicts.{executed}

module _ (d : Device) (array sent : List ℕ) where
  -- the code's two steps give the line
  pub line-is : (resp : List ℕ) {resp₁ : List ℕ} (r : Row) (f : Figures) (at n start : ℕ) → r ≡ heard_row d sent → f ≡ figures_of d.part → at ≡ address_of f sent
      → n ≡ min (length sent) (length resp) → start ≡ min r.from n → resp₁ ≡ map_at (window 0 (0 + start) (put 255)) resp
      → map_at (window start n (λ i x. on_line (kth r.drive f (status_byte d) d.locks array at (i - start)))) resp₁ ≡ map_at (lined d array sent) resp
  unfolding lined
  line-is resp {resp₁} r f at n start er ef ea en es e =
      window_more start n (lined d array sent) _ resp front (omega arith) byte ∙ window-rest n (lined d array sent) resp (λ i h lt. let k : length sent ≤ i = omega arith in rw (le-ltb i (length sent) k))
    where
      silent-at : (i x : ℕ) → i < start → 255 ≡ lined d array sent i x
      silent-at i x h =
          let k : i < length sent = omega arith in
          let m : i < r.from = omega arith in
          rw (lt-ltb i (length sent) k, driven-before d array sent i (omega arith) (rw (← er) m))

      front : resp₁ ≡ map_at (window 0 start (lined d array sent)) resp
      front = e ∙ (rw zero-add (map-agree _ _ resp (λ i lt. window-ext 0 start (put 255) (lined d array sent) i (get_or resp i 0) (λ h k. silent-at i (get_or resp i 0) k))))

      byte : (i x : ℕ) → start ≤ i → i < n → on_line (kth r.drive f (status_byte d) d.locks array at (i - start)) ≡ lined d array sent i x
      byte i x h l =
          let k : i < length sent = omega arith in
          let s : start ≡ r.from = omega arith in
          let m : r.from ≤ i = omega arith in
          rw (lt-ltb i (length sent) k, driven-from d array sent i (omega arith) (rw (← er) m), s, ea, er, ef)

-- ---- first and count lie within the transaction

first-within : (g : ℕ → ℕ) (k : ℕ) (xs : List ℕ) → first_from g k xs ≤ k + length xs
first-within g k [] = omega arith
first-within g k (x ∷ xs) = go (eqb (g k) 0) (first-within g (suc k) xs)
  where
    go : (b : Bool) → first_from g (suc k) xs ≤ suc k + length xs → cond b (first_from g (suc k) xs) k ≤ k + suc (length xs)
    go true h = omega arith
    go false h = omega arith

driving-few : (x : Driven) → driving x ≤ 1
driving-few silent = omega arith
driving-few (drives b) = omega arith

sum-within : (k : ℕ) (f : ℕ → ℕ → ℕ) (xs : List ℕ) → ((i x : ℕ) → f i x ≤ 1) → sum_from k f xs ≤ length xs
sum-within k f [] h = omega arith
sum-within k f (x ∷ xs) h = omega (arith, h k x, sum-within (suc k) f xs h)

pub first-le : (d : Device) (array sent : List ℕ) → first_of d array sent ≤ length sent
unfolding first_of
first-le d array sent = omega (arith, first-within (driving_at d array sent) 0 sent)

pub count-le : (d : Device) (array sent : List ℕ) → count_of d array sent ≤ length sent
unfolding count_of sum_at driving_at
count-le d array sent = sum-within 0 (λ i x. driving_at d array sent i) sent (λ i x. driving-few (driven d array (take i sent)))

-- both bounds
pub ruleset span_bounds = (first-le, count-le)

-- ---- the promise, by the verdict

-- what the code judges of the instruction that it read is the verdict
pub verdict-so : (d : Device) (array : ℕ) (sent : List ℕ) (pulses : ℕ) (w : Bool) (response : ℕ) (i : Instruction) {v : Verdict} → i ≡ instruction_in d sent
    → v ≡ decided (host_number d array (length sent) pulses response) (chip_number d i.row (length sent) pulses w i.address) → verdict_of d array sent pulses w response ≡ v
unfolding verdict_of
verdict-so d array sent pulses w response i e h = sym (h ∙ rw e)

-- what is executed is no longer than the longest
pub executed_short : (d : Device) (array : ℕ) (sent : List ℕ) (pulses : ℕ) (w : Bool) (response : ℕ) → verdict_of d array sent pulses w response ≡ Executed → length sent ≤ 65536
executed_short d array sent pulses w response e = (executed d array sent pulses w response e).0.short

-- ---- a transaction foreseen

module _ (d : Device) (array : ℕ) (sent : List ℕ) (pulses : ℕ) (w : Bool) (response : ℕ) where
  pub foreseen-by : (v : Verdict) → verdict_of d array sent pulses w response ≡ v → {a : Answer} {next : Device} → a.missing ≡ 0
      → ((xs r : List ℕ) → let o = outcome_of v d xs sent r in (a.number ≡ o.answer.number) × (a.first ≡ o.answer.first) × (a.count ≡ o.answer.count) × (next ≡ o.device))
      → Foreseen d array sent pulses w response a next
  unfolding transacted
  foreseen-by v e none p =
      record { missing = none; number = λ xs r l m. rw (l, m, e) (p xs r).0; first = λ xs r l m. rw (l, m, e) (p xs r).1; count = λ xs r l m. rw (l, m, e) (p xs r).2; device = λ xs r l m. rw (l, m, e) (p xs r).3 }

  -- its promise admits one outcome only
  pub one-foresight : {a b : Answer} {next other : Device} → Foreseen d array sent pulses w response a next → Foreseen d array sent pulses w response b other → (a ≡ b) × (next ≡ other)
  one-foresight {a} {b} p q =
      let xs : List ℕ = replicate array 0 in
      let r : List ℕ = replicate response 0 in
      let l : length xs ≡ array = length-replicate array 0 in
      let m : length r ≡ response = length-replicate response 0 in
      (same (p.number xs r l m ∙ sym (q.number xs r l m)) (p.first xs r l m ∙ sym (q.first xs r l m)) (p.count xs r l m ∙ sym (q.count xs r l m)) (p.missing ∙ sym q.missing), p.device xs r l m ∙ sym (q.device xs r l m))
    where
      same : a.number ≡ b.number → a.first ≡ b.first → a.count ≡ b.count → a.missing ≡ b.missing → a ≡ b
      same e f g h =
          let x : ◌≡◌ {A = Answer} (record { number = a.number; first = a.first; count = a.count; missing = a.missing }) (record { number = b.number; first = b.first; count = b.count; missing = b.missing }) = rw (e, f, g, h) in
          x

-- where something is driven, as the code finds it, whatever the array
pub span-at : (d : Device) (sent : List ℕ) (i : Instruction) {s : Span} → i ≡ instruction_in d sent → s ≡ span_of (only_if (heard d i.row) i.row).drive (only_if (heard d i.row) i.row).from (length sent) → (xs : List ℕ)
    → (s.first ≡ first_of d xs sent) × (s.count ≡ count_of d xs sent)
unfolding heard_row
span-at d sent i {s} e h xs =
    let k : s ≡ span_of (heard_row d sent).drive (heard_row d sent).from (length sent) = h ∙ rw e in
    let b = span-is d xs sent (heard_row d sent).drive refl in
    (ap (λ (t : Span). t.first) k ∙ b.0, ap (λ (t : Span). t.count) k ∙ b.1)

-- the promise admits one outcome only
pub one-outcome : {o : Outcome} {a b : Answer} {next other : Device} {array' array'' response' response'' : List ℕ}
    → Meets o a next array' response' → Meets o b other array'' response'' → (a ≡ b) × (next ≡ other) × (array' ≡ array'') × (response' ≡ response'')
one-outcome s t = (s.answer ∙ sym t.answer, s.device ∙ sym t.device, s.memory ∙ sym t.memory, s.line ∙ sym t.line)

-- ---- delivery

-- so does a delivery's
pub one-delivery : {part : ℕ} {array : List ℕ} {program sector bulk status : ℕ} {r s : Checked} {array' array'' : List ℕ}
    → Delivered part array program sector bulk status r array' → Delivered part array program sector bulk status s array'' → (r ≡ s) × (array' ≡ array'')
one-delivery p q = (same-checked (p.answer ∙ sym q.answer) (p.device ∙ sym q.device), p.memory ∙ sym q.memory)

-- a part number above 255 is no part's
pub large : (part array p s b t : ℕ) → 255 < part → delivery_answer part array p s b t ≡ 1
unfolding delivery_answer
large part array p s b t h = let k : 6 < part = omega arith in rw (lt-leb part 6 k)
