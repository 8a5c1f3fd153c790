-- What holds of every run: its transactions, its output, and that no output byte depends on a later sample.
-- Assumes nothing.
use mathlib.Core.Path.{◌≡◌, refl, sym, ap, ◌∙◌}
use mathlib.Core.Bool.{Bool, true, false, not, ◌&&◌}
use mathlib.Core.List.{List, [], ◌∷◌, ◌++◌}
use Prim.Native.Nat.{ℕ, suc, ◌+◌, ◌≤◌, ◌<◌}
use native.Mathlib.Nat.{le_refl}
use native.Mathlib.Omega.{arith}
use borrow.Author.Tests.{ltb-false}
use lib.Dec.{ltb, lit≤, lit<}
use lib.ListN.{length, get_or, take, replicate, length-replicate}
use lib.Seq.{take-take}
use Rattle.slices.specs.Changed.{map_at, window}
use Rattle.slices.proofs.Choices.{cond_ind, zero-ind}
use Rattle.slices.proofs.Maps.{get_or-map, length-map}
use Rattle.slices.proofs.Windows.{window-in, window-above}
use Rattle.memory.specs.Missing.{most_missing}
use Rattle.device.specs.declared.Device.{Device}
use Rattle.device.specs.Device.{sound}
use Rattle.chip.specs.declared.Answer.{Answer}
use Rattle.chip.specs.declared.Done.{Done}
use Rattle.chip.specs.Answers.{host_number}
use Rattle.chip.specs.Outcome.{transacted}
use Rattle.chip.specs.Events.{Good, sends, sent, missed}
use Rattle.chip.proofs.Events.{after-sound, after-good, no-refusal}
use Rattle.chip.proofs.Rules.{array-stays}
use Rattle.chip.proofs.Lines.{LineIs, line-is-driven}
use Rattle.pins.specs.declared.levels.Levels.{Levels}
use Rattle.pins.specs.Pins.{levels_of, Pins, ends, Transaction, anew, next_taking, next_found, Seen, at_rest, step, seen_from, seen, too_long}
use Rattle.pins.specs.Run.{Chip, carried_out, events_of, carried_all, chip_after, missed_in, output_after, output_at, run_answer, answer_of, Ran}
use Rattle.pins.proofs.Seen.{seen-ind, from-append, few-next, neither}
use Rattle.pins.proofs.Carried.{ending}
use Rattle.pins.proofs.Runs.{accepted, answer-few}

-- ---- a run that is not refused

module _ {d : Device} {array samples output : List ℕ} {r : Done} {array' output' : List ℕ} (ran : Ran d array samples output r array' output') (fine : r.answer.number ≡ 0) where
  answers : run_answer d (length array) samples (length output) ≡ 0
  unfolding answer_of
  answers = sym (ap (λ (a : Answer). a.number) ran.answer) ∙ fine

  -- its record and array are those of the found transactions given singly, in order
  pub run-carries : (r.device ≡ (carried_all (record { device = d; array = array }) (seen samples).found).device) × (array' ≡ (carried_all (record { device = d; array = array }) (seen samples).found).array)
  unfolding chip_after
  run-carries = (ran.device ∙ rw answers, ran.memory ∙ rw answers)

  -- its bits missing are the sum over them
  pub run-misses : r.answer.missing ≡ missed (events_of (seen samples).found) (record { device = d; array = array })
  unfolding answer_of missed_in
  run-misses = ap (λ (a : Answer). a.missing) ran.answer ∙ rw answers

  -- output byte i is the output after the first i + 1 samples
  pub run-shows : (i : ℕ) → i < length samples → get_or output' i 0 ≡ output_after d array (take (i + 1) samples)
  unfolding output_at
  run-shows i lt =
      let a = accepted d (length array) samples (length output) answers in
      let e : output' ≡ map_at (window 0 (length samples) (output_at d array samples)) output = ran.shown ∙ rw answers in
      ap (λ (xs : List ℕ). get_or xs i 0) e ∙ get_or-map (window 0 (length samples) (output_at d array samples)) output i 0 (omega (arith, a.room))
      ∙ window-in 0 (length samples) (output_at d array samples) i (get_or output i 0) (omega arith) lt

  -- output bytes beyond the samples are untouched
  pub run-leaves : (i : ℕ) → length samples ≤ i → i < length output → get_or output' i 0 ≡ get_or output i 0
  run-leaves i le lt =
      let e : output' ≡ map_at (window 0 (length samples) (output_at d array samples)) output = ran.shown ∙ rw answers in
      ap (λ (xs : List ℕ). get_or xs i 0) e ∙ get_or-map (window 0 (length samples) (output_at d array samples)) output i 0 lt
      ∙ window-above 0 (length samples) (output_at d array samples) i (get_or output i 0) le

-- no output byte depends on a later sample: two runs that are not refused and agree on record, array and the first k samples agree on the first k output bytes
pub no-later : {d : Device} {array : List ℕ} {samples other output output₂ : List ℕ} {r s : Done} {array' array'' output' output'' : List ℕ} (k : ℕ)
    → Ran d array samples output r array' output' → r.answer.number ≡ 0 → Ran d array other output₂ s array'' output'' → s.answer.number ≡ 0
    → k ≤ length samples → k ≤ length other → take k samples ≡ take k other → (i : ℕ) → i < k → get_or output' i 0 ≡ get_or output'' i 0
no-later {d} {array} {samples} {other} k p z q y l m e i lt =
    run-shows p z i (omega arith)
    ∙ (ap (output_after d array) (sym (take-take (i + 1) k samples (omega arith)) ∙ (ap (take (i + 1)) e ∙ take-take (i + 1) k other (omega arith)))
    ∙ sym (run-shows q y i (omega arith)))

-- ---- the record stays sound, the array keeps its length

one-sound : (c : Chip) (t : Transaction) → sound c.device ≡ true → sound (carried_out c t).device ≡ true
one-sound c t s = after-sound (sends t.sent t.pulses t.w) c s

one-array : (c : Chip) (t : Transaction) → (carried_out c t).array ≡ c.array
unfolding sent
one-array c t = array-stays c.device c.array t.sent t.pulses t.w (replicate (length t.sent) 0)

all_sound : (c : Chip) (ts : List Transaction) → sound c.device ≡ true → sound (carried_all c ts).device ≡ true
all_sound c [] s = s
all_sound c (t ∷ ts) s = all_sound (carried_out c t) ts (one-sound c t s)

all-array : (c : Chip) (ts : List Transaction) → (carried_all c ts).array ≡ c.array
all-array c [] = refl
all-array c (t ∷ ts) = all-array (carried_out c t) ts ∙ one-array c t

module _ {d : Device} {array samples output : List ℕ} {r : Done} {array' output' : List ℕ} (ran : Ran d array samples output r array' output') where
  -- a sound record stays sound, refused or not
  pub run_sound : sound d ≡ true → sound r.device ≡ true
  unfolding chip_after
  run_sound s =
      rw ran.device
      (zero-ind (λ (x : Device). sound x ≡ true) (run_answer d (length array) samples (length output)) (all_sound (record { device = d; array = array }) (seen samples).found s) s)

  -- at most 2,048 bits are missing, refused or not
  pub run-few : r.answer.missing ≤ most_missing
  run-few = rw ran.answer (answer-few (run_answer d (length array) samples (length output)) d array samples)

  -- no tick passes in a run: every byte of the array stays, and a cycle that was started is left pending
  pub run-array : array' ≡ array
  unfolding chip_after
  run-array = rw ran.memory (zero-ind (λ (x : List ℕ). x ≡ array) (run_answer d (length array) samples (length output)) (all-array (record { device = d; array = array }) (seen samples).found) refl)

  -- the output keeps its length
  pub run_length : length output' ≡ length output
  run_length = rw ran.shown (zero-ind (λ (x : List ℕ). length x ≡ length output) (run_answer d (length array) samples (length output)) (length-map _ output) refl)

-- ---- the transactions found are never refused, and each line is what the chip drives

-- a transaction that a chip takes: no number of the host side answers it, and byte i of its line is what is driven after its first i bytes
pub record TakenBy (c : Chip) (t : Transaction) : Type 0 where
  pub fine : host_number c.device (length c.array) (length t.sent) t.pulses (length t.sent) ≡ 0
  pub line : (i : ℕ) → i < length t.sent → LineIs c.device c.array t.sent (transacted c.device c.array t.sent t.pulses t.w (replicate (length t.sent) 0)) i

-- so of each, in order
abbrev pub AllTaken : Chip → List Transaction → Type 0
AllTaken c [] = Unit
AllTaken c (t ∷ ts) = TakenBy c t × AllTaken (carried_out c t) ts

-- 65,536 bytes or fewer, 7 further pulses or fewer
abbrev Fits : Transaction → Type 0
Fits t = (length t.sent ≤ 65536) × (t.pulses < 8)

abbrev AllFit : List Transaction → Type 0
AllFit [] = Unit
AllFit (t ∷ ts) = Fits t × AllFit ts

fit-more : (ts : List Transaction) (t : Transaction) → AllFit ts → Fits t → AllFit (ts ++ (t ∷ []))
fit-more [] t h f = (f, tt)
fit-more (x ∷ ts) t h f = (h.0, fit-more ts t h.1 f)

found-fit : (samples : List ℕ) → too_long samples ≡ false → AllFit (seen samples).found
unfolding too_long at_rest step next_found anew
found-fit samples h =
    ((seen-ind (λ (x : Seen). (x.taking.pulses < 8) × (x.long ≡ false → (length x.taking.sent ≤ 65536) × AllFit x.found)) (lit< tt, λ e. (lit≤ tt, tt))
    (λ x now p. (
      few-next x.pins now x.taking p.0,
      λ e.
          let n = neither x.long (ltb 65536 (length (next_taking x.pins now x.taking).sent)) e in
          let q = p.1 n.0 in
          (ltb-false 65536 (length (next_taking x.pins now x.taking).sent) n.1, cond_ind AllFit (ends x.pins now) (fit-more x.found (ending x.taking now) q.1 (q.0, p.0)) q.1),
    )) samples).1 h).1

fine-one : (c : Chip) (t : Transaction) → Good c → Fits t → host_number c.device (length c.array) (length t.sent) t.pulses (length t.sent) ≡ 0
fine-one c t w f = no-refusal c.device (length c.array) (length t.sent) t.pulses (length t.sent) w.sound w.whole f.0 (omega (arith, f.1)) (le_refl _)

taken-one : (c : Chip) (t : Transaction) → Good c → Fits t → TakenBy c t
taken-one c t w f =
    let zeros : List ℕ = replicate (length t.sent) 0 in
    let l : length zeros ≡ length t.sent = length-replicate {A = ℕ} (length t.sent) 0 in
    let e = fine-one c t w f in
    record { fine = e; line = λ i lt. line-is-driven c.device c.array t.sent i lt t.pulses t.w zeros (rw l e) }

all-taken : (c : Chip) (ts : List Transaction) → Good c → AllFit ts → AllTaken c ts
all-taken c [] w f = tt
all-taken c (t ∷ ts) w f = (
  taken-one c t w f.0,
  all-taken (carried_out c t) ts (after-good (sends t.sent t.pulses t.w) c w) f.1,
)

pub run-taken : {d : Device} {array samples output : List ℕ} {r : Done} {array' output' : List ℕ} → Ran d array samples output r array' output' → r.answer.number ≡ 0
    → AllTaken (record { device = d; array = array }) (seen samples).found
run-taken {d} {array} {samples} {output} ran fine =
    let a = accepted d (length array) samples (length output) (answers ran fine) in
    all-taken (record { device = d; array = array }) (seen samples).found (record { sound = a.sound; whole = a.whole }) (found-fit samples a.short)

-- ---- thrown away and unfinished

-- in these samples Select does not rise outside a hold
abbrev pub Endless : Seen → List ℕ → Type 0
Endless x [] = Unit
Endless x (s ∷ samples) = (ends x.pins (levels_of s) ≡ false) × Endless (step x (levels_of s)) samples

endless-found : (x : Seen) (samples : List ℕ) → Endless x samples → (seen_from x samples).found ≡ x.found
unfolding step next_found
endless-found x [] e = refl
endless-found x (s ∷ samples) e = endless-found (step x (levels_of s)) samples e.1 ∙ rw e.0

-- they have no effect on record and array, whatever they shift in: a transaction that is unfinished, or thrown away, has none
pub no-effect : (d : Device) (array samples more : List ℕ) → Endless (seen samples) more → chip_after d array (samples ++ more) ≡ chip_after d array samples
unfolding chip_after seen
no-effect d array samples more e =
    ap (λ (x : Seen). carried_all (record { device = d; array = array }) x.found) (from-append at_rest samples more)
    ∙ ap (λ (ts : List Transaction). carried_all (record { device = d; array = array }) ts) (endless-found (seen_from at_rest samples) more e)

-- Select is low in each of these samples
abbrev pub StaysLow : List ℕ → Type 0
StaysLow more = (i : ℕ) → i < length more → (levels_of (get_or more i 0)).select ≡ false

-- wherever Select rises in `more`, which comes after `samples`, there is a hold before that sample
abbrev pub RisesInHold : List ℕ → List ℕ → Type 0
RisesInHold samples more =
    (i : ℕ) → i < length more → (seen (samples ++ take i more)).pins.select ≡ false → (levels_of (get_or more i 0)).select ≡ true → (seen (samples ++ take i more)).pins.holding ≡ true

-- sample by sample nothing ends
endless : (x : Seen) (more : List ℕ) → ((i : ℕ) → i < length more → ends (seen_from x (take i more)).pins (levels_of (get_or more i 0)) ≡ false) → Endless x more
endless x [] h = tt
endless x (s ∷ more) h = (h 0 (omega arith), endless (step x (levels_of s)) more (λ i lt. h (suc i) (omega arith)))

-- nothing ends while Select is low
low-endless : (p : Pins) (now : Levels) → now.select ≡ false → ends p now ≡ false
unfolding ends
low-endless p now h = rw h (still (not p.select) (not p.holding))
  where
    still : (a b : Bool) → a && false && b ≡ false
    still true b = refl
    still false b = refl

-- nothing ends where a rise of Select is one in a hold
held-endless : (p : Pins) (now : Levels) → (p.select ≡ false → now.select ≡ true → p.holding ≡ true) → ends p now ≡ false
unfolding ends
held-endless p now h = go p.select now.select p.holding h
  where
    go : (a b h : Bool) → (a ≡ false → b ≡ true → h ≡ true) → not a && b && not h ≡ false
    go true b h f = refl
    go false false h f = refl
    go false true h f = rw (f refl refl)

-- a transaction unfinished at the run's end has no effect: Select stays low in `more`, whatever is shifted in there
pub unfinished-has-no-effect : (d : Device) (array samples more : List ℕ) → StaysLow more → chip_after d array (samples ++ more) ≡ chip_after d array samples
unfinished-has-no-effect d array samples more low =
    no-effect d array samples more (endless (seen samples) more (λ i lt. low-endless (seen_from (seen samples) (take i more)).pins (levels_of (get_or more i 0)) (low i lt)))

-- rising during a hold throws the transaction away: where Select rises in a hold only, `more` has no effect
pub thrown-away-has-no-effect : (d : Device) (array samples more : List ℕ) → RisesInHold samples more → chip_after d array (samples ++ more) ≡ chip_after d array samples
unfolding seen
thrown-away-has-no-effect d array samples more held =
    no-effect d array samples more
    (endless (seen samples) more (λ i lt. held-endless (seen_from (seen samples) (take i more)).pins (levels_of (get_or more i 0)) (rw (from-append at_rest samples (take i more)) at (held i lt))))
