-- The worked runs hold: computed sample by sample, with the array's length handed over as a number.
-- Assumes nothing.
use mathlib.Core.Path.{◌≡◌, refl, sym, ap, ◌∙◌}
use mathlib.Core.Bool.{Bool, true, false, cond, ◌&&◌}
use mathlib.Core.List.{List, [], ◌∷◌, ◌++◌, append-nil}
use Prim.Native.Nat.{ℕ, zero, suc, ◌≤◌, ◌<◌}
use native.Mathlib.Numerals.{add-one}
use native.Mathlib.Omega.{arith}
use borrow.Author.Tests.{ltb-true, ltb-false}
use lib.Dec.{T, ltb}
use lib.Count.{ones_in, ones}
use lib.ListN.{length, get_or, take, replicate, length-replicate}
use Rattle.slices.specs.Changed.{map_at, window, sum_at}
use Rattle.slices.proofs.Maps.{map_is}
use Rattle.slices.proofs.Windows.{window-in, window-above}
use Rattle.memory.specs.Memory as memory-is
use Rattle.memory.specs.Missing.{missing_at, missing, page_of}
use Rattle.parts.specs.Parts.{figures_of}
use Rattle.parts.specs.Protected.{protected_of}
use Rattle.device.specs.Locks.{lock_of, locks_sound, no_locks}
use Rattle.device.specs.declared.Device.{Device}
use Rattle.device.specs.Device.{sound, on_zero, status_byte, moded, latched, settled, remembering, running, started, ended, latch_at}
use Rattle.device.specs.Time.{after_cycle, finished}
use Rattle.chip.specs.Table.{row_of, address_of}
use Rattle.chip.specs.Answers.{host_number, in_protected, as_needed, chip_number, decided, verdict_of, protected_any, protected_at}
use Rattle.chip.specs.Line.{by_row, heard, heard_row, driven, lined}
use Rattle.device.specs.Cycles.{no_slots, no_cycle, page_cycle, erase_cycle, all_cycle, settings_cycle, slots_sound, cycle_sound, touched, named_sound}
use Rattle.chip.specs.Change.{cycle_of, missing_of, bp_in, turned}
use Rattle.chip.specs.declared.Done.{Done}
use Rattle.chip.specs.Outcome.{outcome_of, transacted}
use Rattle.chip.proofs.Rules.{array-stays}
use Rattle.pins.specs.declared.levels.Levels.{Levels}
use Rattle.pins.specs.Pins.{levels_of, Pins, rest, on_select, on_clock, on_hold, next_pins, changes, ends, takes, moves, Transaction, Taking, anew, shifted, bit_taken, moved_on, clocked, next_taking, next_found, Seen, at_rest, step, seen_from, seen, too_long, odd_samples}
use Rattle.chip.specs.Events.{sent}
use Rattle.pins.specs.Run.{Chip, carried_out, carried_all, chip_after, missed_in, output_of, output_after, output_at, run_answer, answer_of, Ran}
use Rattle.pins.specs.Worked.{Case, samples_in, unwritten, as_told, AllAsTold, cases}
use Rattle.pins.proofs.Carried.{ending, all_append}

-- ---- sample by sample

-- one transaction on an array of a given length
abbrev one_at : ℕ → Chip → Transaction → Chip
one_at len c t =
    let o = outcome_of (verdict_of c.device len t.sent t.pulses t.w (length t.sent)) c.device c.array t.sent (replicate (length t.sent) 0) in
    record { device = o.device; array = o.array }

-- transactions in order
abbrev all_at : ℕ → Chip → List Transaction → Chip
all_at len c [] = c
all_at len c (t ∷ ts) = all_at len (one_at len c t) ts

-- the chip after one sample more
abbrev chip_step : ℕ → Chip → Seen → Levels → Chip
chip_step len c x now = all_at len c (next_found x.pins now x.taking [])

-- the output as it is written
unfoldable shown_from : ℕ → Chip → Seen → List ℕ → List ℕ → List ℕ
shown_from len c x [] output = output
shown_from len c x (s ∷ samples) [] = []
shown_from len c x (s ∷ samples) (o ∷ output) =
    let now = levels_of s in
    let c' = chip_step len c x now in
    let x' = step x now in
    output_of c' x' ∷ shown_from len c' x' samples output

-- the chip at the end
unfoldable chip_from : ℕ → Chip → Seen → List ℕ → Chip
chip_from len c x [] = c
chip_from len c x (s ∷ samples) =
    let now = levels_of s in
    let c' = chip_step len c x now in
    let x' = step x now in
    chip_from len c' x' samples

-- ---- which is what the run does

-- the length given is the array's
one-is : (len : ℕ) (c : Chip) (t : Transaction) → length c.array ≡ len → (one_at len c t ≡ carried_out c t) × (length (one_at len c t).array ≡ len)
unfolding sent transacted
one-is len c t whole =
    let e : one_at len c t ≡ carried_out c t = rw (whole, length-replicate {A = ℕ} (length t.sent) 0) in
    (e, ap (λ (y : Chip). length y.array) e ∙ (ap length (array-stays c.device c.array t.sent t.pulses t.w (replicate (length t.sent) 0)) ∙ whole))

all-is : (len : ℕ) (c : Chip) (ts : List Transaction) → length c.array ≡ len → (all_at len c ts ≡ carried_all c ts) × (length (all_at len c ts).array ≡ len)
all-is len c [] whole = (refl, whole)
all-is len c (t ∷ ts) whole =
    let o = one-is len c t whole in
    let a = all-is len (one_at len c t) ts o.1 in
    (a.0 ∙ ap (λ (y : Chip). carried_all y ts) o.0, a.1)

-- the transactions found grow at their end
found-more : (p : Pins) (now : Levels) (t : Taking) (found : List Transaction) → next_found p now t found ≡ found ++ next_found p now t []
unfolding next_found
found-more p now t found = go (ends p now)
  where
    go : (b : Bool) → cond b (found ++ (ending t now ∷ [])) found ≡ found ++ cond b ([] ++ (ending t now ∷ [])) []
    go true = refl
    go false = sym (append-nil found)

-- c is the chip after the transactions found so far, from c₀ on
module _ (len : ℕ) (c₀ : Chip) where
  step-whole : (c : Chip) (x : Seen) (now : Levels) → length c.array ≡ len → length (chip_step len c x now).array ≡ len
  step-whole c x now whole = (all-is len c (next_found x.pins now x.taking []) whole).1

  step-found : (c : Chip) (x : Seen) (now : Levels) → length c.array ≡ len → c ≡ carried_all c₀ x.found → chip_step len c x now ≡ carried_all c₀ (step x now).found
  unfolding step
  step-found c x now whole e =
      (all-is len c (next_found x.pins now x.taking []) whole).0
      ∙ (rw e (sym (all_append c₀ x.found (next_found x.pins now x.taking []))) ∙ ap (carried_all c₀) (sym (found-more x.pins now x.taking x.found)))

  chip-from : (c : Chip) (x : Seen) (samples : List ℕ) → length c.array ≡ len → c ≡ carried_all c₀ x.found → chip_from len c x samples ≡ carried_all c₀ (seen_from x samples).found
  unfolding chip_from
  chip-from c x [] whole e = e
  chip-from c x (s ∷ samples) whole e =
      chip-from (chip_step len c x (levels_of s)) (step x (levels_of s)) samples (step-whole c x (levels_of s) whole) (step-found c x (levels_of s) whole e)

  shown-length : (c : Chip) (x : Seen) (samples output : List ℕ) → length (shown_from len c x samples output) ≡ length output
  unfolding shown_from
  shown-length c x [] output = refl
  shown-length c x (s ∷ samples) [] = refl
  shown-length c x (s ∷ samples) (o ∷ output) = ap suc (shown-length (chip_step len c x (levels_of s)) (step x (levels_of s)) samples output)

  -- output byte i
  shown-at : (c : Chip) (x : Seen) (samples output : List ℕ) (i : ℕ) → i < length samples → i < length output → length c.array ≡ len → c ≡ carried_all c₀ x.found
      → get_or (shown_from len c x samples output) i 0 ≡ output_of (carried_all c₀ (seen_from x (take (suc i) samples)).found) (seen_from x (take (suc i) samples))
  unfolding shown_from
  shown-at c x [] output i lt room whole e = absurd (omega arith)
  shown-at c x (s ∷ samples) [] i lt room whole e = absurd (omega arith)
  shown-at c x (s ∷ samples) (o ∷ output) zero lt room whole e = rw (step-found c x (levels_of s) whole e)
  shown-at c x (s ∷ samples) (o ∷ output) (suc i) lt room whole e =
      shown-at (chip_step len c x (levels_of s)) (step x (levels_of s)) samples output i (omega arith) (omega arith) (step-whole c x (levels_of s) whole) (step-found c x (levels_of s) whole e)

  -- beyond the samples the output stays
  shown-beyond : (c : Chip) (x : Seen) (samples output : List ℕ) (i : ℕ) → length samples ≤ i → get_or (shown_from len c x samples output) i 0 ≡ get_or output i 0
  unfolding shown_from
  shown-beyond c x [] output i le = refl
  shown-beyond c x (s ∷ samples) [] i le = refl
  shown-beyond c x (s ∷ samples) (o ∷ output) zero le = absurd (omega arith)
  shown-beyond c x (s ∷ samples) (o ∷ output) (suc i) le = shown-beyond (chip_step len c x (levels_of s)) (step x (levels_of s)) samples output i (omega arith)

module _ (d : Device) (array samples output : List ℕ) (len : ℕ) (whole : length array ≡ len) where
  abbrev start : Chip
  start = record { device = d; array = array }

  chip-is : chip_from len start at_rest samples ≡ chip_after d array samples
  unfolding chip_after seen at_rest
  chip-is = chip-from len start start at_rest samples whole refl

  shown-is : shown_from len start at_rest samples output ≡ map_at (window 0 (length samples) (output_at d array samples)) output
  unfolding output_at output_after chip_after seen at_rest
  shown-is =
      map_is (window 0 (length samples) (output_at d array samples)) output (shown_from len start at_rest samples output) (shown-length len start start at_rest samples output)
      (λ i lt. go i lt (ltb i (length samples)) refl)
    where
      go : (i : ℕ) → i < length output → (b : Bool) → ltb i (length samples) ≡ b → get_or (shown_from len start at_rest samples output) i 0 ≡ window 0 (length samples) (output_at d array samples) i (get_or output i 0)
      go i lt true e =
          shown-at len start start at_rest samples output i (ltb-true i (length samples) e) lt whole refl
          ∙ sym (window-in 0 (length samples) (output_at d array samples) i (get_or output i 0) (omega arith) (ltb-true i (length samples) e) ∙ rw (add-one i))
      go i lt false e =
          shown-beyond len start start at_rest samples output i (ltb-false i (length samples) e)
          ∙ sym (window-above 0 (length samples) (output_at d array samples) i (get_or output i 0) (ltb-false i (length samples) e))

-- ---- computed

unfoldable computes : Case → Bool
computes k =
    let samples = samples_in k.run in
    let start : Chip = record { device = k.device; array = replicate k.bytes k.was } in
    let n = run_answer k.device k.bytes samples k.room in
    let c = chip_from k.bytes start at_rest samples in
    as_told k (record { answer = answer_of n k.device start.array samples; device = on_zero n c.device k.device }) (on_zero n c.array start.array) (on_zero n (shown_from k.bytes start at_rest samples (unwritten k.room)) (unwritten k.room))

unfoldable all_compute : List Case → Bool
all_compute [] = true
all_compute (k ∷ ks) = computes k && all_compute ks

computed : T (all_compute cases)
unfolding all_compute computes cases shown_from chip_from map_at window sum_at memory-is.blank memory-is.filled memory-is.programmed memory-is.erased figures_of protected_of sound status_byte moded latched settled remembering running started ended latch_at after_cycle finished row_of address_of host_number in_protected as_needed chip_number decided verdict_of by_row heard heard_row driven no_slots no_cycle page_cycle erase_cycle all_cycle settings_cycle slots_sound cycle_sound cycle_of touched missing_of missing missing_at page_of memory-is.reached memory-is.landed ones ones_in bp_in turned outcome_of transacted sent answer_of missed_in lined levels_of rest on_select on_clock on_hold next_pins changes ends takes moves anew shifted bit_taken moved_on clocked next_taking next_found at_rest step seen too_long odd_samples output_of run_answer named_sound locks_sound no_locks protected_at protected_any lock_of
computed = tt

-- what the promise admits at a case is what was computed
told : (k : Case) → T (computes k) → (r : Done) (array' output' : List ℕ) → Ran k.device (replicate k.bytes k.was) (samples_in k.run) (unwritten k.room) r array' output' → T (as_told k r array' output')
unfolding computes
told k h r array' output' ran =
    let samples = samples_in k.run in
    let array : List ℕ = replicate k.bytes k.was in
    let output = unwritten k.room in
    let whole : length array ≡ k.bytes = length-replicate {A = ℕ} k.bytes k.was in
    let room : length output ≡ k.room = length-replicate {A = ℕ} k.room 9 in
    rw (ran.answer, ran.device, ran.memory, ran.shown, whole, room, ← chip-is k.device array samples output k.bytes whole, ← shown-is k.device array samples output k.bytes whole) h

all_told : (ks : List Case) → T (all_compute ks) → AllAsTold ks
unfolding all_compute
all_told [] h = tt
all_told (k ∷ ks) h = let p = both (computes k) (all_compute ks) h in (told k p.0, all_told ks p.1)
  where
    both : (a b : Bool) → T (a && b) → T a × T b
    both true b h = (tt, h)
    both false b h = absurd h

-- the runs worked by hand hold of whatever the promise of `run` admits
pub worked : AllAsTold cases
worked = all_told cases computed
