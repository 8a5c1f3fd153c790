-- Wishes 8 and 11 of raw pins: with W low as each transaction ends, a run's transactions are such as hardware protection speaks of; and a run goes by a lock as its transactions do.
-- Assumes nothing.
use mathlib.Core.Path.{◌≡◌, refl}
use mathlib.Core.Bool.{true, false}
use mathlib.Core.List.{List, [], ◌∷◌}
use Prim.Native.Nat.{ℕ, zero, suc, ◌<◌}
use native.Mathlib.Omega.{arith}
use lib.ListN.{length, get_or, take}
use Rattle.slices.proofs.Choices.{cond-case}
use Rattle.device.specs.declared.Device.{Device}
use Rattle.device.specs.Device.{on_zero}
use Rattle.chip.specs.declared.Done.{Done}
use Rattle.chip.specs.Events.{every, goes_on}
use Rattle.chip.specs.Protection.{Armed, w_low, Kept}
use Rattle.chip.specs.Locked.{Locked, Held}
use Rattle.chip.proofs.Events.{every_append}
use Rattle.chip.proofs.Locked.{lock-holds}
use Rattle.chip.proofs.Protection.{kept-none, hardware-protects}
use Rattle.pins.specs.declared.levels.Levels.{Levels}
use Rattle.pins.specs.Pins.{levels_of, ends, Transaction, next_found, Seen, at_rest, step, seen_from, seen}
use Rattle.pins.specs.Run.{Chip, events_of, chip_after, run_answer, Ran}
use Rattle.pins.proofs.Carried.{ending, events-append}

-- W is low in each sample in which Select rises outside a hold, so that a transaction ends
abbrev pub LowAsItEnds : Seen → List ℕ → Type 0
LowAsItEnds x samples = (i : ℕ) → i < length samples → ends (seen_from x (take i samples)).pins (levels_of (get_or samples i 0)) ≡ true → (levels_of (get_or samples i 0)).w ≡ false

-- one sample more
low-next : (x : Seen) (now : Levels) → every w_low (events_of x.found) ≡ true → (ends x.pins now ≡ true → now.w ≡ false) → every w_low (events_of (step x now).found) ≡ true
unfolding step next_found
low-next x now h l =
    cond-case (λ (ts : List Transaction). every w_low (events_of ts) ≡ true) (ends x.pins now)
    (λ e. rw (events-append x.found (ending x.taking now ∷ []), every_append w_low (events_of x.found) (events_of (ending x.taking now ∷ [])), h, l e)) (λ e. h)

low-found : (x : Seen) (samples : List ℕ) → every w_low (events_of x.found) ≡ true → LowAsItEnds x samples → every w_low (events_of (seen_from x samples).found) ≡ true
low-found x [] h l = h
low-found x (s ∷ samples) h l = low-found (step x (levels_of s)) samples (low-next x (levels_of s) h (l 0 (omega arith))) (λ i lt. l (suc i) (omega arith))

-- then it is low in each transaction found: a run's transactions, carried out in order, are a list of such events
pub found-low : (samples : List ℕ) → LowAsItEnds at_rest samples → every w_low (events_of (seen samples).found) ≡ true
unfolding seen at_rest
found-low samples l = low-found at_rest samples refl l

-- what holds of the chip before a run and after its transactions holds of what the run leaves, whatever it answers
ran-ind : {d : Device} {array samples output : List ℕ} {r : Done} {array' output' : List ℕ} → Ran d array samples output r array' output' → (P : Chip → Type 0)
    → P (chip_after d array samples) → P (record { device = d; array = array }) → P (record { device = r.device; array = array' })
ran-ind {d} {array} {samples} {output} {r} {array'} ran P after before = go (run_answer d (length array) samples (length output)) ran.device ran.memory
  where
    go : (k : ℕ) → r.device ≡ on_zero k (chip_after d array samples).device d → array' ≡ on_zero k (chip_after d array samples).array array → P (record { device = r.device; array = array' })
    go zero e g = rw (e, g) after
    go (suc k) e g = rw (e, g) before

-- one run from a chip that hardware protection speaks of
pub run-protects : {d : Device} {array samples output : List ℕ} {r : Done} {array' output' : List ℕ} → Ran d array samples output r array' output' → Armed (record { device = d; array = array })
    → LowAsItEnds at_rest samples → Kept (record { device = d; array = array }) (record { device = r.device; array = array' })
unfolding chip_after
run-protects {d} {array} {samples} ran f l =
    let c : Chip = record { device = d; array = array } in
    ran-ind ran (Kept c) (hardware-protects.ends c f (events_of (seen samples).found) (found-low samples l)) (kept-none c)

-- ---- what a lock is worth

-- a run's transactions are transactions: power stays on
found-goes : (ts : List Transaction) → every goes_on (events_of ts) ≡ true
found-goes [] = refl
found-goes (t ∷ ts) = found-goes ts

-- one run from a chip whose sector s is write-locked and frozen, whatever the samples are
pub run_holds : {d : Device} {array samples output : List ℕ} {r : Done} {array' output' : List ℕ} → Ran d array samples output r array' output' → (s : ℕ) → Locked (record { device = d; array = array }) s
    → Held s (record { device = d; array = array }) (record { device = r.device; array = array' })
unfolding chip_after
run_holds {d} {array} {samples} ran s k =
    let c : Chip = record { device = d; array = array } in
    ran-ind ran (Held s c) (lock-holds.ends c s k (events_of (seen samples).found) (found-goes (seen samples).found)) (record { register = refl; bytes = λ i lt e. refl })
