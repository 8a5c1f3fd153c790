-- Demand 3, proved of the calls themselves: neighbours change places, each byte ends as the formula says, and the record ends in standby with the latch reset.
-- Assumes nothing.
use mathlib.Core.Path.{◌≡◌, refl, sym, ap, ap₂, subst, ◌∙◌}
use mathlib.Core.Bool.{Bool, true, false}
use mathlib.Core.List.{List, [], ◌∷◌, ◌++◌}
use Prim.Native.Nat.{ℕ, ◌<◌}
use lib.ListN.{length, get_or}
use Rattle.slices.specs.Changed.{map_at}
use Rattle.slices.proofs.Maps.{map-then, map-ext, map_same, get_or-map, length-map}
use Rattle.parts.specs.Parts.{figures_of}
use Rattle.device.specs.declared.Mode.{Mode}
use Rattle.device.specs.declared.Mode.TheVariants.{Standby}
use Rattle.device.specs.declared.Device.{Device}
use Rattle.device.specs.declared.cycle.Cycle.{Cycle}
use Rattle.device.specs.Device.{sound, moded, remembering}
use Rattle.device.proofs.Sound.{idle-cycle}
use Rattle.chip.specs.Events.{Chip}
use Rattle.jobs.specs.Jobs.{Job, Entry, run_jobs, history, AtRest, AllFormed, ExecutedOr15Or17, AllAnswer}
use Rattle.jobs.specs.Formula.{ends_as}
use Rattle.jobs.specs.Swap.{MaySwap}
use Rattle.jobs.proofs.Steps.{resting, chip, rest-sound, effect, number-allowed, enabled-number, answered-is, rested-number, disabled-number, after_is}
use Rattle.jobs.proofs.Bytes.{through, rans, effects-commute, ends}

-- ---- a list of jobs is one change of each byte

-- the latch: as it was where no job is run, else reset
abbrev pub last_latch : Bool → List Job → Bool
last_latch l [] = l
last_latch l (j ∷ js) = false

last-false : (js : List Job) → last_latch false js ≡ false
last-false [] = refl
last-false (j ∷ js) = refl

module _ (d : Device) (s : sound d ≡ true) where
  pub run_is : (js : List Job) (xs : List ℕ) (l : Bool) → length xs ≡ (figures_of d.part).bytes → AllFormed js
      → run_jobs js (chip (resting d l) xs) ≡ chip (resting d (last_latch l js)) (map_at (through d js) xs)
  run_is [] xs l z w = ap (chip (resting d l)) (sym (map_same xs))
  run_is (j ∷ js) xs l z w =
      ap (run_jobs js) (after_is d s xs z l j w.0) ∙ run_is js (map_at (effect d j) xs) false (length-map (effect d j) xs ∙ z) w.1
      ∙ ap₂ (λ (b : Bool) (ys : List ℕ). chip (resting d b) ys) (last-false js) (map-then (effect d j) (through d js) xs)

  pub history-is : (js : List Job) (xs : List ℕ) (l : Bool) → length xs ≡ (figures_of d.part).bytes → AllFormed js → history js (chip (resting d l) xs) ≡ rans d js
  history-is [] xs l z w = refl
  history-is (j ∷ js) xs l z w =
      ap₂ {C = List Entry} (λ k rs. record { job = j; number = k } ∷ rs) (answered-is d s xs z l j w.0)
      (ap (history js) (after_is d s xs z l j w.0) ∙ history-is js (map_at (effect d j) xs) false (length-map (effect d j) xs ∙ z) w.1)

  all-answer : (js : List Job) (xs : List ℕ) (l : Bool) → length xs ≡ (figures_of d.part).bytes → AllFormed js → AllAnswer js (chip (resting d l) xs)
  all-answer [] xs l z w = tt
  all-answer (j ∷ js) xs l z w = (
    record {
      enabled = enabled-number d s xs z l j w.0;
      carried = subst ExecutedOr15Or17 (sym (answered-is d s xs z l j w.0)) (number-allowed d j w.0);
      rested = rested-number d s xs z l j w.0;
      disabled = disabled-number d s xs z l j w.0;
    },
    subst (AllAnswer js) (sym (after_is d s xs z l j w.0)) (all-answer js (map_at (effect d j) xs) false (length-map (effect d j) xs ∙ z) w.1),
  )

  through-swap : (xs ys : List Job) (a b : Job) → AllFormed (xs ++ (a ∷ b ∷ ys)) → MaySwap (figures_of d.part) a b → (i x : ℕ)
      → through d (xs ++ (a ∷ b ∷ ys)) i x ≡ through d (xs ++ (b ∷ a ∷ ys)) i x
  through-swap [] ys a b w m i x = ap (through d ys i) (effects-commute d a b w.0 w.1.0 m i x)
  through-swap (j ∷ xs) ys a b w m i x = through-swap xs ys a b w.1 m i (effect d j i x)

last-swap : (l : Bool) (xs ys : List Job) (a b : Job) → last_latch l (xs ++ (a ∷ b ∷ ys)) ≡ last_latch l (xs ++ (b ∷ a ∷ ys))
last-swap l [] ys a b = refl
last-swap l (j ∷ xs) ys a b = refl

formed-swap : (xs ys : List Job) (a b : Job) → AllFormed (xs ++ (a ∷ b ∷ ys)) → AllFormed (xs ++ (b ∷ a ∷ ys))
formed-swap [] ys a b w = (w.1.0, (w.0, w.1.1))
formed-swap (x ∷ xs) ys a b w = (w.0, formed-swap xs ys a b w.1)

at_rest : (c : Chip) → AtRest c → c ≡ chip (resting c.device c.device.latch) c.array
unfolding moded remembering
at_rest c r =
    ap₂ (λ (m : Mode) (k : Cycle). chip (moded (remembering c.device k) c.device.latch m) c.array) r.standby (idle-cycle c.device r.good.sound (rw r.standby))

runs_to : (c : Chip) → AtRest c → (js : List Job) → AllFormed js
    → run_jobs js c ≡ chip (resting c.device (last_latch c.device.latch js)) (map_at (through c.device js) c.array)
runs_to c r js w = ap (run_jobs js) (at_rest c r) ∙ run_is c.device r.good.sound js c.array c.device.latch r.good.whole w

-- ---- the theorems

-- neighbours may change places: array and record end the same
pub swap : (c : Chip) → AtRest c → (before later : List Job) (a b : Job) → AllFormed (before ++ (a ∷ b ∷ later)) → MaySwap (figures_of c.device.part) a b
    → run_jobs (before ++ (a ∷ b ∷ later)) c ≡ run_jobs (before ++ (b ∷ a ∷ later)) c
swap c r xs ys a b w m =
    runs_to c r (xs ++ (a ∷ b ∷ ys)) w
    ∙ ap₂ (λ (l : Bool) (zs : List ℕ). chip (resting c.device l) zs) (last-swap c.device.latch xs ys a b)
    (map-ext (through c.device (xs ++ (a ∷ b ∷ ys))) (through c.device (xs ++ (b ∷ a ∷ ys))) (through-swap c.device r.good.sound xs ys a b w m) c.array)
    ∙ sym (runs_to c r (xs ++ (b ∷ a ∷ ys)) (formed-swap xs ys a b w))

-- each array byte ends as the bitwise and of what it started from with the byte of each later executed program that reached it
pub byte-ends : (c : Chip) → AtRest c → (js : List Job) → AllFormed js → (i : ℕ) → i < length c.array → get_or c.array i 0 < 256
    → get_or (run_jobs js c).array i 0 ≡ ends_as (figures_of c.device.part) i (history js c) (get_or c.array i 0)
byte-ends c r js w i h lt =
    ap (λ (e : Chip). get_or e.array i 0) (runs_to c r js w) ∙ get_or-map (through c.device js) c.array i 0 h ∙ ends c.device i js w (get_or c.array i 0) lt
    ∙ ap (λ (rs : List Entry). ends_as (figures_of c.device.part) i rs (get_or c.array i 0))
    (sym (ap (history js) (at_rest c r) ∙ history-is c.device r.good.sound js c.array c.device.latch r.good.whole w))

-- after at least one job the record is in standby with the latch reset, and all else in it is as it was
pub record-ends : (c : Chip) → AtRest c → (j : Job) (js : List Job) → AllFormed (j ∷ js) → (run_jobs (j ∷ js) c).device ≡ moded c.device false Standby
unfolding moded remembering
record-ends c r j js w =
    ap (λ (e : Chip). e.device) (runs_to c r (j ∷ js) w) ∙ ap (λ (k : Cycle). moded (remembering c.device k) false Standby) (sym (idle-cycle c.device r.good.sound (rw r.standby)))

-- no host-side number answers any call of the run: write enable, wait and write disable answer 0, the program or erase 0, 15 or 17
pub answers-are : (c : Chip) → AtRest c → (js : List Job) → AllFormed js → AllAnswer js c
answers-are c r js w =
    subst (AllAnswer js) (sym (at_rest c r)) (all-answer c.device r.good.sound js c.array c.device.latch r.good.whole w)

-- a list ends where a list may start
pub rests-again : (c : Chip) → AtRest c → (js : List Job) → AllFormed js → AtRest (run_jobs js c)
unfolding moded remembering
rests-again c r js w =
    subst AtRest (sym (runs_to c r js w))
    (record {
      good = record { sound = rest-sound c.device (last_latch c.device.latch js) r.good.sound; whole = length-map (through c.device js) c.array ∙ r.good.whole };
      standby = refl;
    })
