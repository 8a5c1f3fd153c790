-- What each of a job's four calls does from standby.
-- Assumes nothing.
use mathlib.Core.Path.{◌≡◌, refl, sym, ap, ap₂, ◌∙◌, subst}
use mathlib.Core.Logic.{inl, inr}
use mathlib.Core.Bool.{Bool, true, false, cond, not, ◌||◌, false≢true}
use mathlib.Core.List.{List, [], ◌∷◌}
use Prim.Native.Nat.{ℕ, ◌≤◌}
use native.Mathlib.Omega.{arith}
use borrow.Author.Tests.{eqb-true}
use lib.Dec.{eqb, eqb-suc-zero}
use lib.ListN.{length, get_or, replicate, length-replicate}
use Rattle.slices.specs.Changed.{map_at}
use Rattle.slices.proofs.Maps.{map_same, length-map}
use Rattle.parts.specs.declared.Figures.{Figures}
use Rattle.parts.specs.Parts.{figures_of}
use Rattle.device.specs.declared.Mode.TheVariants.{Standby}
use Rattle.device.specs.declared.Device.{Device}
use Rattle.device.specs.declared.cycle.Kind.TheVariants.{Page, Sector, All}
use Rattle.device.specs.declared.cycle.Cycle.{Cycle}
pub use Rattle.device.specs.Chip.{chip}
use Rattle.device.specs.Cycles.{uses_of, no_cycle, page_cycle, erase_cycle, all_cycle, touched}
use Rattle.device.specs.Device.{sound, moded, latched, remembering, running, started, ended}
use Rattle.device.specs.Time.{after_cycle, finished, waited, wait_call}
use Rattle.device.proofs.Sound.{standby-sound}
use Rattle.device.proofs.Timed.{time-next}
use Rattle.device.proofs.Waiting.{cycle-ends}
use Rattle.chip.specs.Table.{row_of, address_of, row_in}
use Rattle.chip.specs.Answers.{host_number, chip_number, as_needed, protected_at, protected_any, decided, verdict_of}
use Rattle.chip.specs.Change.{cycle_of, changed, as_it_was, turned}
use Rattle.chip.specs.Outcome.{Outcome, outcome_of, transacted}
use Rattle.chip.specs.Events.{Chip, sends, sent, after, reply, run}
use Rattle.chip.proofs.Events.{no-refusal, after-sound}
use Rattle.jobs.specs.Jobs.{Job, longest_cycle, enable, carry, rest, disable, after_job, answered, code, WellFormed, ExecutedOr15Or17}

-- the record in standby, with the latch as given and no cycle
abbrev pub resting : Device → Bool → Device
resting d l = moded (remembering d no_cycle) l Standby

-- ---- soundness

pub rest-sound : (d : Device) (l : Bool) → sound d ≡ true → sound (resting d l) ≡ true
rest-sound d l s = standby-sound d l s

-- ---- a call that no host-side number answers

-- what the bytes do to each byte of the array where they are executed, once their cycle is completed
abbrev pub own : Figures → List ℕ → ℕ → ℕ → ℕ
own f sent = changed (row_of f (get_or sent 0 0)).turn f (address_of f sent) sent

-- what the chip's number k decides: the answer, each byte, the record
module _ (d : Device) (xs sent r : List ℕ) (k : ℕ) where
  pub number_is : (outcome_of (decided 0 k) d xs sent r).answer.number ≡ k
  unfolding outcome_of decided
  number_is = go (eqb k 0) refl
    where
      go : (b : Bool) → eqb k 0 ≡ b → (outcome_of (decided 0 k) d xs sent r).answer.number ≡ k
      go true e = rw e (sym (eqb-true k 0 e))
      go false e = rw e

  pub array-is : (outcome_of (decided 0 k) d xs sent r).array ≡ xs
  unfolding outcome_of decided
  array-is = go (eqb k 0) refl
    where
      go : (b : Bool) → eqb k 0 ≡ b → (outcome_of (decided 0 k) d xs sent r).array ≡ xs
      go true e = rw e
      go false e = rw e

  pub device-is : (outcome_of (decided 0 k) d xs sent r).device ≡ cond (eqb k 0) (turned (row_in d sent).turn (figures_of d.part) d (address_of (figures_of d.part) sent) sent) d
  unfolding outcome_of decided
  device-is = go (eqb k 0) refl
    where
      go : (b : Bool) → eqb k 0 ≡ b → (outcome_of (decided 0 k) d xs sent r).device ≡ cond (eqb k 0) (turned (row_in d sent).turn (figures_of d.part) d (address_of (figures_of d.part) sent) sent) d
      go true e = rw e
      go false e = rw e

-- then the chip's number decides
pub called : (d : Device) (xs sent : List ℕ) (p : ℕ) (w : Bool) (r : List ℕ) → host_number d (length xs) (length sent) p (length r) ≡ 0
    → transacted d xs sent p w r ≡ outcome_of (decided 0 (chip_number d (row_in d sent) (length sent) p w (address_of (figures_of d.part) sent))) d xs sent r
unfolding transacted verdict_of
called d xs sent p w r h = rw h

-- ---- a job's code

-- what holds of the three codes holds of a job's
pub codes-ind : (P : ℕ → Type 0) → P 0x02 → P 0xD8 → P 0xC7 → (c : ℕ) → eqb c 0x02 || (eqb c 0xD8 || eqb c 0xC7) ≡ true → P c
codes-ind P p q r c h = go (eqb c 0x02) refl (eqb c 0xD8) refl (eqb c 0xC7) refl h
  where
    go : (x : Bool) → eqb c 0x02 ≡ x → (y : Bool) → eqb c 0xD8 ≡ y → (z : Bool) → eqb c 0xC7 ≡ z → x || (y || z) ≡ true → P c
    go true e y e' z e'' h = subst P (sym (eqb-true c 0x02 e)) p
    go false e true e' z e'' h = subst P (sym (eqb-true c 0xD8 e')) q
    go false e false e' true e'' h = subst P (sym (eqb-true c 0xC7 e'')) r
    go false e false e' false e'' h = absurd (false≢true h)

-- ---- write enable and write disable, from standby

module _ (d : Device) (s : sound d ≡ true) (xs : List ℕ) (z : length xs ≡ (figures_of d.part).bytes) (l w : Bool) where
  -- one byte alone, without further pulses, is not refused
  passes : host_number (resting d l) (length xs) 1 0 1 ≡ 0
  unfolding moded remembering
  passes = no-refusal (resting d l) (length xs) 1 0 1 (rest-sound d l s) z (omega arith) (omega arith) (omega arith)

  wren-goes : sent (chip (resting d l) xs) (0x06 ∷ []) 0 w ≡ outcome_of (decided 0 0) (resting d l) xs (0x06 ∷ []) (0 ∷ [])
  unfolding sent chip_number row_of as_needed moded remembering
  wren-goes = called (resting d l) xs (0x06 ∷ []) 0 w (0 ∷ []) passes

  wrdi-goes : sent (chip (resting d l) xs) (0x04 ∷ []) 0 w ≡ outcome_of (decided 0 0) (resting d l) xs (0x04 ∷ []) (0 ∷ [])
  unfolding sent chip_number row_of as_needed moded remembering
  wrdi-goes = called (resting d l) xs (0x04 ∷ []) 0 w (0 ∷ []) passes

  pub wren-is : after (sends (0x06 ∷ []) 0 w) (chip (resting d l) xs) ≡ chip (resting d true) xs
  unfolding outcome_of decided turned row_of latched moded remembering
  wren-is = ap₂ chip (ap (λ (o : Outcome). o.device) wren-goes) (ap (λ (o : Outcome). o.array) wren-goes)

  pub wren-number : (reply (sends (0x06 ∷ []) 0 w) (chip (resting d l) xs)).answer.number ≡ 0
  unfolding outcome_of decided
  wren-number = ap (λ (o : Outcome). o.answer.number) wren-goes

  pub wrdi-is : after (sends (0x04 ∷ []) 0 w) (chip (resting d l) xs) ≡ chip (resting d false) xs
  unfolding outcome_of decided turned row_of latched moded remembering
  wrdi-is = ap₂ chip (ap (λ (o : Outcome). o.device) wrdi-goes) (ap (λ (o : Outcome). o.array) wrdi-goes)

  pub wrdi-number : (reply (sends (0x04 ∷ []) 0 w) (chip (resting d l) xs)).answer.number ≡ 0
  unfolding outcome_of decided
  wrdi-number = ap (λ (o : Outcome). o.answer.number) wrdi-goes

-- ---- the wait

-- a wait as long as the longest cycle answers 0, ends in standby, and does g to each byte
abbrev Waits : Device → Device → List ℕ → (ℕ → ℕ → ℕ) → Type 0
Waits d e xs g = ((wait_call (chip e xs) (longest_cycle d)).answer ≡ 0) × ((l : Bool) × ((wait_call (chip e xs) (longest_cycle d)).chip ≡ chip (resting d l) (map_at g xs)))

module _ (d : Device) (xs : List ℕ) (z : length xs ≡ (figures_of d.part).bytes) where
  still-waits : sound d ≡ true → Waits d (resting d true) xs as_it_was
  unfolding wait_call waited moded remembering
  still-waits s = let n = time-next (resting d true) (length xs) 0 (rest-sound d true s) z in (rw n, (true, rw n (ap (chip (resting d true)) (sym (map_same xs)))))

  -- a cycle that is no settings write
  busy-waits : (c : Cycle) (t : ℕ) → sound (started (resting d true) c t) ≡ true → t ≤ longest_cycle d → (uses_of c.kind).settings ≡ false
      → Waits d (started (resting d true) c t) xs (touched (figures_of d.part) c)
  unfolding wait_call started moded remembering running finished after_cycle ended
  busy-waits c t s h u =
      let n = time-next (started (resting d true) c t) (length xs) 0 s z in
      (rw n, (false, rw n (cycle-ends (remembering (resting d true) c) xs t (longest_cycle d) h ∙ rw u)))

  -- an executed program or erase
  turned-waits : (sent : List ℕ) (c : ℕ) → eqb c 0x02 || (eqb c 0xD8 || eqb c 0xC7) ≡ true → let f = figures_of d.part in let at = address_of f sent in
      sound (turned (row_of f c).turn f (resting d true) at sent) ≡ true → Waits d (turned (row_of f c).turn f (resting d true) at sent) xs (changed (row_of f c).turn f at sent)
  unfolding row_of turned changed cycle_of page_cycle erase_cycle all_cycle moded remembering
  turned-waits sent =
      let f = figures_of d.part in
      let at = address_of f sent in
      codes-ind (λ (c : ℕ). sound (turned (row_of f c).turn f (resting d true) at sent) ≡ true → Waits d (turned (row_of f c).turn f (resting d true) at sent) xs (changed (row_of f c).turn f at sent))
      (λ s. busy-waits (cycle_of Page f at sent) d.program s (omega arith) refl)
      (λ s. busy-waits (cycle_of Sector f at sent) d.sector_erase s (omega arith) refl)
      (λ s. busy-waits (cycle_of All f at sent) d.bulk_erase s (omega arith) refl)

-- ---- the four calls of a job, from standby

-- the number that a job's program or erase gets, which the array does not decide
abbrev pub number : Device → Job → ℕ
number d j = chip_number (resting d true) (row_in d j.sent) (length j.sent) j.pulses j.w₂ (address_of (figures_of d.part) j.sent)

-- what a job does to each byte: what its program or erase does where the answer is 0, nothing where not
abbrev pub effect : Device → Job → ℕ → ℕ → ℕ
effect d j = cond (eqb (number d j) 0) (own (figures_of d.part) j.sent) as_it_was

module _ (d : Device) (s : sound d ≡ true) (xs : List ℕ) (z : length xs ≡ (figures_of d.part).bytes) (l : Bool) (j : Job) (f : WellFormed j) where
  -- each byte touched once, with the cycle's last tick
  abbrev ys : List ℕ
  ys = map_at (effect d j) xs

  length-same : length ys ≡ (figures_of d.part).bytes
  length-same = length-map (effect d j) xs ∙ z

  -- call 1
  enabled-is : after (enable j) (chip (resting d l) xs) ≡ chip (resting d true) xs
  enabled-is = wren-is d s xs z l j.w₁

  pub enabled-number : (reply (enable j) (chip (resting d l) xs)).answer.number ≡ 0
  enabled-number = wren-number d s xs z l j.w₁

  -- call 2
  abbrev zeros : List ℕ
  zeros = replicate (length j.sent) 0

  carried : sent (chip (resting d true) xs) j.sent j.pulses j.w₂ ≡ outcome_of (decided 0 (number d j)) (resting d true) xs j.sent zeros
  unfolding sent moded remembering
  carried =
      called (resting d true) xs j.sent j.pulses j.w₂ zeros
      (no-refusal (resting d true) (length xs) (length j.sent) j.pulses (length zeros) (rest-sound d true s) z f.few f.pulses (omega (arith, length-replicate {A = ℕ} (length j.sent) 0)))

  pub answered-is : answered j (chip (resting d l) xs) ≡ number d j
  answered-is =
      ap (λ (c : Chip). (reply (carry j) c).answer.number) enabled-is ∙ (ap (λ (o : Outcome). o.answer.number) carried ∙ number_is (resting d true) xs j.sent zeros (number d j))

  abbrev going : Device
  going = cond (eqb (number d j) 0) (turned (row_in d j.sent).turn (figures_of d.part) (resting d true) (address_of (figures_of d.part) j.sent) j.sent) (resting d true)

  carried-is : after (carry j) (chip (resting d true) xs) ≡ chip going xs
  unfolding moded remembering
  carried-is =
      ap₂ chip (ap (λ (o : Outcome). o.device) carried ∙ device-is (resting d true) xs j.sent zeros (number d j))
      (ap (λ (o : Outcome). o.array) carried ∙ array-is (resting d true) xs j.sent zeros (number d j))

  two-are : run (enable j ∷ carry j ∷ []) (chip (resting d l) xs) ≡ chip going xs
  two-are = ap (after (carry j)) enabled-is ∙ carried-is

  -- call 3
  going-sound : sound going ≡ true
  going-sound = subst (λ (c : Chip). sound c.device ≡ true) carried-is (after-sound (carry j) (chip (resting d true) xs) (rest-sound d true s))

  going-waits : Waits d going xs (effect d j)
  going-waits = go (eqb (number d j) 0) going-sound
    where
      go : (b : Bool) → sound (cond b (turned (row_in d j.sent).turn (figures_of d.part) (resting d true) (address_of (figures_of d.part) j.sent) j.sent) (resting d true)) ≡ true
          → Waits d (cond b (turned (row_in d j.sent).turn (figures_of d.part) (resting d true) (address_of (figures_of d.part) j.sent) j.sent) (resting d true)) xs (cond b (own (figures_of d.part) j.sent) as_it_was)
      go true k = turned-waits d xs z j.sent (code j) f.kind k
      go false k = still-waits d xs z s

  three-are : run (enable j ∷ carry j ∷ rest (resting d l) ∷ []) (chip (resting d l) xs) ≡ chip (resting d going-waits.1.0) ys
  unfolding moded remembering
  three-are = ap (after (rest d)) two-are ∙ going-waits.1.1

  pub rested-number : (reply (rest (resting d l)) (run (enable j ∷ carry j ∷ []) (chip (resting d l) xs))).answer.number ≡ 0
  unfolding moded remembering
  rested-number = ap (λ (c : Chip). (reply (rest d) c).answer.number) two-are ∙ going-waits.0

  -- call 4
  pub disabled-number : (reply (disable j) (run (enable j ∷ carry j ∷ rest (resting d l) ∷ []) (chip (resting d l) xs))).answer.number ≡ 0
  disabled-number = ap (λ (c : Chip). (reply (disable j) c).answer.number) three-are ∙ wrdi-number d s ys length-same going-waits.1.0 j.w₃

  -- a job leaves the record in standby with the latch reset, and touches each byte once
  pub after_is : after_job j (chip (resting d l) xs) ≡ chip (resting d false) ys
  after_is = ap (after (disable j)) three-are ∙ wrdi-is d s ys length-same going-waits.1.0 j.w₃

-- ---- the number that a job's program or erase gets

-- a job sends something
some : (sent : List ℕ) → eqb (get_or sent 0 0) 0x02 || (eqb (get_or sent 0 0) 0xD8 || eqb (get_or sent 0 0) 0xC7) ≡ true → eqb (length sent) 0 ≡ false
some [] h = absurd (false≢true h)
some (b ∷ sent) h = eqb-suc-zero (length sent)

one_of_three : (x y : Bool) → ExecutedOr15Or17 (cond (not x) 15 (cond y 17 0))
one_of_three false y = inr (inl refl)
one_of_three true true = inr (inr refl)
one_of_three true false = inl refl

allowed : (d : Device) (n p : ℕ) (w : Bool) (at c : ℕ) → eqb n 0 ≡ false → eqb c 0x02 || (eqb c 0xD8 || eqb c 0xC7) ≡ true
    → ExecutedOr15Or17 (chip_number (resting d true) (row_of (figures_of d.part) c) n p w at)
unfolding chip_number row_of moded remembering
allowed d n p w at c e =
    codes-ind (λ (c : ℕ). ExecutedOr15Or17 (chip_number (resting d true) (row_of (figures_of d.part) c) n p w at))
    (rw e (one_of_three (as_needed (row_of (figures_of d.part) 0x02) n p) (protected_at (figures_of d.part) (resting d true) at)))
    (rw e (one_of_three (as_needed (row_of (figures_of d.part) 0xD8) n p) (protected_at (figures_of d.part) (resting d true) at)))
    (rw e (one_of_three (as_needed (row_of (figures_of d.part) 0xC7) n p) (protected_any (resting d true))))
    c

pub number-allowed : (d : Device) (j : Job) → WellFormed j → ExecutedOr15Or17 (number d j)
number-allowed d j w =
    allowed d (length j.sent) j.pulses j.w₂ (address_of (figures_of d.part) j.sent) (code j) (some j.sent w.kind) w.kind
