-- One step of a run: a call that is not refused does to the chip that hears it what its event does, and nothing to another.
-- Assumes nothing.
use mathlib.Core.Path.{◌≡◌, refl, sym, ap, ap₂, ◌∙◌}
use mathlib.Core.Bool.{Bool, true, false, not, false≢true}
use mathlib.Core.List.{List, [], ◌∷◌}
use Prim.Native.Nat.{ℕ, zero, suc, ◌≤◌, ◌<◌}
use native.Mathlib.Omega.{arith}
use borrow.Author.Tests.{eqb-true, eqb-false, eq-eqb, le-ltb}
use lib.Dec.{eqb, leb, ltb}
use lib.ListN.{length, set, take}
use lib.Seq.{length-take-le, get_or-set_same, get_or-set_other}
use Rattle.slices.specs.Changed.{map_from, map_at}
use Rattle.slices.specs.Chosen.{on_zero}
use Rattle.slices.proofs.Choices.{cond_ind}
use Rattle.parts.specs.Parts.{figures_of}
use Rattle.device.specs.declared.Device.{Device}
use Rattle.device.specs.Chip.{Chip}
use Rattle.device.specs.Time.{time_number, wait_call}
use Rattle.chip.specs.declared.answers.Verdict.{Verdict}
use Rattle.chip.specs.declared.answers.Verdict.TheVariants.{Refused, Ignored, Executed}
use Rattle.chip.specs.declared.Answer.{Answer}
use Rattle.chip.specs.Answers.{host_number, chip_number, verdict_of}
use Rattle.chip.specs.Table.{address_of, row_in}
use Rattle.chip.specs.Outcome.{Outcome, bare, outcome_of, transacted}
use Rattle.chip.specs.Events.{Good, sends, waits, sent, left, after, reply}
use Rattle.chip.proofs.Verdicts.{Decision, refuses, ignores, executes, verdict-is, not-refused}
use Rattle.chip.proofs.Rules.{array-stays, make-stays}
use Rattle.chip.proofs.Events.{sent_is, sent-room, taken-as-event}
use Rattle.bus.specs.Bus.{sum_of, all_sound, chips_in, nth}
use Rattle.bus.specs.Calls.{out_of_range, whole_number, wait_number, bus_number, bused, Shared, all_wait, bus_waited, Waited}
use Rattle.bus.specs.Runs.{refusal}
use Rattle.bus.proofs.Numbers.{Whole, wait-zero, bus-zero}
use Rattle.bus.proofs.Chips.{chips-length}
use Rattle.bus.proofs.Turns.{shared, done-is, refused-is}
use Rattle.bus.proofs.Waits.{passed_is}
use Rattle.bus.proofs.Whole.{Fills, all-fill, fills-after, fill-set, fill-map, chips-back, nth-map, nth-good}

-- ---- numbers that are no refusals

abbrev Clear : ℕ → Type 0
Clear n = refusal n ≡ false → n ≡ 0

not-clear : (n : ℕ) → refusal n ≡ true → Clear n
not-clear n e f = absurd (false≢true (sym f ∙ e))

whole-clear : (row : List Device) (array : ℕ) → Clear (whole_number row array)
unfolding whole_number
whole-clear row array = cond_ind Clear (not (all_sound row)) (not-clear 6 refl) (cond_ind Clear (not (eqb array (sum_of row))) (not-clear 53 refl) (λ e. refl))

wait-clear : (row : List Device) (array : ℕ) → Clear (wait_number row array)
unfolding wait_number
wait-clear row array = cond_ind Clear (out_of_range (length row)) (not-clear 51 refl) (whole-clear row array)

bus-clear : (row : List Device) (array k : ℕ) → Clear (bus_number row array k)
unfolding bus_number
bus-clear row array k = cond_ind Clear (out_of_range (length row)) (not-clear 51 refl) (cond_ind Clear (leb (length row) k) (not-clear 52 refl) (whole-clear row array))

host-clear : (c : Chip) → Good c → (n p r : ℕ) → Clear (host_number c.device (length c.array) n p r)
unfolding host_number
host-clear c g n p r = rw (g.sound, eq-eqb (length c.array) (figures_of c.device.part).bytes g.whole) (cond_ind Clear (ltb 65536 n) (not-clear 3 refl) (cond_ind Clear (ltb 7 p) (not-clear 4 refl) (cond_ind Clear (ltb r n) (not-clear 5 refl) (λ e. refl))))

-- ---- a transaction

take-from : (n k : ℕ) (f : ℕ → ℕ → ℕ) (xs : List ℕ) → take n (map_from k f xs) ≡ map_from k f (take n xs)
take-from zero k f xs = refl
take-from (suc n) k f [] = refl
take-from (suc n) k f (x ∷ xs) = ap (λ (t : List ℕ). f k x ∷ t) (take-from n (suc k) f xs)

-- with room for it, the line is that of the event
line-room : (c : Chip) → Good c → (bytes : List ℕ) (p : ℕ) (w : Bool) (r : List ℕ) → length bytes ≤ 65536 → p ≤ 7 → length bytes ≤ length r
    → take (length bytes) (transacted c.device c.array bytes p w r).response ≡ (sent c bytes p w).response
unfolding transacted outcome_of map_at verdict_of host_number
line-room c g bytes p w r few pulses room =
    let n = length bytes in
    let l : length (take n r) ≡ n = length-take-le n r room in
    let v : verdict_of c.device (length c.array) bytes p w (length r) ≡ verdict_of c.device (length c.array) bytes p w (length (take n r)) = rw (le-ltb (length r) n room, le-ltb (length (take n r)) n (omega arith)) in
    same (verdict_of c.device (length c.array) bytes p w (length r))
    ∙ (ap (λ (x : Verdict). (outcome_of x c.device c.array bytes (take n r)).response) v
    ∙ ap (λ (o : Outcome). o.response) (sent_is c g bytes p w few pulses (take n r) l))
  where
    same : (v : Verdict) → take (length bytes) (outcome_of v c.device c.array bytes r).response ≡ (outcome_of v c.device c.array bytes (take (length bytes) r)).response
    same (Refused k) = refl
    same (Ignored k) = take-from (length bytes) 0 _ r
    same Executed = take-from (length bytes) 0 _ r

module _ (row : List Device) (array : List ℕ) (j : ℕ) (bytes : List ℕ) (p : ℕ) (w : Bool) (r : List ℕ) where
  abbrev out : Shared
  out = bused row array j bytes p w r

  abbrev c : Chip
  c = nth (chips_in row array) j

  abbrev o : Outcome
  o = transacted c.device c.array bytes p w r

  module _ (z : bus_number row (length array) j ≡ 0) where
    whole : Whole row (length array)
    whole = (bus-zero row (length array) j z).0

    in_row : j < length (chips_in row array)
    in_row = let l = chips-length row array in let h = (bus-zero row (length array) j z).1 in omega arith

    good : Good c
    good = nth-good row array j (bus-zero row (length array) j z).1 whole.sound whole.sum

    -- the chips afterwards: the chosen one as its transaction leaves it, the others as they were
    pub chips-after : chips_in out.row out.array ≡ set (chips_in row array) j (left o)
    chips-after =
        let f : Fills (left o) = ap length (array-stays c.device c.array bytes p w r) ∙ (good.whole ∙ ap (λ (q : ℕ). (figures_of q).bytes) (sym (make-stays c.device c.array bytes p w r).part)) in
        ap (λ (s : Shared). chips_in s.row s.array) (done-is row array j bytes p w r z) ∙ chips-back (set (chips_in row array) j (left o)) (fill-set (chips_in row array) j (left o) (all-fill row array whole.sum) f)

  -- the bus did not refuse it
  taken : refusal out.answer.number ≡ false → bus_number row (length array) j ≡ 0
  unfolding bused
  taken f = go (bus_number row (length array) j) refl _ _ refl f
    where
      go : (n : ℕ) → bus_number row (length array) j ≡ n → (x y : Shared) → y.answer.number ≡ bus_number row (length array) j → refusal (on_zero n x y).answer.number ≡ false → bus_number row (length array) j ≡ 0
      go zero e x y q f = e
      go (suc n) e x y q f = bus-clear row (length array) j (ap refusal (sym q) ∙ f)

  module _ (f : refusal out.answer.number ≡ false) where
    is : out ≡ shared row array j o
    is = done-is row array j bytes p w r (taken f)

    -- nor did the chosen chip, by 3, 4 or 5
    host : host_number c.device (length c.array) (length bytes) p (length r) ≡ 0
    unfolding transacted outcome_of
    host = go (verdict-is c.device (length c.array) bytes p w (length r)) (ap (λ (s : Shared). refusal s.answer.number) (sym is) ∙ f)
      where
        go : {v : Verdict} → Decision (host_number c.device (length c.array) (length bytes) p (length r)) (chip_number c.device (row_in c.device bytes) (length bytes) p w (address_of (figures_of c.device.part) bytes)) v
            → refusal (outcome_of v c.device c.array bytes r).answer.number ≡ false → host_number c.device (length c.array) (length bytes) p (length r) ≡ 0
        go (refuses a) e = host-clear c (good (taken f)) (length bytes) p (length r) e
        go (ignores a b) e = a
        go (executes a b) e = a

    -- the chosen chip is as its event leaves it
    pub asked-chip : nth (chips_in out.row out.array) j ≡ after (sends bytes p w) c
    asked-chip = ap (λ (cs : List Chip). nth cs j) (chips-after (taken f)) ∙ (get_or-set_same (chips_in row array) j (left o) _ (in_row (taken f)) ∙ taken-as-event c bytes p w r host)

    -- and what the caller sees is what the event shows
    pub asked-reply : record { answer = out.answer; line = take (length bytes) out.response } ≡ reply (sends bytes p w) c
    asked-reply =
        let h = not-refused c.device (length c.array) (length bytes) p (length r) host in
        ap₂ (λ (a : Answer) (l : List ℕ). record { answer = a; line = l })
        (ap (λ (s : Shared). s.answer) is ∙ (sent-room c bytes p w r h.room).0)
        (ap (λ (s : Shared). take (length bytes) s.response) is ∙ line-room c (good (taken f)) bytes p w r h.short h.few h.room)

  -- another chip's record and bytes stay, refused or not
  pub other-stays : (k : ℕ) → (k ≡ j → ⊥) → nth (chips_in out.row out.array) k ≡ nth (chips_in row array) k
  other-stays k h = go (eqb (bus_number row (length array) j) 0) refl
    where
      go : (t : Bool) → eqb (bus_number row (length array) j) 0 ≡ t → nth (chips_in out.row out.array) k ≡ nth (chips_in row array) k
      go true e = ap (λ (cs : List Chip). nth cs k) (chips-after (eqb-true (bus_number row (length array) j) 0 e)) ∙ get_or-set_other (chips_in row array) j k (left o) _ h
      go false e = ap (λ (s : Shared). nth (chips_in s.row s.array) k) (sym (refused-is row array j bytes p w r (eqb-false (bus_number row (length array) j) 0 e)))

-- ---- a wait

module _ (row : List Device) (array : List ℕ) (t : ℕ) where
  abbrev past : Waited
  past = bus_waited row array t

  waited : refusal past.answer ≡ false → wait_number row (length array) ≡ 0
  unfolding bus_waited
  waited f = go (wait_number row (length array)) refl _ _ refl f
    where
      go : (n : ℕ) → wait_number row (length array) ≡ n → (x y : Waited) → y.answer ≡ wait_number row (length array) → refusal (on_zero n x y).answer ≡ false → wait_number row (length array) ≡ 0
      go zero e x y q f = e
      go (suc n) e x y q f = wait-clear row (length array) (ap refusal (sym q) ∙ f)

  module _ (f : refusal past.answer ≡ false) (k : ℕ) (there : k < length row) where
    abbrev one : Chip
    one = nth (chips_in row array) k

    ready : Whole row (length array)
    ready = wait-zero row (length array) (waited f)

    -- each chip is as its event leaves it
    pub waited-chip : nth (chips_in past.row past.array) k ≡ after (waits t) one
    waited-chip =
        let l = chips-length row array in
        ap (λ (s : Waited). nth (chips_in s.row s.array) k) (passed_is row array t (waited f))
        ∙ (ap (λ (cs : List Chip). nth cs k) (chips-back (all_wait (chips_in row array) t) (fill-map (λ (d : Chip). (wait_call d t).chip) (fills-after (waits t)) (chips_in row array) (all-fill row array ready.sum)))
        ∙ nth-map (λ (d : Chip). (wait_call d t).chip) (chips_in row array) k (omega arith))

    pub waited-reply : record { answer = bare past.answer; line = [] } ≡ reply (waits t) one
    unfolding wait_call time_number
    waited-reply =
        let g = nth-good row array k there ready.sound ready.sum in
        ap (λ (s : Waited). record { answer = bare s.answer; line = [] }) (passed_is row array t (waited f)) ∙ rw (g.sound, eq-eqb (length one.array) (figures_of one.device.part).bytes g.whole)
