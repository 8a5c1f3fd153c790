-- Document 02, Wish 10: the others' records and bytes stay the same; two runs that agree on one chip give it the same answers; a row of one chip is the chip itself; and each promise admits one outcome only.
-- Assumes nothing.
use mathlib.Core.Path.{◌≡◌, refl, sym, ap, ap₂, subst, ◌∙◌}
use mathlib.Core.Bool.{Bool, true, false, cond, not}
use mathlib.Core.List.{List, [], ◌∷◌, ◌++◌, append-nil}
use Prim.Native.Nat.{ℕ, zero, suc, ◌+◌, ◌<◌}
use native.Mathlib.Omega.{arith}
use borrow.Author.Tests.{eqb-true, eqb-false, not-true, eq-eqb, ne_eqb}
use lib.Dec.{eqb}
use lib.ListN.{length, set, take}
use lib.Seq.{take_all, set-get_or}
use Rattle.slices.specs.Chosen.{on_zero}
use Rattle.slices.proofs.Choices.{both}
use Rattle.device.specs.declared.Device.{Device}
use Rattle.device.specs.Device.{sound, zero_record}
use Rattle.device.specs.Chip.{Chip, chip}
use Rattle.device.specs.Time.{time_number, wait_call}
use Rattle.chip.specs.declared.Answer.{Answer}
use Rattle.chip.specs.Answers.{host_number, decided, verdict_of}
use Rattle.chip.specs.Outcome.{Outcome, bare, outcome_of, transacted}
use Rattle.chip.specs.Events.{left, Good, Event, sends, Reply, after, reply, run, story}
use Rattle.chip.proofs.Rules.{array-stays, only-zero-changes}
use Rattle.bus.specs.Bus.{bytes_of, chips_in, nth}
use Rattle.bus.specs.Calls.{whole_number, wait_number, bus_number, Shared, bused, Bused, Waited, bus_waited, AllWaited}
use Rattle.bus.specs.Runs.{Bus, chip_of, Call, asks, passes, number_of, next, runs, refusal, none_refused, heard, given}
use Rattle.bus.proofs.Numbers.{Whole, bus-zero, zero-bus, zero-wait}
use Rattle.bus.proofs.Chips.{chip-at, row-set, array-in, array_same}
use Rattle.bus.proofs.Turns.{shared, done-is, refused-is}
use Rattle.bus.proofs.Waits.{passed_is}
use Rattle.bus.proofs.Turns.{turned-length}
use Rattle.bus.proofs.Waits.{waited-length}
use Rattle.bus.proofs.Runs.{asked-chip, asked-reply, other-stays, waited-chip, waited-reply}

suc-not-zero : {n : ℕ} → suc n ≡ 0 → ⊥
suc-not-zero e = omega arith

-- ---- the others

-- after a call to chip j every other chip has the record and the bytes that it had, whatever the call was answered
pub others-stay : (b : Bus) (j k : ℕ) (sent : List ℕ) (pulses : ℕ) (w : Bool) (response : List ℕ) → (k ≡ j → ⊥) → chip_of (next (asks j sent pulses w response) b) k ≡ chip_of b k
others-stay b j k sent pulses w response h = other-stays b.row b.array j sent pulses w response k h

-- a transaction changes no byte of the array: a cycle does, in a wait
pub bytes-stay : (row : List Device) (array : List ℕ) (j : ℕ) (sent : List ℕ) (pulses : ℕ) (w : Bool) (response : List ℕ) → (bused row array j sent pulses w response).array ≡ array
bytes-stay row array j sent pulses w response = go (eqb (bus_number row (length array) j) 0) refl
  where
    go : (t : Bool) → eqb (bus_number row (length array) j) 0 ≡ t → (bused row array j sent pulses w response).array ≡ array
    go true e =
        let z = eqb-true (bus_number row (length array) j) 0 e in
        let c = nth (chips_in row array) j in
        ap (λ (s : Shared). s.array) (done-is row array j sent pulses w response z)
        ∙ (array_same (chips_in row array) j (left (transacted c.device c.array sent pulses w response)) (array-stays c.device c.array sent pulses w response) ∙ array-in row array (bus-zero row (length array) j z).0.sum)
    go false e = ap (λ (s : Shared). s.array) (sym (refused-is row array j sent pulses w response (eqb-false (bus_number row (length array) j) 0 e)))

-- with any other answer than 0 the row stays, too
pub only_zero : (row : List Device) (array : List ℕ) (j : ℕ) (sent : List ℕ) (pulses : ℕ) (w : Bool) (response : List ℕ) → ((bused row array j sent pulses w response).answer.number ≡ 0 → ⊥)
    → (bused row array j sent pulses w response).row ≡ row
only_zero row array j sent pulses w response n = go (eqb (bus_number row (length array) j) 0) refl
  where
    go : (t : Bool) → eqb (bus_number row (length array) j) 0 ≡ t → (bused row array j sent pulses w response).row ≡ row
    go true e =
        let z = eqb-true (bus_number row (length array) j) 0 e in
        let c = nth (chips_in row array) j in
        let o = transacted c.device c.array sent pulses w response in
        let is = done-is row array j sent pulses w response z in
        let stays = (only-zero-changes c.device c.array sent pulses w response (λ q. n (ap (λ (s : Shared). s.answer.number) is ∙ q))).0 in
        let there = ap (λ (d : Chip). d.device) (chip-at row array j (bus-zero row (length array) j z).1) in
        ap (λ (s : Shared). s.row) is ∙ (row-set row array j (left o) ∙ (ap (set row j) (stays ∙ there) ∙ set-get_or row j zero_record))
    go false e = ap (λ (s : Shared). s.row) (sym (refused-is row array j sent pulses w response (eqb-false (bus_number row (length array) j) 0 e)))

-- and of a wait
pub only-zero-waits : (row : List Device) (array : List ℕ) (t : ℕ) → ((bus_waited row array t).answer ≡ 0 → ⊥) → ((bus_waited row array t).row ≡ row) × ((bus_waited row array t).array ≡ array)
unfolding bus_waited
only-zero-waits row array t n = go (wait_number row (length array)) _ _ refl refl refl n
  where
    go : (k : ℕ) (x y : Waited) → x.answer ≡ 0 → y.row ≡ row → y.array ≡ array → ((on_zero k x y).answer ≡ 0 → ⊥) → ((on_zero k x y).row ≡ row) × ((on_zero k x y).array ≡ array)
    go zero x y p q r n = absurd (n p)
    go (suc k) x y p q r n = (q, r)

-- ---- two runs

-- one transaction, and the rest of a run
module _ (k : ℕ) (cs : List Call) (b : Bus) (j : ℕ) (sent : List ℕ) (pulses : ℕ) (w : Bool) (response : List ℕ) where
  abbrev c : Call
  c = asks j sent pulses w response

  abbrev e : Event
  e = sends sent pulses w

  abbrev seen : Reply
  seen = record { answer = (bused b.row b.array j sent pulses w response).answer; line = take (length sent) (bused b.row b.array j sent pulses w response).response }

  asked-step : refusal (number_of c b) ≡ false → (given k cs (next c b) ≡ story (heard k cs) (chip_of (next c b) k)) × (chip_of (runs cs (next c b)) k ≡ run (heard k cs) (chip_of (next c b) k))
      → (t : Bool) → eqb j k ≡ t
      → (cond t (seen ∷ given k cs (next c b)) (given k cs (next c b)) ≡ story (cond t (e ∷ heard k cs) (heard k cs)) (chip_of b k)) × (chip_of (runs cs (next c b)) k ≡ run (cond t (e ∷ heard k cs) (heard k cs)) (chip_of b k))
  asked-step f ih true q =
      let same = eqb-true j k q in
      let r : chip_of (next c b) k ≡ after e (chip_of b k) = subst (λ (m : ℕ). chip_of (next c b) m ≡ after e (chip_of b m)) same (asked-chip b.row b.array j sent pulses w response f) in
      let v : seen ≡ reply e (chip_of b k) = subst (λ (m : ℕ). seen ≡ reply e (chip_of b m)) same (asked-reply b.row b.array j sent pulses w response f) in
      (ap₂ (λ (x : Reply) (xs : List Reply). x ∷ xs) v (ih.0 ∙ ap (story (heard k cs)) r), ih.1 ∙ ap (run (heard k cs)) r)
  asked-step f ih false q =
      let r = other-stays b.row b.array j sent pulses w response k (λ m. eqb-false j k q (sym m)) in
      (ih.0 ∙ ap (story (heard k cs)) r, ih.1 ∙ ap (run (heard k cs)) r)

-- a chip of a run in which no call is refused answers, and ends, as the chip alone does that is sent and waits the same
pub alone : (k : ℕ) (cs : List Call) (b : Bus) → k < length b.row → none_refused cs b ≡ true → (given k cs b ≡ story (heard k cs) (chip_of b k)) × (chip_of (runs cs b) k ≡ run (heard k cs) (chip_of b k))
alone k [] b there h = (refl, refl)
alone k (asks j sent pulses w response ∷ cs) b there h =
    let c = asks j sent pulses w response in
    let p = both (not (refusal (number_of c b))) (none_refused cs (next c b)) h in
    let l = turned-length b.row b.array j sent pulses w response in
    asked-step k cs b j sent pulses w response (not-true (refusal (number_of c b)) p.0) (alone k cs (next c b) (omega (arith, l, there)) p.1) (eqb j k) refl
alone k (passes t ∷ cs) b there h =
    let c = passes t in
    let p = both (not (refusal (number_of c b))) (none_refused cs (next c b)) h in
    let f = not-true (refusal (number_of c b)) p.0 in
    let l = waited-length b.row b.array t in
    let ih = alone k cs (next c b) (omega (arith, l, there)) p.1 in
    let r = waited-chip b.row b.array t f k there in
    (ap₂ (λ (x : Reply) (xs : List Reply). x ∷ xs) (waited-reply b.row b.array t f k there) (ih.0 ∙ ap (story (heard k cs)) r), ih.1 ∙ ap (run (heard k cs)) r)

-- two runs, neither refused, that agree on one chip's record and bytes and on what is sent to it and waited: the same answers and responses, the same record and bytes at the end, whatever the other chips are and are sent, their number and parts included
pub two_runs : (k l : ℕ) (cs ds : List Call) (a b : Bus) → k < length a.row → l < length b.row → none_refused cs a ≡ true → none_refused ds b ≡ true
    → chip_of a k ≡ chip_of b l → heard k cs ≡ heard l ds → (given k cs a ≡ given l ds b) × (chip_of (runs cs a) k ≡ chip_of (runs ds b) l)
two_runs k l cs ds a b ka lb na nb e q =
    let x = alone k cs a ka na in
    let y = alone l ds b lb nb in
    (x.0 ∙ (ap₂ story q e ∙ sym y.0), x.1 ∙ (ap₂ run q e ∙ sym y.1))

-- ---- a row of one chip

module _ (d : Device) (array : List ℕ) where
  good-whole : Good (chip d array) → Whole (d ∷ []) (length array)
  good-whole g = let w = g.whole in record { some = omega arith; few = omega arith; sound = rw g.sound; sum = omega arith }

  all-of-it : Good (chip d array) → take (bytes_of d) array ≡ array
  all-of-it g = let w = g.whole in take_all (bytes_of d) array (omega arith)

  module _ (sent : List ℕ) (pulses : ℕ) (w : Bool) (response : List ℕ) where
    -- what a transaction leaves, as a row of one: with this answer and otherwise what the chip alone leaves
    abbrev single : Answer → Outcome → Shared
    single a o = record { answer = a; row = o.device ∷ []; array = o.array; response = o.response }

    abbrev o : Outcome
    o = transacted d array sent pulses w response

    -- chip 0 of a row of one is the chip itself
    pub one-chip : Good (chip d array) → bused (d ∷ []) array 0 sent pulses w response ≡ single o.answer o
    one-chip g =
        done-is (d ∷ []) array 0 sent pulses w response (zero-bus (d ∷ []) (length array) 0 (good-whole g) (omega arith))
        ∙ (ap (λ (xs : List ℕ). shared (d ∷ []) array 0 (transacted d xs sent pulses w response)) (all-of-it g)
        ∙ ap (λ (xs : List ℕ). record { answer = o.answer; row = o.device ∷ []; array = xs; response = o.response }) (append-nil o.array))

    -- refused by both, with these numbers
    both-refuse : (x y : ℕ) → host_number d (length array) (length sent) pulses (length response) ≡ suc x → bus_number (d ∷ []) (length array) 0 ≡ suc y
        → (o.answer ≡ bare (suc x)) × (bused (d ∷ []) array 0 sent pulses w response ≡ single (bare (suc y)) o)
    unfolding transacted outcome_of verdict_of decided
    both-refuse x y h b =
        let k = sym (refused-is (d ∷ []) array 0 sent pulses w response (λ z. suc-not-zero (sym b ∙ z))) ∙ ap (λ (m : ℕ). record { answer = bare m; row = d ∷ []; array = array; response = response }) b in
        rw (h, ne_eqb (suc x) 0 suc-not-zero) (refl, k)

    -- 6 where the chip says 6
    pub one-unsound : sound d ≡ false → (o.answer ≡ bare 6) × (bused (d ∷ []) array 0 sent pulses w response ≡ single (bare 6) o)
    unfolding bus_number whole_number host_number
    one-unsound s = both-refuse 5 5 (rw s) (rw s)

    -- 53 where the chip says 2
    pub one-length : sound d ≡ true → (length array ≡ bytes_of d → ⊥) → (o.answer ≡ bare 2) × (bused (d ∷ []) array 0 sent pulses w response ≡ single (bare 53) o)
    unfolding bus_number whole_number host_number
    one-length s h = both-refuse 1 52 (rw (s, ne_eqb (length array) (bytes_of d) h)) (rw (s, ne_eqb (length array) (bytes_of d + 0) (λ e. h (omega arith))))

  module _ (t : ℕ) where
    abbrev after-all : ℕ → Waited
    after-all a = record { answer = a; row = (wait_call (chip d array) t).chip.device ∷ []; array = (wait_call (chip d array) t).chip.array }

    waits-zero : Good (chip d array) → 0 ≡ (wait_call (chip d array) t).answer
    unfolding wait_call time_number
    waits-zero g = rw (g.sound, eq-eqb (length array) (bytes_of d) g.whole)

    waits-refused : (x y : ℕ) → time_number d (length array) 0 ≡ suc x → wait_number (d ∷ []) (length array) ≡ suc y → ((wait_call (chip d array) t).answer ≡ suc x) × (bus_waited (d ∷ []) array t ≡ after-all (suc y))
    unfolding wait_call bus_waited
    waits-refused x y h b = rw (h, b) (refl, refl)

    -- the same of a wait
    pub one-waits-unsound : sound d ≡ false → ((wait_call (chip d array) t).answer ≡ 6) × (bus_waited (d ∷ []) array t ≡ after-all 6)
    unfolding wait_number whole_number time_number
    one-waits-unsound s = waits-refused 5 5 (rw s) (rw s)

    pub one-waits-length : sound d ≡ true → (length array ≡ bytes_of d → ⊥) → ((wait_call (chip d array) t).answer ≡ 2) × (bus_waited (d ∷ []) array t ≡ after-all 53)
    unfolding wait_number whole_number time_number
    one-waits-length s h = waits-refused 1 52 (rw (s, ne_eqb (length array) (bytes_of d) h)) (rw (s, ne_eqb (length array) (bytes_of d + 0) (λ e. h (omega arith))))

    pub one-waits : Good (chip d array) → bus_waited (d ∷ []) array t ≡ after-all (wait_call (chip d array) t).answer
    one-waits g =
        passed_is (d ∷ []) array t (zero-wait (d ∷ []) (length array) (good-whole g))
        ∙ (ap (λ (xs : List ℕ). record { answer = 0; row = (wait_call (chip d xs) t).chip.device ∷ []; array = (wait_call (chip d xs) t).chip.array ++ [] }) (all-of-it g)
        ∙ ap₂ (λ (a : ℕ) (xs : List ℕ). record { answer = a; row = (wait_call (chip d array) t).chip.device ∷ []; array = xs }) (waits-zero g) (append-nil (wait_call (chip d array) t).chip.array))

-- ---- one outcome only

pub transact-one-outcome : {o : Shared} {a b : Answer} {row row'' : List Device} {array array'' response response'' : List ℕ} → Bused o a row array response → Bused o b row'' array'' response''
    → (a ≡ b) × (row ≡ row'') × (array ≡ array'') × (response ≡ response'')
transact-one-outcome p q = (p.answer ∙ sym q.answer, p.records ∙ sym q.records, p.memory ∙ sym q.memory, p.line ∙ sym q.line)

pub wait-one-outcome : {o : Waited} {a b : ℕ} {row row'' : List Device} {array array'' : List ℕ} → AllWaited o a row array → AllWaited o b row'' array'' → (a ≡ b) × (row ≡ row'') × (array ≡ array'')
wait-one-outcome p q = (p.answer ∙ sym q.answer, p.records ∙ sym q.records, p.memory ∙ sym q.memory)
