-- What the C calls of a bus give, by the row's length and by what the bus answers; that each promise admits one outcome only; and what becomes of the row's bytes.
-- Assumes nothing.
use mathlib.Core.Path.{◌≡◌, refl, sym, ap, ap₂, ◌∙◌}
use mathlib.Core.Bool.{Bool, true, false, not}
use mathlib.Core.List.{List, [], ◌∷◌, ◌++◌, append-nil, append_assoc}
use Prim.Native.Nat.{ℕ, zero, suc, ◌+◌, ◌-◌, ◌*◌, ◌/◌, ◌%◌, ◌≤◌, ◌<◌}
use native.Mathlib.Omega.{arith}
use borrow.Author.Tests.{leb-true, leb-false, ne_eqb, eqb-true, eqb-false}
use lib.Dec.{eqb, leb, lit≤}
use lib.ListN.{length, get_or, set, take, drop, length-append, length-set, drop_of_length-le, get_or-append}
use lib.Seq.{length-take-le, take_all, take_at, drop_at, drop-cons, get_or-set_same}
use Rattle.slices.specs.Chosen.{on_zero}
use Rattle.slices.proofs.Choices.{both, other, cond_ind, zero-ind}
use Rattle.memory.specs.Missing.{most_missing}
use Rattle.device.specs.declared.Device.{Device}
use Rattle.device.specs.Device.{sound, zero_record}
use Rattle.device.specs.Chip.{Chip, chip}
use Rattle.device.specs.Packing.{pack_of}
use Rattle.chip.specs.declared.Answer.{Answer}
use Rattle.chip.specs.Outcome.{bare}
use Rattle.chip.specs.Events.{left}
use Rattle.chip.proofs.Records.{wait-sound}
use Rattle.chip.proofs.Rules.{answer-few, stays-sound}
use Rattle.bus.specs.Bus.{bytes_of, sum_of, all_sound, chips_in, row_of, nth}
use Rattle.bus.specs.Runs.{asks, passes, next}
use Rattle.bus.specs.Calls.{out_of_range, whole_number, wait_number, bus_number, Shared, chosen, bused, Waited, all_wait, bus_waited, Turns, Passes}
use Rattle.bus.proofs.Numbers.{out-above, wait-zero, bus-zero}
use Rattle.bus.proofs.Chips.{chip-at, row-set}
use Rattle.bus.proofs.Waits.{waited-length}
use Rattle.bus.proofs.Theorems.{only_zero, only-zero-waits}
use Rattle.m25p.specs.Calls.{packed_answer, high}
use Rattle.m25p.specs.Bus.{records_in, packed_row, bused_c, BusedC, bus_waited_c, BusWaitedC}
use Rattle.m25p.proofs.Records.{records-count, sound-at, pack-long, packed-one, records-back}

-- a row of more than nine records has nine first ones
nine-first : (ds : List Device) → leb (length ds) 9 ≡ false → (8 < length ds) × (8 < length (take 9 ds))
nine-first ds e = let h = leb-false (length ds) 9 e in let l = length-take-le 9 ds (omega arith) in (omega arith, omega (arith, l))

-- ---- a wait

-- the first nine of a row's records answer as the row does
record SameWait (p o : Waited) : Type 0 where
  answer : p.answer ≡ o.answer
  row : p.answer ≡ 0 → p.row ≡ o.row
  array : p.array ≡ o.array

wait-out : (ds : List Device) (xs : List ℕ) (t : ℕ) → 8 < length ds → bus_waited ds xs t ≡ record { answer = 51; row = ds; array = xs }
unfolding bus_waited wait_number
wait-out ds xs t h = rw (out-above (length ds) h)

wait-nine : (ds : List Device) (xs : List ℕ) (t : ℕ) → SameWait (bus_waited (take 9 ds) xs t) (bus_waited ds xs t)
wait-nine ds xs t = go (leb (length ds) 9) refl
  where
    go : (b : Bool) → leb (length ds) 9 ≡ b → SameWait (bus_waited (take 9 ds) xs t) (bus_waited ds xs t)
    go true e = rw (take_all 9 ds (leb-true (length ds) 9 e)) (record { answer = refl; row = λ z. refl; array = refl })
    go false e =
        let p = wait-out (take 9 ds) xs t (nine-first ds e).1 in
        let o = wait-out ds xs t (nine-first ds e).0 in
        rw (p, o) (record { answer = refl; row = λ z. let y : ◌≡◌ {A = ℕ} 51 0 = z in absurd (omega arith); array = refl })

-- sound records stay sound
all-wait-sound : (ds : List Device) (xs : List ℕ) (t : ℕ) → all_sound ds ≡ true → all_sound (row_of (all_wait (chips_in ds xs) t)) ≡ true
all-wait-sound [] xs t s = refl
all-wait-sound (d ∷ ds) xs t s =
    let p = both (sound d) (all_sound ds) s in
    rw (wait-sound (chip d (take (bytes_of d) xs)) t p.0) (all-wait-sound ds (drop (bytes_of d) xs) t p.1)

-- an answer of 0: there are at most eight, and they are sound then
waited-zero : (ds : List Device) (xs : List ℕ) (t : ℕ) → (bus_waited ds xs t).answer ≡ 0 → (length ds ≤ 8) × (all_sound (bus_waited ds xs t).row ≡ true)
unfolding bus_waited
waited-zero ds xs t z = go (wait_number ds (length xs)) refl _ _ (all-wait-sound ds xs t) refl z
  where
    go : (b : ℕ) → wait_number ds (length xs) ≡ b → (x y : Waited) → (all_sound ds ≡ true → all_sound x.row ≡ true) → y.answer ≡ wait_number ds (length xs) → (on_zero b x y).answer ≡ 0
        → (length ds ≤ 8) × (all_sound (on_zero b x y).row ≡ true)
    go zero e x y p q z = let w = wait-zero ds (length xs) e in (w.few, p w.sound)
    go (suc b) e x y p q z = let h = sym e ∙ (sym q ∙ z) in absurd (omega (arith, h))

-- its numbers are few
pub waited-few : (ds : List Device) (xs : List ℕ) (t : ℕ) → (bus_waited ds xs t).answer ≤ 53
unfolding bus_waited wait_number whole_number
waited-few ds xs t =
    let P : ℕ → Type 0 = λ n. n ≤ 53 in
    zero-ind (λ (o : Waited). o.answer ≤ 53) (wait_number ds (length xs)) (lit≤ tt)
    (cond_ind P (out_of_range (length ds)) (lit≤ tt) (cond_ind P (not (all_sound ds)) (lit≤ tt) (cond_ind P (not (eqb (length xs) (sum_of ds))) (lit≤ tt) (lit≤ tt))))

module _ (row array : List ℕ) (t : ℕ) where
  -- a row that is no multiple of a packing's length
  wait-odd-is : (length row % 304 ≡ 0 → ⊥) → bus_waited_c row array t ≡ record { answer = 8; row = records_in row; array = array }
  unfolding bus_waited_c
  wait-odd-is n = rw (ne_eqb (length row % 304) 0 n)

  pub wait-odd : {r : ℕ} → (length row % 304 ≡ 0 → ⊥) → r ≡ packed_answer (bare 8) → BusWaitedC (bus_waited_c row array t) row r row array
  wait-odd n e = rw (wait-odd-is n) (record { answer = e; bytes = refl; memory = refl })

  -- one that is: what the bus does with its records
  wait-even : length row % 304 ≡ 0 → bus_waited_c row array t ≡ bus_waited (records_in row) array t
  unfolding bus_waited_c
  wait-even m = rw m

  -- as the code goes: the records that were read, and the wait of them
  module _ (records : List Device) (e : take (length row / 304) records ≡ take 9 (records_in row)) (m : length row % 304 ≡ 0) {a : ℕ} {next : List Device} {array' : List ℕ}
      (p : Passes (length row / 304) records (bus_waited (take (length row / 304) records) array t) a next array') where
    abbrev waited : Waited
    waited = bus_waited (records_in row) array t

    wait-same : SameWait (bus_waited (take (length row / 304) records) array t) waited
    wait-same = rw e (wait-nine (records_in row) array t)

    wait-says : a ≡ waited.answer
    wait-says = p.answer ∙ wait-same.answer

    pub wait-kept : {r : ℕ} → (a ≡ 0 → ⊥) → r ≡ packed_answer (bare a) → BusWaitedC (bus_waited_c row array t) row r row array'
    wait-kept n h =
        rw (wait-even m) (record {
          answer = h ∙ ap (λ (k : ℕ). packed_answer (bare k)) wait-says;
          bytes = other waited.answer (packed_row waited.row) row (λ z. n (wait-says ∙ z));
          memory = p.memory ∙ wait-same.array;
        })

    module _ (z : a ≡ 0) where
      zero_is : waited.answer ≡ 0
      zero_is = sym wait-says ∙ z

      first-is : take (length row / 304) next ≡ waited.row
      first-is =
          ap (take (length row / 304)) (p.records ∙ ap (λ (l : List Device). l ++ drop (length row / 304) records) (wait-same.row (sym p.answer ∙ z)))
          ∙ take_at waited.row (drop (length row / 304) records) (length row / 304) (waited-length (records_in row) array t ∙ records-count row)

      pub wait-fits : (length row / 304 ≤ 9) × ((0 + length (take (length row / 304) next)) * 304 ≤ length row) × (all_sound (take (length row / 304) next) ≡ true)
      wait-fits =
          let w = waited-zero (records_in row) array t zero_is in
          let c = records-count row in
          let l = ap length first-is ∙ waited-length (records_in row) array t in
          (omega (arith, c, w.0), omega (arith, l, c), rw first-is w.1)

      pub wait-wrote : {r : ℕ} {row' : List ℕ} → row' ≡ take (0 * 304) row ++ (packed_row (take (length row / 304) next) ++ drop ((0 + length (take (length row / 304) next)) * 304) row) → r ≡ packed_answer (bare 0) → BusWaitedC (bus_waited_c row array t) row r row' array'
      wait-wrote q h =
          let l = ap length first-is ∙ waited-length (records_in row) array t in
          let c = records-count row in
          let d : drop ((0 + length (take (length row / 304) next)) * 304) row ≡ [] = drop_of_length-le row {i = (0 + length (take (length row / 304) next)) * 304} (omega (arith, m, l, c)) in
          rw (wait-even m) (record {
            answer = h ∙ ap (λ (k : ℕ). packed_answer (bare k)) (sym zero_is);
            bytes = rw zero_is (q ∙ rw (d, first-is) (append-nil (packed_row waited.row)));
            memory = p.memory ∙ wait-same.array;
          })

-- ---- a transaction

record SameTurn (p o : Shared) : Type 0 where
  answer : p.answer ≡ o.answer
  row : p.answer.number ≡ 0 → p.row ≡ o.row
  array : p.array ≡ o.array
  response : p.response ≡ o.response

-- an answer of 0: there are at most eight sound records, and one of them is another sound one
record OneSet (ds : List Device) (k : ℕ) (o : Shared) : Type 0 where
  few : length ds ≤ 8
  there : k < length ds
  all : all_sound ds ≡ true
  device : Device
  device-sound : sound device ≡ true
  row : o.row ≡ set ds k device

module _ (xs : List ℕ) (k : ℕ) (sent : List ℕ) (pulses : ℕ) (w : Bool) (response : List ℕ) where
  abbrev turn : List Device → Shared
  turn ds = bused ds xs k sent pulses w response

  turn-out : (ds : List Device) → 8 < length ds → turn ds ≡ record { answer = bare 51; row = ds; array = xs; response = response }
  unfolding bused bus_number
  turn-out ds h = rw (out-above (length ds) h)

  turn-nine : (ds : List Device) → SameTurn (turn (take 9 ds)) (turn ds)
  turn-nine ds = go (leb (length ds) 9) refl
    where
      go : (b : Bool) → leb (length ds) 9 ≡ b → SameTurn (turn (take 9 ds)) (turn ds)
      go true e = rw (take_all 9 ds (leb-true (length ds) 9 e)) (record { answer = refl; row = λ z. refl; array = refl; response = refl })
      go false e =
          let p = turn-out (take 9 ds) (nine-first ds e).1 in
          let o = turn-out ds (nine-first ds e).0 in
          rw (p, o) (record { answer = refl; row = λ z. let y : ◌≡◌ {A = ℕ} 51 0 = z in absurd (omega arith); array = refl; response = refl })

  chosen-sound : (ds : List Device) → all_sound ds ≡ true → k < length ds → sound (chosen (chips_in ds xs) k sent pulses w response).device ≡ true
  unfolding chosen
  chosen-sound ds s h = stays-sound _ _ sent pulses w response (ap (λ (c : Chip). sound c.device) (chip-at ds xs k h) ∙ sound-at ds k s h)

  turned_zero : (ds : List Device) → (turn ds).answer.number ≡ 0 → OneSet ds k (turn ds)
  unfolding bused
  turned_zero ds z = go (bus_number ds (length xs) k) refl (left (chosen (chips_in ds xs) k sent pulses w response)) _ _ refl (chosen-sound ds) refl z
    where
      go : (b : ℕ) → bus_number ds (length xs) k ≡ b → (c : Chip) (x y : Shared) → x.row ≡ row_of (set (chips_in ds xs) k c) → (all_sound ds ≡ true → k < length ds → sound c.device ≡ true)
          → y.answer.number ≡ bus_number ds (length xs) k → (on_zero b x y).answer.number ≡ 0 → OneSet ds k (on_zero b x y)
      go zero e c x y p s q z =
          let h = bus-zero ds (length xs) k e in
          record { few = h.0.few; there = h.1; all = h.0.sound; device = c.device; device-sound = s h.0.sound h.1; row = p ∙ row-set ds xs k c }
      go (suc b) e c x y p s q z = let h = sym e ∙ (sym q ∙ z) in absurd (omega (arith, h))

  -- the numbers of its answer are few
  pub turned-few : (ds : List Device) {a : Answer} → a ≡ (turn ds).answer → (a.number ≤ 53) × (a.first ≤ 5) × (a.count ≤ 65536) × (a.missing ≤ most_missing)
  unfolding bused chosen bus_number whole_number
  turned-few ds {a} e =
      let f = answer-few (nth (chips_in ds xs) k).device (nth (chips_in ds xs) k).array sent pulses w response in
      let P : ℕ → Type 0 = λ n. n ≤ 53 in
      rw e (zero-ind (λ (o : Shared). (o.answer.number ≤ 53) × (o.answer.first ≤ 5) × (o.answer.count ≤ 65536) × (o.answer.missing ≤ most_missing)) (bus_number ds (length xs) k)
      (omega (arith, f.number), f.first, f.count, f.missing)
      (cond_ind P (out_of_range (length ds)) (lit≤ tt) (cond_ind P (leb (length ds) k) (lit≤ tt) (cond_ind P (not (all_sound ds)) (lit≤ tt) (cond_ind P (not (eqb (length xs) (sum_of ds))) (lit≤ tt) (lit≤ tt)))), lit≤ tt, lit≤ tt, lit≤ tt))

-- sound records with another sound one among them
sound-set : (ds : List Device) (k : ℕ) (d : Device) → all_sound ds ≡ true → sound d ≡ true → all_sound (set ds k d) ≡ true
sound-set [] k d s h = refl
sound-set (x ∷ ds) zero d s h = rw h (both (sound x) (all_sound ds) s).1
sound-set (x ∷ ds) (suc k) d s h = let p = both (sound x) (all_sound ds) s in rw p.0 (sound-set ds k d p.1 h)

-- one record of a row, with other places behind it
one-there : (ds rest next : List Device) (k : ℕ) (d : Device) → k < length ds → next ≡ set ds k d ++ rest → take (k + 1 - k) (drop k next) ≡ d ∷ []
one-there ds rest next k d h e =
    let n : k + 1 - k ≡ 1 = omega arith in
    let l : length next ≡ length ds + length rest = ap length e ∙ (length-append (set ds k d) rest ∙ ap (λ (x : ℕ). x + length rest) (length-set ds k d)) in
    let i : k < length (set ds k d) = let s = length-set ds k d in omega (arith, s, h) in
    let g : get_or next k zero_record ≡ d = ap (λ (t : List Device). get_or t k zero_record) e ∙ (get_or-append (set ds k d) rest zero_record k i ∙ get_or-set_same ds k d zero_record h) in
    ap (λ (x : ℕ). take x (drop k next)) n ∙ (ap (take 1) (drop-cons next k zero_record (omega (arith, l, h))) ∙ ap (λ (x : Device). x ∷ []) g)

module _ (row array : List ℕ) (k : ℕ) (sent : List ℕ) (pulses w : ℕ) (response : List ℕ) where
  -- a row that is no multiple of a packing's length
  turn-odd-is : (length row % 304 ≡ 0 → ⊥) → bused_c row array k sent pulses w response ≡ record { answer = bare 8; row = records_in row; array = array; response = response }
  unfolding bused_c
  turn-odd-is n = rw (ne_eqb (length row % 304) 0 n)

  pub turn_odd : {r : ℕ} → (length row % 304 ≡ 0 → ⊥) → r ≡ packed_answer (bare 8) → BusedC (bused_c row array k sent pulses w response) row r row array response
  turn_odd n e = rw (turn-odd-is n) (record { answer = e; bytes = refl; memory = refl; line = refl })

  -- one that is: what the bus does with its records
  turn_even : length row % 304 ≡ 0 → bused_c row array k sent pulses w response ≡ bused (records_in row) array k sent pulses (high w) response
  unfolding bused_c
  turn_even m = rw m

  -- as the code goes: the records that were read, and the transaction with one of them
  module _ (records : List Device) (e : take (length row / 304) records ≡ take 9 (records_in row)) (m : length row % 304 ≡ 0) {a : Answer} {next : List Device} {array' response' : List ℕ}
      (p : Turns (length row / 304) records (bused (take (length row / 304) records) array k sent pulses (high w) response) a next array' response') where
    abbrev turned : Shared
    turned = bused (records_in row) array k sent pulses (high w) response

    turn-same : SameTurn (bused (take (length row / 304) records) array k sent pulses (high w) response) turned
    turn-same = rw e (turn-nine array k sent pulses (high w) response (records_in row))

    turn-says : a ≡ turned.answer
    turn-says = p.answer ∙ turn-same.answer

    pub turn-few : a.missing ≤ most_missing
    turn-few = (turned-few array k sent pulses (high w) response (records_in row) turn-says).3

    pub turn-kept : {r : ℕ} → (a.number ≡ 0 → ⊥) → r ≡ packed_answer a → BusedC (bused_c row array k sent pulses w response) row r row array' response'
    turn-kept n h =
        rw (turn_even m) (record {
          answer = h ∙ ap packed_answer turn-says;
          bytes = other turned.answer.number (packed_row turned.row) row (λ z. n (ap (λ (x : Answer). x.number) turn-says ∙ z));
          memory = p.memory ∙ turn-same.array;
          line = p.line ∙ turn-same.response;
        })

    module _ (z : a.number ≡ 0) where
      number_is : turned.answer.number ≡ 0
      number_is = sym (ap (λ (x : Answer). x.number) turn-says) ∙ z

      set_is : OneSet (records_in row) k turned
      set_is = turned_zero array k sent pulses (high w) response (records_in row) number_is

      one-is : take (k + 1 - k) (drop k next) ≡ set_is.device ∷ []
      one-is =
          one-there (records_in row) (drop (length row / 304) records) next k set_is.device set_is.there
          (p.records ∙ ap (λ (l : List Device). l ++ drop (length row / 304) records) (turn-same.row (sym (ap (λ (x : Answer). x.number) p.answer) ∙ z) ∙ set_is.row))

      pub turn-fits : (k + 1 ≤ 9) × ((k + length (take (k + 1 - k) (drop k next))) * 304 ≤ length row) × (all_sound (take (k + 1 - k) (drop k next)) ≡ true)
      turn-fits =
          let c = records-count row in
          let s = set_is in
          (omega (arith, s.there, s.few), rw one-is (omega (arith, c, s.there)), rw (one-is, set_is.device-sound))

      pub turn-wrote : {r : ℕ} {row' : List ℕ} → row' ≡ take (k * 304) row ++ (packed_row (take (k + 1 - k) (drop k next)) ++ drop ((k + length (take (k + 1 - k) (drop k next))) * 304) row) → r ≡ packed_answer a
          → BusedC (bused_c row array k sent pulses w response) row r row' array' response'
      turn-wrote {r} {row'} q h =
          let c = records-count row in
          let d = set_is.device in
          let b : row' ≡ packed_row turned.row =
          q ∙ (ap (λ (l : List Device). take (k * 304) row ++ (packed_row l ++ drop ((k + length l) * 304) row)) one-is
          ∙ (ap (λ (l : List ℕ). take (k * 304) row ++ (l ++ drop ((k + 1) * 304) row)) (append-nil (pack_of d))
          ∙ (sym (packed-one row m set_is.all k d (omega (arith, c, set_is.there))) ∙ ap packed_row (sym set_is.row)))) in
          rw (turn_even m) (record {
            answer = h ∙ ap packed_answer turn-says;
            bytes = rw number_is b;
            memory = p.memory ∙ turn-same.array;
            line = p.line ∙ turn-same.response;
          })

-- ---- what the calls promise

-- the promises admit one outcome only
pub bus-transact-one-outcome : {o : Shared} {row row' row'' array' array'' response' response'' : List ℕ} {r s : ℕ} → BusedC o row r row' array' response' → BusedC o row s row'' array'' response''
    → (r ≡ s) × (row' ≡ row'') × (array' ≡ array'') × (response' ≡ response'')
bus-transact-one-outcome p q = (p.answer ∙ sym q.answer, p.bytes ∙ sym q.bytes, p.memory ∙ sym q.memory, p.line ∙ sym q.line)

pub bus-wait-one-outcome : {o : Waited} {row row' row'' array' array'' : List ℕ} {r s : ℕ} → BusWaitedC o row r row' array' → BusWaitedC o row s row'' array'' → (r ≡ s) × (row' ≡ row'') × (array' ≡ array'')
bus-wait-one-outcome p q = (p.answer ∙ sym q.answer, p.bytes ∙ sym q.bytes, p.memory ∙ sym q.memory)

module _ (row array : List ℕ) (t : ℕ) {r : ℕ} {row' array' : List ℕ} (b : BusWaitedC (bus_waited_c row array t) row r row' array') where
  abbrev ticked : Waited
  ticked = bus_waited_c row array t

  -- what a wait that answers 0 writes, and that another writes nothing
  wait-zero-reads : length row % 304 ≡ 0 → ticked.answer ≡ 0 → records_in row' ≡ ticked.row
  wait-zero-reads m z =
      let e = wait-even row array t m in
      let s = (waited-zero (records_in row) array t (sym (ap (λ (o : Waited). o.answer) e) ∙ z)).1 in
      ap records_in (b.bytes ∙ ap (λ (n : ℕ). on_zero n (packed_row ticked.row) row) z) ∙ records-back ticked.row (ap (λ (o : Waited). all_sound o.row) e ∙ s)

  wait-row-kept : (ticked.answer ≡ 0 → ⊥) → row' ≡ row
  wait-row-kept n = b.bytes ∙ sym (other ticked.answer (packed_row ticked.row) row n)

  -- THEOREM: whatever a wait answers, the records read back from the row's bytes are those of the definition
  pub wait-row-reads-back : records_in row' ≡ ticked.row
  wait-row-reads-back = go (eqb (length row % 304) 0) refl (eqb ticked.answer 0) refl
    where
      go : (m : Bool) → eqb (length row % 304) 0 ≡ m → (a : Bool) → eqb ticked.answer 0 ≡ a → records_in row' ≡ ticked.row
      go true m true a = wait-zero-reads (eqb-true (length row % 304) 0 m) (eqb-true ticked.answer 0 a)
      go true m false a =
          let e = wait-even row array t (eqb-true (length row % 304) 0 m) in
          let n = eqb-false ticked.answer 0 a in
          ap records_in (wait-row-kept n) ∙ sym (ap (λ (o : Waited). o.row) e ∙ (only-zero-waits (records_in row) array t (λ z. n (ap (λ (o : Waited). o.answer) e ∙ z))).0)
      go false m a q =
          let e = wait-odd-is row array t (eqb-false (length row % 304) 0 m) in
          ap records_in (wait-row-kept (λ z. let y = sym (ap (λ (o : Waited). o.answer) e) ∙ z in omega (arith, y))) ∙ sym (ap (λ (o : Waited). o.row) e)

  -- THEOREM: on a row that is no 8, the call is a step of a run of the bus, as read from the bytes
  pub wait-is-a-step : length row % 304 ≡ 0 → record { row = records_in row'; array = array' } ≡ next (passes t) (record { row = records_in row; array = array })
  wait-is-a-step m =
      let e = wait-even row array t m in
      ap₂ (λ (x : List Device) (y : List ℕ). record { row = x; array = y }) (wait-row-reads-back ∙ ap (λ (o : Waited). o.row) e) (b.memory ∙ ap (λ (o : Waited). o.array) e)

module _ (row array : List ℕ) (k : ℕ) (sent : List ℕ) (pulses w : ℕ) (response : List ℕ) {r : ℕ} {row' array' response' : List ℕ}
    (b : BusedC (bused_c row array k sent pulses w response) row r row' array' response') where
  abbrev out : Shared
  out = bused_c row array k sent pulses w response

  odd_number : (length row % 304 ≡ 0 → ⊥) → out.answer.number ≡ 0 → ⊥
  odd_number n z = let y = sym (ap (λ (o : Shared). o.answer.number) (turn-odd-is row array k sent pulses w response n)) ∙ z in omega (arith, y)

  zero-even : out.answer.number ≡ 0 → length row % 304 ≡ 0
  zero-even z = go (eqb (length row % 304) 0) refl
    where
      go : (c : Bool) → eqb (length row % 304) 0 ≡ c → length row % 304 ≡ 0
      go true e = eqb-true (length row % 304) 0 e
      go false e = absurd (odd_number (eqb-false (length row % 304) 0 e) z)

  -- an answer of 0: one record is another, and the row's bytes are the packings; with another they stay
  zero-set : out.answer.number ≡ 0 → OneSet (records_in row) k out
  zero-set z =
      let e = turn_even row array k sent pulses w response (zero-even z) in
      let s = turned_zero array k sent pulses (high w) response (records_in row) (sym (ap (λ (o : Shared). o.answer.number) e) ∙ z) in
      record { few = s.few; there = s.there; all = s.all; device = s.device; device-sound = s.device-sound; row = ap (λ (o : Shared). o.row) e ∙ s.row }

  zero-bytes : out.answer.number ≡ 0 → row' ≡ packed_row out.row
  zero-bytes z = b.bytes ∙ ap (λ (n : ℕ). on_zero n (packed_row out.row) row) z

  row_kept : (out.answer.number ≡ 0 → ⊥) → row' ≡ row
  row_kept n = b.bytes ∙ sym (other out.answer.number (packed_row out.row) row n)

  -- THEOREM: whatever a transaction answers, the records read back from the row's bytes are those of the definition
  pub row-reads-back : records_in row' ≡ out.row
  row-reads-back = go (eqb (length row % 304) 0) refl (eqb out.answer.number 0) refl
    where
      go : (m : Bool) → eqb (length row % 304) 0 ≡ m → (a : Bool) → eqb out.answer.number 0 ≡ a → records_in row' ≡ out.row
      go true m true a =
          let z = eqb-true out.answer.number 0 a in
          let s = zero-set z in
          ap records_in (zero-bytes z) ∙ records-back out.row (ap all_sound s.row ∙ sound-set (records_in row) k s.device s.all s.device-sound)
      go true m false a =
          let e = turn_even row array k sent pulses w response (eqb-true (length row % 304) 0 m) in
          let n = eqb-false out.answer.number 0 a in
          ap records_in (row_kept n) ∙ sym (ap (λ (o : Shared). o.row) e ∙ only_zero (records_in row) array k sent pulses (high w) response (λ z. n (ap (λ (o : Shared). o.answer.number) e ∙ z)))
      go false m a q =
          let n = eqb-false (length row % 304) 0 m in
          ap records_in (row_kept (odd_number n)) ∙ sym (ap (λ (o : Shared). o.row) (turn-odd-is row array k sent pulses w response n))

  -- THEOREM: on a row that is no 8, the call is a step of a run of the bus, as read from the bytes
  pub transact-is-a-step : length row % 304 ≡ 0 → record { row = records_in row'; array = array' } ≡ next (asks k sent pulses (high w) response) (record { row = records_in row; array = array })
  transact-is-a-step m =
      let e = turn_even row array k sent pulses w response m in
      ap₂ (λ (x : List Device) (y : List ℕ). record { row = x; array = y }) (row-reads-back ∙ ap (λ (o : Shared). o.row) e) (b.memory ∙ ap (λ (o : Shared). o.array) e)

  -- THEOREM: whatever a transaction answers, every byte of the row before and behind the packing of the chosen chip stays
  pub others-bytes-stay : (take (k * 304) row' ≡ take (k * 304) row) × (drop ((k + 1) * 304) row' ≡ drop ((k + 1) * 304) row)
  others-bytes-stay = go out.answer.number refl
    where
      go : (n : ℕ) → out.answer.number ≡ n → (take (k * 304) row' ≡ take (k * 304) row) × (drop ((k + 1) * 304) row' ≡ drop ((k + 1) * 304) row)
      go zero z =
          let s = zero-set z in
          let c = records-count row in
          let d = s.device in
          let x = take (k * 304) row in
          let y = drop ((k + 1) * 304) row in
          let e : row' ≡ x ++ (pack_of d ++ y) = zero-bytes z ∙ (ap packed_row s.row ∙ packed-one row (zero-even z) s.all k d (omega (arith, c, s.there))) in
          let l : length x ≡ k * 304 = length-take-le (k * 304) row (omega (arith, c, s.there)) in
          let m : length (x ++ pack_of d) ≡ (k + 1) * 304 = length-append x (pack_of d) ∙ (let p = pack-long d s.device-sound in omega (arith, l, p)) in
          (ap (take (k * 304)) e ∙ take_at x (pack_of d ++ y) (k * 304) l, ap (drop ((k + 1) * 304)) (e ∙ sym (append_assoc x (pack_of d) y)) ∙ drop_at (x ++ pack_of d) y ((k + 1) * 304) m)
      go (suc n) z = let e = row_kept (λ y. let h = sym z ∙ y in omega (arith, h)) in (ap (take (k * 304)) e, ap (drop ((k + 1) * 304)) e)
