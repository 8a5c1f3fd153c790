-- The proofs of `bus::lent::wait_lent`: one chip after the other waits.
-- Assumes nothing.
use mathlib.Core.Path.{◌≡◌, refl, sym, ap, ap₂, ◌∙◌}
use mathlib.Core.List.{List, [], ◌∷◌, ◌++◌, append_assoc, append-nil}
use Prim.Native.Nat.{ℕ, suc, ◌+◌, ◌-◌, ◌≤◌, ◌<◌}
use native.Mathlib.Nat.{add-zero}
use native.Mathlib.Numerals.{add-one}
use native.Mathlib.Omega.{arith}
use lib.ListN.{length, get_or, set, take, drop, length-set, length-append, length-drop}
use lib.Seq.{length-take-le, take_all, take-suc-set, drop-set-lt, drop-drop, get_or-drop, take_at, drop_at}
use Rattle.slices.proofs.Choices.{other, zero-ind}
use Rattle.refusals.specs.declared.Refusal.{Refusal}
use Rattle.refusals.specs.Numbers.{number_of}
use Rattle.device.specs.declared.Device.{Device}
use Rattle.device.specs.declared.Checked.{Checked}
use Rattle.device.specs.Device.{zero_record}
use Rattle.device.specs.Chip.{Chip, chip}
use Rattle.device.specs.Time.{wait_call, Handed}
use Rattle.chip.specs.Events.{waits}
use Rattle.chip.proofs.Events.{after-length}
use Rattle.bus.specs.Bus.{bytes_of, sum_of, chips_in, row_of, array_of, at}
use Rattle.bus.specs.Calls.{wait_number, Waited, all_wait, bus_waited, AllWaited}
use Rattle.bus.proofs.Rows.{at-any, sum-next, own_within}
use Rattle.bus.proofs.Numbers.{wait-zero}
use Rattle.refusals.proofs.Laws.{refused_by}
use Rattle.bus.proofs.Chips.{chips-next, row-append, array-append}

-- 0: what a wait leaves
pub passed_is : (row : List Device) (array : List ℕ) (t : ℕ) → wait_number row (length array) ≡ 0
    → bus_waited row array t ≡ record { answer = 0; row = row_of (all_wait (chips_in row array) t); array = array_of (all_wait (chips_in row array) t) }
unfolding bus_waited
passed_is row array t z = rw z

rows_long : (row : List Device) (array : List ℕ) (t : ℕ) → length (row_of (all_wait (chips_in row array) t)) ≡ length row
rows_long [] array t = refl
rows_long (d ∷ ds) array t = ap suc (rows_long ds (drop (bytes_of d) array) t)

-- as many records as before
pub waited-length : (row : List Device) (array : List ℕ) (t : ℕ) → length (bus_waited row array t).row ≡ length row
unfolding bus_waited
waited-length row array t = zero-ind (λ (s : Waited). length s.row ≡ length row) (wait_number row (length array)) (rows_long row array t) refl

wait-append : (a b : List Chip) (t : ℕ) → all_wait (a ++ b) t ≡ all_wait a t ++ all_wait b t
wait-append [] b t = refl
wait-append (c ∷ a) b t = ap (λ (x : List Chip). (wait_call c t).chip ∷ x) (wait-append a b t)

module _ (ds : List Device) (xs : List ℕ) (t : ℕ) where
  -- the first i chips t ticks later, and chip i
  abbrev done : ℕ → List Chip
  done i = all_wait (chips_in (take i ds) xs) t

  abbrev pub one : ℕ → Chip
  one i = chip (at ds i) (take (bytes_of (at ds i)) (drop (sum_of (take i ds)) xs))

  one_more : (i : ℕ) → i < length ds → done (suc i) ≡ done i ++ ((wait_call (one i) t).chip ∷ [])
  one_more i h = ap (λ (c : List Chip). all_wait c t) (chips-next ds xs i h) ∙ wait-append (chips_in (take i ds) xs) (one i ∷ []) t

  -- what is so before chip i waits: those before it have waited, those from it on have not
  pub record Going (i from : ℕ) (next : List Device) (array : List ℕ) : Type 0 where
    pub within : i ≤ length ds
    pub places : length next ≡ length ds
    pub lengths : length array ≡ length xs
    pub place : from ≡ sum_of (take i ds)
    pub rows : take i next ≡ row_of (done i)
    pub bytes : take from array ≡ array_of (done i)
    pub rows-ahead : drop i next ≡ drop i ds
    pub bytes-ahead : drop from array ≡ drop from xs

  pub going-first : Going 0 0 ds xs
  going-first = record { within = omega arith; places = refl; lengths = refl; place = refl; rows = refl; bytes = refl; rows-ahead = refl; bytes-ahead = refl }

  module _ (i from : ℕ) (next : List Device) (array : List ℕ) (g : Going i from next array) (more : i < length ds) where
    -- the record of chip i is still the one of the row
    pub going-record : (d : Device) → get_or next i d ≡ at ds i
    going-record d =
        let p = g.places in
        at-any next i d (omega arith) ∙ (ap (λ (m : ℕ). at next m) (sym (add-zero i)) ∙ (sym (get_or-drop i next 0 zero_record) ∙ (ap (λ (l : List Device). at l 0) g.rows-ahead ∙ (get_or-drop i ds 0 zero_record ∙ ap (λ (m : ℕ). at ds m) (add-zero i)))))

    module _ (whole : length xs ≡ sum_of ds) where
      -- and its bytes are in the array
      pub going-fits : from + bytes_of (at ds i) ≤ length array
      going-fits = let e = own_within ds i more in omega (arith, e, g.place, g.lengths, whole)

      pub going_next : (to : ℕ) → to ≡ from + bytes_of (at ds i) → {r : Checked} {ys : List ℕ} → Handed (wait_call (chip (at ds i) (take (to - from) (drop from array))) t) r ys
          → Going (i + 1) to (set next i r.device) (take from array ++ (ys ++ drop to array))
      going_next to q {r} {ys} m =
          let fits = going-fits in
          let b : to - from ≡ bytes_of (at ds i) = omega arith in
          let same : chip (at ds i) (take (to - from) (drop from array)) ≡ one i = ap₂ (λ (x : ℕ) (l : List ℕ). chip (at ds i) (take x l)) b (g.bytes-ahead ∙ ap (λ (f : ℕ). drop f xs) g.place) in
          let d : r.device ≡ (wait_call (one i) t).chip.device = m.device ∙ ap (λ (c : Chip). (wait_call c t).chip.device) same in
          let y : ys ≡ (wait_call (one i) t).chip.array = m.memory ∙ ap (λ (c : Chip). (wait_call c t).chip.array) same in
          let ly : length ys ≡ to - from =
          ap length m.memory ∙ (after-length (waits t) (chip (at ds i) (take (to - from) (drop from array))) ∙ (length-take-le (to - from) (drop from array) (let l = length-drop from array in omega arith))) in
          let lf : length (take from array) ≡ from = length-take-le from array (omega arith) in
          let pre : length (take from array ++ ys) ≡ to = length-append (take from array) ys ∙ omega arith in
          let asc : take from array ++ (ys ++ drop to array) ≡ (take from array ++ ys) ++ drop to array = sym (append_assoc (take from array) ys (drop to array)) in
          rw (add-one i) (record {
            within = omega arith;
            places = length-set next i r.device ∙ g.places;
            lengths = ap length asc ∙ (length-append (take from array ++ ys) (drop to array) ∙ (let l = length-drop to array in let v = g.lengths in omega arith));
            place = let e = sum-next ds i more in let p = g.place in omega arith;
            rows = take-suc-set next i r.device (let p = g.places in omega arith) ∙ (ap₂ (λ (u : List Device) (v : Device). u ++ (v ∷ [])) g.rows d ∙ (sym (row-append (done i) ((wait_call (one i) t).chip ∷ [])) ∙ ap row_of (sym (one_more i more))));
            bytes = ap (take to) asc ∙ (take_at (take from array ++ ys) (drop to array) to pre ∙ (ap₂ (λ (u v : List ℕ). u ++ v) g.bytes (y ∙ sym (append-nil (wait_call (one i) t).chip.array)) ∙ (sym (array-append (done i) ((wait_call (one i) t).chip ∷ [])) ∙ ap array_of (sym (one_more i more)))));
            rows-ahead = drop-set-lt (suc i) next i r.device (omega arith) ∙ ahead next ds i g.rows-ahead;
            bytes-ahead = ap (drop to) asc ∙ (drop_at (take from array ++ ys) (drop to array) to pre ∙ further array xs from to (omega arith) g.bytes-ahead);
          })
        where
          ahead : (u v : List Device) (j : ℕ) → drop j u ≡ drop j v → drop (suc j) u ≡ drop (suc j) v
          ahead u v j e = ap (λ (m : ℕ). drop m u) (sym (add-one j)) ∙ (sym (drop-drop 1 j u) ∙ (ap (drop 1) e ∙ (drop-drop 1 j v ∙ ap (λ (m : ℕ). drop m v) (add-one j))))

          further : (u v : List ℕ) (f g : ℕ) → f ≤ g → drop f u ≡ drop f v → drop g u ≡ drop g v
          further u v f g h e =
              let z : f + (g - f) ≡ g = omega arith in
              ap (λ (m : ℕ). drop m u) (sym z) ∙ (sym (drop-drop (g - f) f u) ∙ (ap (drop (g - f)) e ∙ (drop-drop (g - f) f v ∙ ap (λ (m : ℕ). drop m v) z)))

  -- all have waited
  pub going_end : (i from : ℕ) (next : List Device) (array : List ℕ) → Going i from next array → i ≡ length ds → wait_number ds (length xs) ≡ 0 → AllWaited (bus_waited ds xs t) 0 next array
  unfolding bus_waited
  going_end i from next array g e z =
      let whole = (wait-zero ds (length xs) z).sum in
      let all : take i ds ≡ ds = take_all i ds (omega arith) in
      let last : take from array ≡ array = take_all from array (let p = g.place ∙ ap sum_of all in let l = g.lengths in omega arith) in
      let rest : take i next ≡ next = take_all i next (let p = g.places in omega arith) in
      let ended : done i ≡ all_wait (chips_in ds xs) t = ap (λ (r : List Device). all_wait (chips_in r xs) t) all in
      rw z (record { answer = refl; records = sym rest ∙ (g.rows ∙ ap row_of ended); memory = sym last ∙ (g.bytes ∙ ap array_of ended) })

  -- refused: everything as it came
  pub wait-refused : (q : Refusal) → number_of q ≡ wait_number ds (length xs) → {r : ℕ} → r ≡ number_of q → AllWaited (bus_waited ds xs t) r ds xs
  unfolding bus_waited
  wait-refused q e {r} p =
      let f : record { answer = wait_number ds (length xs); row = ds; array = xs } ≡ bus_waited ds xs t = other (wait_number ds (length xs)) _ _ (λ z. refused_by q (e ∙ z)) in
      record { answer = p ∙ (e ∙ ap (λ (s : Waited). s.answer) f); records = ap (λ (s : Waited). s.row) f; memory = ap (λ (s : Waited). s.array) f }
