-- What the numbers 51, 52, 6, 53 and 0 of a bus say.
-- Assumes nothing.
use mathlib.Core.Path.{◌≡◌, refl, sym, ap, ◌∙◌}
use mathlib.Core.Bool.{Bool, true, false, not, ◌||◌, false≢true}
use mathlib.Core.List.{List}
use Prim.Native.Nat.{ℕ, ◌≤◌, ◌<◌}
use native.Mathlib.Omega.{arith}
use borrow.Author.Tests.{ltb-false, leb-true, leb-false, eqb-true, eqb-false, not-false, lt-ltb, le-ltb, le-leb, lt-leb, eq-eqb, ne_eqb}
use lib.Dec.{eqb, leb, ltb}
use lib.ListN.{length, take}
use lib.Seq.{length-take-le, take_all}
use Rattle.slices.proofs.Choices.{past}
use Rattle.device.specs.declared.Device.{Device}
use Rattle.bus.specs.Bus.{sum_of, all_sound}
use Rattle.bus.specs.Calls.{out_of_range, whole_number, wait_number, bus_number}

or-false : (a b : Bool) → a || b ≡ false → (a ≡ false) × (b ≡ false)
or-false true b e = absurd (false≢true (sym e))
or-false false b e = (refl, e)

or-true : (a : Bool) → a || true ≡ true
or-true true = refl
or-true false = refl

-- one to eight
pub range-is : (n : ℕ) → out_of_range n ≡ false → (0 < n) × (n ≤ 8)
range-is n e =
    let p = or-false (eqb n 0) (ltb 8 n) e in
    let z = eqb-false n 0 p.0 in
    (omega arith, ltb-false 8 n p.1)

in-range : (n : ℕ) → 0 < n → n ≤ 8 → out_of_range n ≡ false
in-range n a b = rw (ne_eqb n 0 (λ e. omega arith), le-ltb 8 n b)

-- more than eight
pub out-above : (n : ℕ) → 8 < n → out_of_range n ≡ true
out-above n h = rw (lt-ltb 8 n h) (or-true (eqb n 0))

-- a row of one to eight sound records, beside an array that is the sum of their parts
pub record Whole (row : List Device) (array : ℕ) : Type 0 where
  pub some : 0 < length row
  pub few : length row ≤ 8
  pub sound : all_sound row ≡ true
  pub sum : array ≡ sum_of row

whole-zero : (row : List Device) (array : ℕ) → 0 < length row → length row ≤ 8 → whole_number row array ≡ 0 → Whole row array
unfolding whole_number
whole-zero row array some few e =
    let p = past (not (all_sound row)) 5 _ e in
    let q = past (not (eqb array (sum_of row))) 52 _ p.1 in
    record { some = some; few = few; sound = not-false (all_sound row) p.0; sum = eqb-true array (sum_of row) (not-false (eqb array (sum_of row)) q.0) }

-- 0 says that the row and the array are whole, and that the chosen chip is there
pub wait-zero : (row : List Device) (array : ℕ) → wait_number row array ≡ 0 → Whole row array
unfolding wait_number
wait-zero row array e =
    let p = past (out_of_range (length row)) 50 _ e in
    let r = range-is (length row) p.0 in
    whole-zero row array r.0 r.1 p.1

pub bus-zero : (row : List Device) (array k : ℕ) → bus_number row array k ≡ 0 → Whole row array × (k < length row)
unfolding bus_number
bus-zero row array k e =
    let p = past (out_of_range (length row)) 50 _ e in
    let q = past (leb (length row) k) 51 _ p.1 in
    let r = range-is (length row) p.0 in
    (whole-zero row array r.0 r.1 q.1, leb-false (length row) k q.0)

-- and the other way round
zero-whole : (row : List Device) (array : ℕ) → Whole row array → whole_number row array ≡ 0
unfolding whole_number
zero-whole row array h = rw (h.sound, eq-eqb array (sum_of row) h.sum)

pub zero-wait : (row : List Device) (array : ℕ) → Whole row array → wait_number row array ≡ 0
unfolding wait_number
zero-wait row array h = rw (in-range (length row) h.some h.few) (zero-whole row array h)

pub zero-bus : (row : List Device) (array k : ℕ) → Whole row array → k < length row → bus_number row array k ≡ 0
unfolding bus_number
zero-bus row array k h l = rw (in-range (length row) h.some h.few, lt-leb (length row) k l) (zero-whole row array h)

-- ---- a row that is the first n of nine places

module _ (ds : List Device) (n : ℕ) (nine : length ds ≡ 9) where
  -- the first n of nine places are in range exactly if n is
  range-take : out_of_range (length (take n ds)) ≡ out_of_range n
  range-take = go (leb n 9) refl
    where
      go : (t : Bool) → leb n 9 ≡ t → out_of_range (length (take n ds)) ≡ out_of_range n
      go true e = let h = leb-true n 9 e in ap out_of_range (length-take-le n ds (omega arith))
      go false e =
          let h = leb-false n 9 e in
          let l : length (take n ds) ≡ 9 = ap length (take_all n ds (omega arith)) ∙ nine in
          out-above (length (take n ds)) (omega arith) ∙ sym (out-above n (omega arith))

  -- and then there are n of them
  pub counted : out_of_range n ≡ false → length (take n ds) ≡ n
  counted e = let r = range-is n e in length-take-le n ds (omega arith)

  -- the numbers by the tests of n
  pub bus-absent : (array k : ℕ) → out_of_range n ≡ false → n ≤ k → 52 ≡ bus_number (take n ds) array k
  unfolding bus_number
  bus-absent array k e f = rw (range-take, e, counted e, le-leb n k f)

  pub bus-in : (array k : ℕ) → out_of_range n ≡ false → k < n → whole_number (take n ds) array ≡ bus_number (take n ds) array k
  unfolding bus_number
  bus-in array k e f = rw (range-take, e, counted e, lt-leb n k f)
