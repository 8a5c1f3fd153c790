-- READ and FAST_READ in standby: executed, record and array stay, and the response from byte 4, or 5, on is the array from the address on.
-- Assumes nothing.
use mathlib.Core.Path.{◌≡◌, refl, sym, ◌∙◌}
use mathlib.Core.Bool.{Bool}
use mathlib.Core.List.{List}
use Prim.Native.Nat.{ℕ, ◌+◌, ◌-◌, ◌%◌, ◌≤◌, ◌<◌}
use native.Mathlib.Nat.{mod-eq_of_lt}
use native.Mathlib.Omega.{arith}
use borrow.Author.Tests.{ne_eqb, le-leb, lt-ltb}
use lib.ListN.{length, get_or, take, drop, length-take, length-drop}
use lib.Seq.{ext_get_or, get_or-take, get_or-drop}
use Rattle.slices.proofs.Maps.{length-map, get_or-map, get_d_any}
use Rattle.parts.specs.Parts.{figures_of}
use Rattle.device.specs.declared.Mode.TheVariants.{Standby}
use Rattle.device.specs.declared.Device.{Device}
use Rattle.chip.specs.declared.table.Turn.TheVariants.{Keep}
use Rattle.chip.specs.declared.table.Drive.TheVariants.{Array}
use Rattle.chip.specs.declared.answers.Verdict.TheVariants.{Executed}
use Rattle.chip.specs.Table.{reading, row_of, address_of, row_in}
use Rattle.chip.specs.Answers.{chip_number, as_needed, decided, verdict_of}
use Rattle.chip.specs.Line.{heard, heard_row, lined}
use Rattle.chip.specs.Change.{turned}
use Rattle.chip.specs.Outcome.{Outcome, outcome_of, transacted}
use Rattle.chip.specs.Events.{Chip, Good}
use Rattle.chip.proofs.Lines.{driven-from}
use Rattle.chip.proofs.Events.{no-refusal}

-- the code of READ, which drives from byte 4 on, or of FAST_READ, from byte 5 on
pub data Reads : ℕ → ℕ → Type 0 where
  read : Reads 0x03 4
  fast : Reads 0x0B 5

-- the row of either
row-of : (d : Device) {code from : ℕ} → Reads code from → row_of (figures_of d.part) code ≡ reading from Array from Keep
unfolding row_of
row-of d read = refl
row-of d fast = refl

enough : {code from : ℕ} → Reads code from → (4 ≤ from) × (from ≤ 5)
enough read = (omega arith, omega arith)
enough fast = (omega arith, omega arith)

module _ (c : Chip) (g : Good c) (rests : c.device.mode ≡ Standby) (sent : List ℕ) (p : ℕ) (w : Bool) (r : List ℕ) (from : ℕ) (k : Reads (get_or sent 0 0) from) (least : from ≤ length sent) (few : length sent ≤ 65536) (pulses : p ≤ 7) (room : length sent ≤ length r) where
  abbrev d : Device
  d = c.device

  abbrev xs : List ℕ
  xs = c.array

  abbrev out : Outcome
  out = transacted d xs sent p w r

  abbrev at : ℕ
  at = address_of (figures_of d.part) sent

  row_is : row_in d sent ≡ reading from Array from Keep
  row_is = row-of d k

  chip-is : chip_number d (row_in d sent) (length sent) p w at ≡ 0
  unfolding chip_number as_needed
  chip-is =
      let n : length sent ≡ 0 → ⊥ = λ z. omega (arith, (enough k).0) in
      rw (row_is, rests, ne_eqb (length sent) 0 n, le-leb from (length sent) least, le-leb (length sent) 65536 few)

  verdict : verdict_of d (length xs) sent p w (length r) ≡ Executed
  unfolding verdict_of decided
  verdict = rw (no-refusal d (length xs) (length sent) p (length r) g.sound g.whole few pulses room, chip-is)

  -- answered 0
  pub read_number : out.answer.number ≡ 0
  unfolding transacted outcome_of
  read_number = rw verdict

  -- the record stays
  pub read-device : out.device ≡ d
  unfolding transacted outcome_of turned
  read-device = rw (verdict, row_is)

  -- the array stays
  pub read-array : out.array ≡ xs
  unfolding transacted outcome_of
  read-array = rw verdict

  heard-is : heard_row d sent ≡ reading from Array from Keep
  unfolding heard_row heard
  heard-is = rw (row_is, rests)

  -- response byte from + i is the array's at address + i, rolling over from last byte to 0
  pub read_byte : (i : ℕ) → from + i < length sent → get_or out.response (from + i) 0 ≡ get_or xs ((at + i) % length xs) 255
  unfolding transacted outcome_of lined
  read_byte i h =
      let z : from + i - from ≡ i = omega arith in
      let f : (heard_row d sent).from ≤ from + i = rw heard-is (omega arith) in
      let e = driven-from d xs sent (from + i) (omega arith) f in
      rw verdict (get_or-map (lined d xs sent) r (from + i) 0 (omega arith) ∙ rw (lt-ltb (from + i) (length sent) h, e, heard-is, z))

  -- all of it, where it does not roll over and the response has the transaction's length
  pub read-line : (n : ℕ) → length sent ≡ from + n → length r ≡ length sent → at + n ≤ length xs → drop from out.response ≡ take n (drop at xs)
  unfolding transacted outcome_of
  read-line n e l h =
      let lr : length out.response ≡ length r = rw verdict (length-map (lined d xs sent) r) in
      let ll : length (drop from out.response) ≡ n = length-drop from out.response ∙ omega arith in
      ext_get_or 0 (drop from out.response) (take n (drop at xs)) (ll ∙ sym (length-take n (drop at xs) ∙ (let z = length-drop at xs in omega arith)))
      (λ i lt.
      let k : i < n = rw ll at lt in
      let m : at + i < length xs = omega arith in
      get_or-drop from out.response i 0 ∙ read_byte i (omega arith) ∙ rw (mod-eq_of_lt m) (get_d_any xs (at + i) 255 0 m ∙ sym (get_or-take n (drop at xs) i 0 k ∙ get_or-drop at xs i 0)))
