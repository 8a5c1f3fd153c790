-- Laws of a row of packed records: the records that are read from it, and the bytes that are written.
-- Assumes nothing.
use mathlib.Core.Path.{◌≡◌, refl, sym, ap, ap₂, ◌∙◌}
use mathlib.Core.Bool.{Bool, true, false, false≢true}
use mathlib.Core.List.{List, [], ◌∷◌, ◌++◌, append_assoc, append-nil}
use Prim.Native.Nat.{ℕ, zero, suc, ◌+◌, ◌-◌, ◌*◌, ◌/◌, ◌%◌, ◌≤◌, ◌<◌, min}
use native.Mathlib.Omega.{arith}
use borrow.Author.Tests.{leb-true, leb-false}
use borrow.Rule.Slice.PartMut.{put_mid}
use lib.Dec.{leb}
use Rattle.std.specs.Simd.{first_chunks}
use lib.ListN.{length, get_or, set, take, drop, length-drop, length-append, take-append-drop}
use lib.Seq.{length-take-le, take_all, take-suc, take-suc-set, take_at, drop_at, drop-drop, take-add}
use Rattle.slices.specs.Changed.{map_at, stored}
use Rattle.slices.specs.Chosen.{on_zero}
use Rattle.slices.proofs.Choices.{both}
use Rattle.slices.proofs.Stores.{stored-whole}
use Rattle.device.specs.declared.Device.{Device}
use Rattle.device.specs.declared.Checked.{Checked}
use Rattle.device.specs.Device.{sound, zero_record}
use Rattle.device.specs.Packing.{packed_length, pack_of, fields_of, unpack_answer, unpack_of}
use Rattle.device.proofs.Calls.{length-pack}
use Rattle.device.proofs.Sound.{slots-long, locks-long, zero-unsound}
use Rattle.device.proofs.Inverse.{pack-unpack, unpack-pack}
use Rattle.bus.specs.Bus.{all_sound, at}
use Rattle.bus.proofs.Chips.{part-back}
use Rattle.m25p.specs.Bus.{records_from, records_in, packed_row}

-- ---- the records of a row

records-length : (n : ℕ) (row : List ℕ) → length (records_from n row) ≡ n
records-length zero row = refl
records-length (suc n) row = ap suc (records-length n (drop packed_length row))

-- as many as there are whole packings
pub records-count : (row : List ℕ) → length (records_in row) ≡ length row / 304
unfolding records_in
records-count row = records-length (length row / 304) row

-- record k is that of chunk k
record-from : (n : ℕ) (row : List ℕ) (k : ℕ) (e : List ℕ) → k < n → at (records_from n row) k ≡ (unpack_of (get_or (first_chunks 304 n row) k e)).device
record-from zero row k e h = absurd (omega arith)
record-from (suc n) row zero e h = refl
record-from (suc n) row (suc k) e h = record-from n (drop 304 row) k e (omega arith)

record-at : (row : List ℕ) (k : ℕ) (e : List ℕ) → k < length row / 304 → at (records_in row) k ≡ (unpack_of (get_or (first_chunks 304 (length row / 304) row) k e)).device
unfolding records_in
record-at row k e h = record-from (length row / 304) row k e h

-- one record more was read
pub read_next : (row : List ℕ) (k : ℕ) (e : List ℕ) (records : List Device) {c : Checked} → k < length records → k < length row / 304 → take k records ≡ take k (records_in row) → c ≡ unpack_of (get_or (first_chunks 304 (length row / 304) row) k e)
    → take (suc k) (set records k c.device) ≡ take (suc k) (records_in row)
read_next row k e records {c} h l p q =
    let d : c.device ≡ at (records_in row) k = ap (λ (x : Checked). x.device) q ∙ sym (record-at row k e l) in
    take-suc-set records k c.device h ∙ (ap₂ (λ (u : List Device) (v : Device). u ++ (v ∷ [])) p d ∙ sym (take-suc (records_in row) k zero_record (omega (arith, records-count row, l))))

-- all were read for which there are places
pub read-end : (row : List ℕ) (k : ℕ) (records : List Device) → length records ≡ 9 → k ≡ min (length row / 304) 9 → take k records ≡ take k (records_in row) → take (length row / 304) records ≡ take 9 (records_in row)
read-end row k records nine m e = go (leb (length row / 304) 9) refl
  where
    c : length (records_in row) ≡ length row / 304
    c = records-count row

    go : (b : Bool) → leb (length row / 304) 9 ≡ b → take (length row / 304) records ≡ take 9 (records_in row)
    go true t =
        let h = leb-true (length row / 304) 9 t in
        let z : k ≡ length row / 304 = omega (arith, m, h) in
        ap (λ (j : ℕ). take j records) (sym z) ∙ (e ∙ (take_all k (records_in row) (omega (arith, c, z)) ∙ sym (take_all 9 (records_in row) (omega (arith, c, h)))))
    go false t =
        let h = leb-false (length row / 304) 9 t in
        let z : k ≡ 9 = omega (arith, m, h) in
        take_all (length row / 304) records (omega (arith, nine, h)) ∙ (sym (take_all k records (omega (arith, nine, z))) ∙ (e ∙ ap (λ (j : ℕ). take j (records_in row)) z))

-- ---- sound records and their packings

-- of sound records each is sound, and so are the first ones
pub sound-at : (ds : List Device) (k : ℕ) → all_sound ds ≡ true → k < length ds → sound (at ds k) ≡ true
sound-at [] k s h = absurd (omega arith)
sound-at (d ∷ ds) zero s h = (both (sound d) (all_sound ds) s).0
sound-at (d ∷ ds) (suc k) s h = sound-at ds k (both (sound d) (all_sound ds) s).1 (omega arith)

sound-take : (k : ℕ) (ds : List Device) → all_sound ds ≡ true → all_sound (take k ds) ≡ true
sound-take zero ds s = refl
sound-take (suc k) [] s = refl
sound-take (suc k) (d ∷ ds) s = let p = both (sound d) (all_sound ds) s in rw p.0 (sound-take k ds p.1)

-- how long packings are
pub pack-long : (d : Device) → sound d ≡ true → length (pack_of d) ≡ 304
pack-long d s = length-pack d (slots-long d s) (locks-long d s)

packed-long : (ds : List Device) → all_sound ds ≡ true → length (packed_row ds) ≡ length ds * 304
packed-long [] s = refl
packed-long (d ∷ ds) s =
    let p = both (sound d) (all_sound ds) s in
    length-append (pack_of d) (packed_row ds) ∙ (let l = pack-long d p.0 in let m = packed-long ds p.1 in omega (arith, l, m))

packed-append : (a b : List Device) → packed_row (a ++ b) ≡ packed_row a ++ packed_row b
packed-append [] b = refl
packed-append (d ∷ a) b = ap (λ (t : List ℕ). pack_of d ++ t) (packed-append a b) ∙ sym (append_assoc (pack_of d) (packed_row a) (packed_row b))

-- ---- records written over a row, from place f on

-- the row after the first i records were written
abbrev pub written : ℕ → ℕ → List Device → List ℕ → List ℕ
written f i ds row = take (f * 304) row ++ (packed_row (take i ds) ++ drop ((f + i) * 304) row)

-- none was written yet
pub write-first : (f : ℕ) (ds : List Device) (row : List ℕ) → row ≡ written f 0 ds row
write-first f ds row = let z : f + 0 ≡ f = omega arith in rw z (sym (take-append-drop (f * 304) row))

-- all were
pub write-last : (f i : ℕ) (ds : List Device) (row : List ℕ) → i ≡ length ds → written f i ds row ≡ take (f * 304) row ++ (packed_row ds ++ drop ((f + length ds) * 304) row)
write-last f i ds row e = rw e (ap (λ (l : List Device). take (f * 304) row ++ (packed_row l ++ drop ((f + length ds) * 304) row)) (take_all (length ds) ds (omega arith)))

module _ (f i : ℕ) (ds : List Device) (row : List ℕ) (upto : i ≤ length ds) (fits : (f + length ds) * 304 ≤ length row) (s : all_sound ds ≡ true) where
  front_long : length (take (f * 304) row ++ packed_row (take i ds)) ≡ (f + i) * 304
  front_long =
      let a = length-take-le (f * 304) row (omega arith) in
      let b = packed-long (take i ds) (sound-take i ds s) in
      let c = length-take-le i ds upto in
      length-append (take (f * 304) row) (packed_row (take i ds)) ∙ omega (arith, a, b, c)

  -- the next one was written
  pub write-next : i < length ds → (next : List ℕ) (from : ℕ) {v : Device} {ys : List ℕ} → next ≡ written f i ds row → from ≡ (f + i) * 304 → v ≡ at ds i → ys ≡ map_at (stored 0 (pack_of v)) (take (from + 304 - from) (drop from next))
      → put_mid from (from + 304 - from) next ys ≡ written f (suc i) ds row
  write-next more next from {v} {ys} g p same q =
      let xs = take (f * 304) row ++ packed_row (take i ds) in
      let x : next ≡ xs ++ drop ((f + i) * 304) row = g ∙ sym (append_assoc (take (f * 304) row) (packed_row (take i ds)) (drop ((f + i) * 304) row)) in
      let lx : length xs ≡ from = front_long ∙ sym p in
      let b : length (take (from + 304 - from) (drop from next)) ≡ 304 =
      length-take-le (from + 304 - from) (drop from next) (let u = length-drop from next in let w = ap length x ∙ length-append xs (drop ((f + i) * 304) row) in let t = length-drop ((f + i) * 304) row in omega (arith, u, w, t, lx, p)) ∙ omega arith in
      let y : ys ≡ pack_of (at ds i) =
      q ∙ (ap (λ (x : Device). map_at (stored 0 (pack_of x)) (take (from + 304 - from) (drop from next))) same ∙ stored-whole (pack_of (at ds i)) _ (pack-long (at ds i) (sound-at ds i s more) ∙ sym b)) in
      let t : take from next ≡ xs = ap (take from) x ∙ take_at xs (drop ((f + i) * 304) row) from lx in
      let u : drop from next ≡ drop ((f + i) * 304) row = ap (drop from) x ∙ drop_at xs (drop ((f + i) * 304) row) from lx in
      let z : (f + i) * 304 + 304 ≡ (f + suc i) * 304 = omega arith in
      let r : drop (from + 304) next ≡ drop ((f + suc i) * 304) row = sym (drop-drop 304 from next) ∙ (ap (drop 304) u ∙ (drop-drop 304 ((f + i) * 304) row ∙ ap (λ (m : ℕ). drop m row) z)) in
      let w : packed_row (take (suc i) ds) ≡ packed_row (take i ds) ++ pack_of (at ds i) =
      ap packed_row (take-suc ds i zero_record more) ∙ (packed-append (take i ds) (at ds i ∷ []) ∙ ap (λ (a : List ℕ). packed_row (take i ds) ++ a) (append-nil (pack_of (at ds i)))) in
      part-back from (from + 304) next (omega arith) y
      ∙ (ap₂ (λ (a b : List ℕ). a ++ (pack_of (at ds i) ++ b)) t r
      ∙ (append_assoc (take (f * 304) row) (packed_row (take i ds)) (pack_of (at ds i) ++ drop ((f + suc i) * 304) row)
      ∙ ap (λ (a : List ℕ). take (f * 304) row ++ a) (sym (append_assoc (packed_row (take i ds)) (pack_of (at ds i)) (drop ((f + suc i) * 304) row)) ∙ ap (λ (a : List ℕ). a ++ drop ((f + suc i) * 304) row) (sym w))))

-- ---- packings of sound records, and the records of a row

-- only a packing gives a sound record
unpacks : (b : List ℕ) → sound (unpack_of b).device ≡ true → (unpack_of b).answer ≡ 0
unfolding unpack_of
unpacks b s = go (unpack_answer b) s
  where
    go : (k : ℕ) → sound (on_zero k (fields_of b) zero_record) ≡ true → k ≡ 0
    go zero s = refl
    go (suc k) s = absurd (false≢true (sym zero-unsound ∙ s))

nothing : (row : List ℕ) → length row ≡ 0 → [] ≡ row
nothing [] e = refl
nothing (x ∷ row) e = absurd (omega arith)

rest-long : (n : ℕ) (row : List ℕ) → length row ≡ suc n * 304 → length (drop 304 row) ≡ n * 304
rest-long n row e = length-drop 304 row ∙ omega arith

packed-from : (n : ℕ) (row : List ℕ) → length row ≡ n * 304 → all_sound (records_from n row) ≡ true → packed_row (records_from n row) ≡ row
packed-from zero row e s = nothing row (e ∙ omega arith)
packed-from (suc n) row e s =
    let p = both (sound (unpack_of (take 304 row)).device) (all_sound (records_from n (drop 304 row))) s in
    ap₂ (λ (a b : List ℕ). a ++ b) (pack-unpack (take 304 row) (unpacks (take 304 row) p.0)) (packed-from n (drop 304 row) (rest-long n row e) p.1) ∙ take-append-drop 304 row

set-from : (n : ℕ) (row : List ℕ) (k : ℕ) (d : Device) → k < n → length row ≡ n * 304 → all_sound (records_from n row) ≡ true
    → packed_row (set (records_from n row) k d) ≡ take (k * 304) row ++ (pack_of d ++ drop ((k + 1) * 304) row)
set-from zero row k d h e s = absurd (omega arith)
set-from (suc n) row zero d h e s =
    let p = both (sound (unpack_of (take 304 row)).device) (all_sound (records_from n (drop 304 row))) s in
    ap (λ (a : List ℕ). pack_of d ++ a) (packed-from n (drop 304 row) (rest-long n row e) p.1)
set-from (suc n) row (suc k) d h e s =
    let p = both (sound (unpack_of (take 304 row)).device) (all_sound (records_from n (drop 304 row))) s in
    let a : 304 + k * 304 ≡ suc k * 304 = omega arith in
    let b : 304 + (k + 1) * 304 ≡ (suc k + 1) * 304 = omega arith in
    ap₂ (λ (u v : List ℕ). u ++ v) (pack-unpack (take 304 row) (unpacks (take 304 row) p.0)) (set-from n (drop 304 row) k d (omega arith) (rest-long n row e) p.1)
    ∙ (sym (append_assoc (take 304 row) (take (k * 304) (drop 304 row)) (pack_of d ++ drop ((k + 1) * 304) (drop 304 row)))
    ∙ ap₂ (λ (u v : List ℕ). u ++ (pack_of d ++ v)) (sym (take-add 304 (k * 304) row) ∙ ap (λ (m : ℕ). take m row) a) (drop-drop ((k + 1) * 304) 304 row ∙ ap (λ (m : ℕ). drop m row) b))

module _ (row : List ℕ) (whole : length row % 304 ≡ 0) (s : all_sound (records_in row) ≡ true) where
  -- with another record at k the bytes of its packing alone are others
  pub packed-one : (k : ℕ) (d : Device) → k < length row / 304 → packed_row (set (records_in row) k d) ≡ take (k * 304) row ++ (pack_of d ++ drop ((k + 1) * 304) row)
  unfolding records_in
  packed-one k d h = set-from (length row / 304) row k d h (omega (arith, whole)) s

from-packed : (ds : List Device) → all_sound ds ≡ true → records_from (length ds) (packed_row ds) ≡ ds
from-packed [] s = refl
from-packed (d ∷ ds) s =
    let p = both (sound d) (all_sound ds) s in
    let a : take 304 (pack_of d ++ packed_row ds) ≡ pack_of d = take_at (pack_of d) (packed_row ds) 304 (pack-long d p.0) in
    let b : drop 304 (pack_of d ++ packed_row ds) ≡ packed_row ds = drop_at (pack_of d) (packed_row ds) 304 (pack-long d p.0) in
    ap₂ (λ (x : Device) (y : List Device). x ∷ y) (ap (λ (t : List ℕ). (unpack_of t).device) a ∙ ap (λ (c : Checked). c.device) (unpack-pack d p.0)) (ap (records_from (length ds)) b ∙ from-packed ds p.1)

-- sound records are read back from their packings
pub records-back : (ds : List Device) → all_sound ds ≡ true → records_in (packed_row ds) ≡ ds
unfolding records_in
records-back ds s =
    let n : length (packed_row ds) / 304 ≡ length ds = let l = packed-long ds s in omega (arith, l) in
    ap (λ (m : ℕ). records_from m (packed_row ds)) n ∙ from-packed ds s
