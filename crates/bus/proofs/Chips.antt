-- Laws of chips beside each other: where a chip's bytes begin, and the records and the bytes of all when one is another.
-- Assumes nothing.
use mathlib.Core.Path.{◌≡◌, refl, sym, ap, ◌∙◌}
use mathlib.Core.List.{List, [], ◌∷◌, ◌++◌, append_assoc}
use Prim.Native.Nat.{ℕ, zero, suc, ◌+◌, ◌-◌, ◌≤◌, ◌<◌}
use native.Mathlib.Nat.{zero-add}
use native.Mathlib.Omega.{arith}
use borrow.Rule.Slice.PartMut.{put_mid, Post-is}
use lib.ListN.{length, set, take, drop, length-drop, take-append-drop}
use lib.Seq.{drop-drop, take-add}
use Rattle.device.specs.declared.Device.{Device}
use Rattle.device.specs.Chip.{Chip, chip}
use Rattle.bus.specs.Bus.{bytes_of, sum_of, chips_in, row_of, array_of, at, nth}

-- a part lent as `&mut xs[a..e]` that came back as zs
pub part-back : (a e : ℕ) (xs : List ℕ) {ys zs : List ℕ} → a ≤ e → ys ≡ zs → put_mid a (e - a) xs ys ≡ take a xs ++ (zs ++ drop e xs)
part-back a e xs {ys} {zs} h p = ap (λ (t : List ℕ). take a xs ++ (ys ++ t)) (Post-is a e xs h) ∙ ap (λ (t : List ℕ). take a xs ++ (t ++ drop e xs)) p

-- chip k: its record, and the bytes from the end of those before it on
pub chip-at : (ds : List Device) (xs : List ℕ) (k : ℕ) → k < length ds → nth (chips_in ds xs) k ≡ chip (at ds k) (take (bytes_of (at ds k)) (drop (sum_of (take k ds)) xs))
chip-at [] xs k h = absurd (omega arith)
chip-at (d ∷ ds) xs zero h = refl
chip-at (d ∷ ds) xs (suc k) h =
    chip-at ds (drop (bytes_of d) xs) k (omega arith) ∙ ap (λ (t : List ℕ). chip (at ds k) (take (bytes_of (at ds k)) t)) (drop-drop (sum_of (take k ds)) (bytes_of d) xs)

pub chips-length : (ds : List Device) (xs : List ℕ) → length (chips_in ds xs) ≡ length ds
chips-length [] xs = refl
chips-length (d ∷ ds) xs = ap suc (chips-length ds (drop (bytes_of d) xs))

-- the records of the chips of a row are the row
pub row_in : (ds : List Device) (xs : List ℕ) → row_of (chips_in ds xs) ≡ ds
row_in [] xs = refl
row_in (d ∷ ds) xs = ap (λ (t : List Device). d ∷ t) (row_in ds (drop (bytes_of d) xs))

row-of-set : (cs : List Chip) (k : ℕ) (c : Chip) → row_of (set cs k c) ≡ set (row_of cs) k c.device
row-of-set [] k c = refl
row-of-set (b ∷ cs) zero c = refl
row-of-set (b ∷ cs) (suc k) c = ap (λ (t : List Device). b.device ∷ t) (row-of-set cs k c)

-- with another chip at k the row has another record there
pub row-set : (ds : List Device) (xs : List ℕ) (k : ℕ) (c : Chip) → row_of (set (chips_in ds xs) k c) ≡ set ds k c.device
row-set ds xs k c = row-of-set (chips_in ds xs) k c ∙ ap (λ (t : List Device). set t k c.device) (row_in ds xs)

none_left : (xs : List ℕ) → length xs ≡ 0 → [] ≡ xs
none_left [] e = refl
none_left (x ∷ xs) e = absurd (omega arith)

-- the bytes of the chips are the array
pub array-in : (ds : List Device) (xs : List ℕ) → length xs ≡ sum_of ds → array_of (chips_in ds xs) ≡ xs
array-in [] xs e = none_left xs e
array-in (d ∷ ds) xs e =
    let l : length (drop (bytes_of d) xs) ≡ sum_of ds = length-drop (bytes_of d) xs ∙ omega arith in
    ap (λ (t : List ℕ). take (bytes_of d) xs ++ t) (array-in ds (drop (bytes_of d) xs) l) ∙ take-append-drop (bytes_of d) xs

-- with another chip at k its bytes alone are others
pub array-set : (ds : List Device) (xs : List ℕ) (k : ℕ) (c : Chip) → k < length ds → length xs ≡ sum_of ds
    → array_of (set (chips_in ds xs) k c) ≡ take (sum_of (take k ds)) xs ++ (c.array ++ drop (sum_of (take k ds) + bytes_of (at ds k)) xs)
array-set [] xs k c h e = absurd (omega arith)
array-set (d ∷ ds) xs zero c h e =
    let l : length (drop (bytes_of d) xs) ≡ sum_of ds = length-drop (bytes_of d) xs ∙ omega arith in
    ap (λ (t : List ℕ). c.array ++ t) (array-in ds (drop (bytes_of d) xs) l ∙ ap (λ (n : ℕ). drop n xs) (sym (zero-add (bytes_of d))))
array-set (d ∷ ds) xs (suc k) c h e =
    let b = bytes_of d in
    let f = sum_of (take k ds) in
    let l : length (drop b xs) ≡ sum_of ds = length-drop b xs ∙ omega arith in
    let z : b + (f + bytes_of (at ds k)) ≡ b + f + bytes_of (at ds k) = omega arith in
    ap (λ (t : List ℕ). take b xs ++ t) (array-set ds (drop b xs) k c (omega arith) l)
    ∙ (sym (append_assoc (take b xs) (take f (drop b xs)) (c.array ++ drop (f + bytes_of (at ds k)) (drop b xs)))
    ∙ (ap (λ (t : List ℕ). t ++ (c.array ++ drop (f + bytes_of (at ds k)) (drop b xs))) (sym (take-add b f xs))
    ∙ ap (λ (t : List ℕ). take (b + f) xs ++ (c.array ++ t)) (drop-drop (f + bytes_of (at ds k)) b xs ∙ ap (λ (n : ℕ). drop n xs) z)))

-- another chip with the same bytes
pub array_same : (cs : List Chip) (k : ℕ) (c : Chip) → c.array ≡ (nth cs k).array → array_of (set cs k c) ≡ array_of cs
array_same [] k c e = refl
array_same (b ∷ cs) zero c e = ap (λ (t : List ℕ). t ++ array_of cs) e
array_same (b ∷ cs) (suc k) c e = ap (λ (t : List ℕ). b.array ++ t) (array_same cs k c e)

-- one chip more
pub chips-next : (ds : List Device) (xs : List ℕ) (i : ℕ) → i < length ds → chips_in (take (suc i) ds) xs ≡ chips_in (take i ds) xs ++ (chip (at ds i) (take (bytes_of (at ds i)) (drop (sum_of (take i ds)) xs)) ∷ [])
chips-next [] xs i h = absurd (omega arith)
chips-next (d ∷ ds) xs zero h = refl
chips-next (d ∷ ds) xs (suc i) h =
    ap (λ (t : List Chip). chip d (take (bytes_of d) xs) ∷ t) (chips-next ds (drop (bytes_of d) xs) i (omega arith) ∙ ap (λ (t : List ℕ). chips_in (take i ds) (drop (bytes_of d) xs) ++ (chip (at ds i) (take (bytes_of (at ds i)) t) ∷ [])) (drop-drop (sum_of (take i ds)) (bytes_of d) xs))

pub row-append : (a b : List Chip) → row_of (a ++ b) ≡ row_of a ++ row_of b
row-append [] b = refl
row-append (c ∷ a) b = ap (λ (t : List Device). c.device ∷ t) (row-append a b)

pub array-append : (a b : List Chip) → array_of (a ++ b) ≡ array_of a ++ array_of b
array-append [] b = refl
array-append (c ∷ a) b = ap (λ (t : List ℕ). c.array ++ t) (array-append a b) ∙ sym (append_assoc c.array (array_of a) (array_of b))
