-- Laws of rows of records: sums, one record more, and the library's words for a sum and a test.
-- Assumes nothing.
use mathlib.Core.Path.{◌≡◌, refl, sym, ap, ◌∙◌}
use mathlib.Core.Bool.{Bool, ◌&&◌}
use mathlib.Core.List.{List, [], ◌∷◌, ◌++◌}
use Prim.Native.Nat.{ℕ, zero, suc, ◌+◌, ◌*◌, ◌^◌, ◌≤◌, ◌<◌}
use native.Mathlib.Nat.{zero-add}
use native.Mathlib.Omega.{arith}
use lib.ListN.{length, get_or, take}
use lib.Seq.{take-suc, take_all}
use Rattle.std.proofs.lemmas.List.Recursion.{is_sum_by, same_from_clauses}
use Rattle.std.specs.List.{sum_by, list_all}
use Rattle.parts.proofs.Laws.{sane}
use Rattle.device.specs.declared.Device.{Device}
use Rattle.device.specs.Device.{sound, zero_record}
use Rattle.bus.specs.Bus.{bytes_of, sum_of, all_sound, at}

-- a record that is there, whatever would stand for one that is not
pub at-any : (ds : List Device) (i : ℕ) (d : Device) → i < length ds → get_or ds i d ≡ at ds i
at-any [] i d h = absurd (omega arith)
at-any (x ∷ ds) zero d h = refl
at-any (x ∷ ds) (suc i) d h = at-any ds i d (omega arith)

-- a part has at most 16 MiB
pub bytes-few : (d : Device) → bytes_of d ≤ 16777216
bytes-few d = (sane d.part).few

pub sum-append : (a b : List Device) → sum_of (a ++ b) ≡ sum_of a + sum_of b
sum-append [] b = sym (zero-add (sum_of b))
sum-append (d ∷ a) b = let h = sum-append a b in omega (arith, h)

pub sum-next : (ds : List Device) (i : ℕ) → i < length ds → sum_of (take (suc i) ds) ≡ sum_of (take i ds) + bytes_of (at ds i)
sum-next ds i h = let e = ap sum_of (take-suc ds i zero_record h) ∙ sum-append (take i ds) (at ds i ∷ []) in omega (arith, e)

pub sum-few : (i : ℕ) (ds : List Device) → sum_of (take i ds) ≤ i * 16777216
sum-few zero ds = omega arith
sum-few (suc i) [] = omega arith
sum-few (suc i) (d ∷ ds) = let h = sum-few i ds in let f = bytes-few d in omega (arith, h, f)

pub sum_less : (i j : ℕ) (ds : List Device) → i ≤ j → sum_of (take i ds) ≤ sum_of (take j ds)
sum_less zero j ds h = omega arith
sum_less (suc i) zero ds h = absurd (omega arith)
sum_less (suc i) (suc j) [] h = omega arith
sum_less (suc i) (suc j) (d ∷ ds) h = let p = sum_less i j ds (omega arith) in omega (arith, p)

-- a chip's bytes end where those of all do, or before
pub own_within : (ds : List Device) (i : ℕ) → i < length ds → sum_of (take i ds) + bytes_of (at ds i) ≤ sum_of ds
own_within ds i h =
    let e = sum-next ds i h in
    let s = sum_less (suc i) (length ds) ds (omega arith) in
    let a = ap sum_of (take_all (length ds) ds (omega arith)) in
    omega (arith, e, s, a)

-- eight parts have at most 128 MiB
pub sum-fits : (ds : List Device) → length ds ≤ 8 → sum_of ds < 2 ^ 64
sum-fits ds h = let s = sum-few (length ds) ds in let a = ap sum_of (take_all (length ds) ds (omega arith)) in omega (arith, s, a)

-- in the library's words
pub sum_by-bytes : (ds : List Device) → sum_of ds ≡ sum_by bytes_of ds
sum_by-bytes ds = is_sum_by sum_of bytes_of refl (λ _ _. refl) ds

pub all_by-sound : (ds : List Device) → all_sound ds ≡ list_all sound ds
all_by-sound ds = same_from_clauses all_sound (list_all sound) (λ (d : Device) (t : Bool). sound d && t) refl (λ _ _. refl) (λ _ _. refl) ds

-- so the sum fits 64 bits
pub sum_by-fits : (ds : List Device) → length ds ≤ 8 → sum_by bytes_of ds < 2 ^ 64
sum_by-fits ds h = rw (← sum_by-bytes ds) (sum-fits ds h)
