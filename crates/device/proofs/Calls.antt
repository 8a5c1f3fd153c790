-- What the calls of the crate answer, by cases: what their proofs cite.
-- Assumes nothing.
use mathlib.Core.Path.{◌≡◌, refl, sym, ap, ap₂, ◌∙◌}
use mathlib.Core.Bool.{Bool, true, false, cond, ◌&&◌}
use mathlib.Core.List.{List, ◌++◌}
use Prim.Native.Nat.{ℕ, ◌-◌}
use native.Mathlib.Omega.{arith}
use lib.Dec.{eqb}
use lib.ListN.{length, take, drop, length-append, length-take, length-drop}
use lib.Seq.{drop-drop}
use borrow.Author.Tests.{eqb-true}
use Rattle.slices.specs.Bytes.{same_bytes, word}
use Rattle.slices.specs.Changed.{map_at, stored}
use Rattle.slices.proofs.Sames.{same_self, same-cut, and-end}
use Rattle.slices.proofs.Stores.{stored-whole}
use Rattle.device.specs.declared.Device.{Device}
use Rattle.device.specs.Device.{sound}
use Rattle.device.specs.Locks.{registers}
use Rattle.device.specs.Packing.{packed_length, front_length, named_place, front_of, pack_of, pack_answer, Packed, formed, fields_of, unpack_answer, unpack_of}
use Rattle.device.proofs.Sound.{slots-long, locks-long}

-- the slots of a packing
slots-part : (b : List ℕ) → length b ≡ packed_length → length (take 256 (drop front_length b)) ≡ 256
slots-part b l = simp (length-take, length-drop) (omega arith)

-- how long a packing is
pub length_front : (d : Device) → length (front_of d) ≡ front_length
unfolding front_of
length_front d = refl

pub length-pack : (d : Device) → length d.cycle.slots ≡ 256 → length d.locks ≡ registers → length (pack_of d) ≡ packed_length
unfolding pack_of front_of
length-pack d e l = simp length-append (rw (e, l))

-- bytes of a packing's length are well formed if they begin as the packing of the record that stands in them, and the number of bytes named stands there as a number does
pub formed-by : (b : List ℕ) → length b ≡ packed_length → formed b ≡ same_bytes (take front_length b) (front_of (fields_of b)) && same_bytes (take 4 (drop named_place b)) (word (fields_of b).cycle.named)
unfolding formed pack_of front_of fields_of
formed-by b l =
    let f = fields_of b in
    let s : List ℕ = take 256 (drop front_length b) in
    let r : List ℕ = drop front_length b in
    let m : length r ≡ 268 = length-drop front_length b ∙ ap (λ (n : ℕ). n - front_length) l in
    let q : drop (length s) r ≡ drop named_place b = rw (slots-part b l) (drop-drop 256 front_length b) in
    let own : same_bytes (take (length s) r) s ≡ true = rw (slots-part b l) (same_self s) in
    let e : same_bytes r (s ++ (word f.cycle.named ++ f.locks)) ≡ same_bytes (take 4 (drop named_place b)) (word f.cycle.named) =
    same-cut s r (word f.cycle.named ++ f.locks) (omega (arith, slots-part b l))
    ∙ ap₂ (λ (x y : Bool). x && y) own (ap (λ (t : List ℕ). same_bytes t (word f.cycle.named ++ f.locks)) q)
    ∙ same-cut (word f.cycle.named) (drop named_place b) f.locks (omega (arith, length-drop named_place b))
    ∙ rw (drop-drop 4 named_place b, same_self f.locks) (and-end _) in
    same-cut (front_of f) b (s ++ (word f.cycle.named ++ f.locks)) (omega (arith, l)) ∙ ap (λ (t : Bool). same_bytes (take front_length b) (front_of f) && t) e

-- as the code finds out whether they are
pub agreed-by : (b : List ℕ) {f : Device} {r : Bool} → length b ≡ packed_length → f ≡ fields_of b → r ≡ same_bytes (take front_length b) (front_of f) && same_bytes (take 4 (drop named_place b)) (word f.cycle.named) → r ≡ formed b
agreed-by b l e p = rw (p, e, formed-by b l)

-- where neither 8 nor 6 answers
pub answered : (t s : Bool) → ◌≡◌ {A = ℕ} (cond t (cond s 0 6) 8) 0 → (t ≡ true) × (s ≡ true)
answered true true h = (refl, refl)
answered true false h = let z : ◌≡◌ {A = ℕ} 6 0 = h in absurd (omega arith)
answered false s h = let z : ◌≡◌ {A = ℕ} 8 0 = h in absurd (omega arith)

-- pack, where it is not refused
pub packed-well : (d : Device) (out : List ℕ) {out' : List ℕ} → 0 ≡ pack_answer d (length out) → out' ≡ map_at (stored 0 (pack_of d)) out → Packed d out 0 out'
unfolding pack_answer
packed-well d out h e =
    let p = answered (eqb (length out) packed_length) (sound d) (sym h) in
    let long : length out ≡ packed_length = eqb-true _ _ p.0 in
    let whole = stored-whole (pack_of d) out (length-pack d (slots-long d p.1) (locks-long d p.1) ∙ sym long) in
    record { answer = h; bytes = rw (p.0, p.1) (e ∙ whole) }

-- unpack, where it is not
pub unpacked-good : (b : List ℕ) → length b ≡ packed_length → formed b && sound (fields_of b) ≡ true → unpack_of b ≡ record { answer = 0; device = fields_of b }
unfolding unpack_of unpack_answer
unpacked-good b h s = rw (h, s)
