-- Laws of the items: the next one as the code finds it, and what the first pass finds.
-- Assumes nothing.
use Rattle.std.proofs.Common.{◌≡◌, ℕ, zero, suc, ◌+◌, ◌/◌, ◌%◌, ◌<◌, ◌≤◌, min, max, Bool, true, false, cond, eqb, List, [], ◌∷◌, map, length, take, drop, refl, sym, ap, ◌∙◌, le_refl, arith, length-drop, length-take}
use native.Mathlib.Nat.{zero-min, suc-min-suc}
use lib.Seq.{take-nil, drop-nil}
use Rattle.slices.specs.Bytes.{word_at}
use Rattle.chip.specs.Events.{sends, waits}
use Rattle.batch.specs.declared.Sizes.{Sizes}
use Rattle.batch.specs.Items.{length_in, flag_in, first_in, items_from, items_of, good_item, all_good, event_in}
use Rattle.batch.specs.Batch.{room_of, room_for}

-- a count of bytes to skip is a drop
pub items-skip : (xs : List ℕ) (k : ℕ) → items_from xs k ≡ items_of (drop k xs)
unfolding items_from
items-skip [] zero = refl
items-skip [] (suc k) = refl
items-skip (x ∷ xs) zero = refl
items-skip (x ∷ xs) (suc k) = items-skip xs k

pub items-first : (b : List ℕ) → 0 < length b → items_of b ≡ first_in b ∷ items_of (drop (3 + length_in b) b)
unfolding items_from
items-first [] h = absurd (omega arith)
items-first (x ∷ xs) h =
    let z : 3 + length_in (x ∷ xs) ≡ suc (2 + length_in (x ∷ xs)) = omega arith in
    rw z (ap (λ (t : List (List ℕ)). first_in (x ∷ xs) ∷ t) (items-skip xs (2 + length_in (x ∷ xs))))

take_min : (n : ℕ) (b : List ℕ) → take (min n (length b)) b ≡ take n b
take_min zero b = rw (zero-min (length b))
take_min (suc n) [] = take-nil (min (suc n) 0)
take_min (suc n) (x ∷ xs) = rw (suc-min-suc n (length xs)) (ap (λ (t : List ℕ). x ∷ t) (take_min n xs))

drop_min : (n : ℕ) (b : List ℕ) → drop (min n (length b)) b ≡ drop n b
drop_min zero b = rw (zero-min (length b))
drop_min (suc n) [] = drop-nil (min (suc n) 0)
drop_min (suc n) (x ∷ xs) = rw (suc-min-suc n (length xs)) (drop_min n xs)

-- the first item cut off, as the code finds it
pub items_cut : (b : List ℕ) (n : ℕ) → n ≡ min (3 + length_in b) (length b) → 0 < length b → items_of b ≡ take n b ∷ items_of (drop n b)
unfolding first_in
items_cut b n e h = items-first b h ∙ rw (e, take_min (3 + length_in b) b, drop_min (3 + length_in b) b)

-- ---- what the items need

-- the response bytes of an item are at most its bytes
room-le : (i : List ℕ) → room_of (event_in i) ≤ length i
unfolding event_in
room-le i = go (eqb (flag_in i) 16)
  where
    go : (b : Bool) → room_of (cond b (waits (word_at i 3)) (sends (drop 3 i) (flag_in i / 2) (eqb (flag_in i % 2) 1))) ≤ length i
    go true = omega arith
    go false = simp length-drop (omega arith)

-- the bytes of the items are those of the batch
abbrev pub bytes_of : List (List ℕ) → ℕ
bytes_of [] = 0
bytes_of (i ∷ is) = length i + bytes_of is

-- each has a byte at least
from-few : (xs : List ℕ) (k : ℕ) → length (items_from xs k) + k ≤ max (length xs) k
unfolding items_from
from-few [] k = omega arith
from-few (x ∷ xs) zero = let h = from-few xs (2 + length_in (x ∷ xs)) in omega arith
from-few (x ∷ xs) (suc k) = let h = from-few xs k in omega arith

pub items-few : (b : List ℕ) → length (items_of b) ≤ length b
items-few b = let h = from-few b 0 in omega arith

from-bytes : (xs : List ℕ) (k : ℕ) → bytes_of (items_from xs k) + k ≡ max (length xs) k
unfolding items_from first_in
from-bytes [] k = omega arith
from-bytes (x ∷ xs) zero = let h = from-bytes xs (2 + length_in (x ∷ xs)) in let l = length-take (3 + length_in (x ∷ xs)) (x ∷ xs) in omega arith
from-bytes (x ∷ xs) (suc k) = let h = from-bytes xs k in omega arith

pub items-bytes : (b : List ℕ) → bytes_of (items_of b) ≡ length b
items-bytes b = let h = from-bytes b 0 in omega arith

-- no more response bytes
room-few : (is : List (List ℕ)) → room_for (map event_in is) ≤ bytes_of is
room-few [] = le_refl 0
room-few (i ∷ is) = omega (arith, room-le i, room-few is)

pub map-long : (is : List (List ℕ)) → length (map event_in is) ≡ length is
map-long [] = refl
map-long (i ∷ is) = ap suc (map-long is)

-- ---- the first pass

-- what is left, added to what was counted, is the whole
pub record Measured (items rest : List (List ℕ)) (s : Sizes) : Type 0 where
  pub good : all_good rest ≡ all_good items
  pub room : s.room + room_for (map event_in rest) ≡ room_for (map event_in items)
  pub places : s.count + length (map event_in rest) ≡ length (map event_in items)

-- and neither sum is more than the bytes
pub measured-few : (b : List ℕ) {rest : List (List ℕ)} {s : Sizes} → Measured (items_of b) rest s → (s.room + room_for (map event_in rest) ≤ length b) × (s.count + length rest ≤ length b)
measured-few b {rest} m = (omega (arith, m.room, room-few (items_of b), items-bytes b), omega (arith, m.places, map-long rest, map-long (items_of b), items-few b))

pub measured_next : {items rest : List (List ℕ)} {s : Sizes} (i : List ℕ) (is : List (List ℕ)) → rest ≡ i ∷ is → good_item i ≡ true → Measured items rest s
    → Measured items is (record { room = s.room + room_of (event_in i); count = s.count + 1 })
measured_next i is e g m =
    record {
      good = rw (e, g) at m.good;
      room = omega (arith, rw e at m.room);
      places = omega (arith, rw e at m.places);
    }

pub measured_bad : {items rest : List (List ℕ)} {s : Sizes} (i : List ℕ) (is : List (List ℕ)) → rest ≡ i ∷ is → good_item i ≡ false → Measured items rest s → all_good items ≡ false
measured_bad i is e g m = sym (rw (e, g) at m.good)
