-- What the sums see: a good block in which one byte was changed, any byte of the 512, is not good.
-- Assumes nothing.
use Rattle.std.proofs.Common.{◌≡◌, ℕ, ◌+◌, ◌%◌, ◌<◌, Bool, true, false, cond, eqb, List, [], ◌∷◌, ◌++◌, drop, sym, refl, ◌∙◌, arith, eqb-true}
use Rattle.slices.specs.Bytes.{word_at}
use Rattle.slices.proofs.Choices.{both}
use Rattle.image.specs.Sums.{sums_from, sums_of}
use Rattle.image.specs.Blocks.{sums_in, same_sums, reason_of}

-- the first sums over the same bytes are the same only if they started alike
pub starts : (a b c d : ℕ) (xs : List ℕ) → a < 65536 → c < 65536 → (sums_from a b xs).first ≡ (sums_from c d xs).first → a ≡ c
unfolding sums_from
starts a b c d [] h k e = e
starts a b c d (x ∷ xs) h k e =
    let m : (a + x) % 65536 ≡ (c + x) % 65536 = starts ((a + x) % 65536) _ ((c + x) % 65536) _ xs (omega arith) (omega arith) e in
    omega arith

-- so they are not with one byte changed
pub changed : (a b x y : ℕ) (pre post : List ℕ) → x < 256 → y < 256 → (sums_from a b (pre ++ (x ∷ post))).first ≡ (sums_from a b (pre ++ (y ∷ post))).first → x ≡ y
unfolding sums_from
changed a b x y [] post h k e =
    let m : (a + x) % 65536 ≡ (a + y) % 65536 = starts ((a + x) % 65536) _ ((a + y) % 65536) _ post (omega arith) (omega arith) e in
    omega arith
changed a b x y (p ∷ pre) post h k e = changed ((a + p) % 65536) ((b + (a + p) % 65536) % 65536) x y pre post h k e

-- what a good block has
pub record Good (place : ℕ) (b : List ℕ) : Type 0 where
  pub number : word_at b 0 ≡ place
  pub first : (sums_in b).first ≡ (sums_of place (drop 8 b)).first
  pub second : (sums_in b).second ≡ (sums_of place (drop 8 b)).second

pub good-is : (place : ℕ) (b : List ℕ) → reason_of place b ≡ 0 → Good place b
unfolding reason_of
good-is place b e = go (eqb (word_at b 0) place) refl (same_sums (sums_in b) (sums_of place (drop 8 b))) refl e
  where
    go : (s : Bool) → eqb (word_at b 0) place ≡ s → (t : Bool) → same_sums (sums_in b) (sums_of place (drop 8 b)) ≡ t → ◌≡◌ {A = ℕ} (cond s (cond t 0 2) 1) 0 → Good place b
    go true p true q z =
        let k = both _ _ q in
        record { number = eqb-true _ _ p; first = eqb-true _ _ k.0; second = eqb-true _ _ k.1 }
    go true p false q z = absurd (omega (arith, z))
    go false p t q z = absurd (omega (arith, z))

-- one byte changed, in the number, in a sum or in the bytes of the array
pub same_byte : (place x y : ℕ) (pre post : List ℕ) → x < 256 → y < 256 → Good place (pre ++ (x ∷ post)) → Good place (pre ++ (y ∷ post)) → x ≡ y
unfolding sums_of
same_byte place x y [] post h k s t = let e = s.number in let f = t.number in omega arith
same_byte place x y (a ∷ []) post h k s t = let e = s.number in let f = t.number in omega arith
same_byte place x y (a ∷ b ∷ []) post h k s t = let e = s.number in let f = t.number in omega arith
same_byte place x y (a ∷ b ∷ c ∷ []) post h k s t = let e = s.number in let f = t.number in omega arith
same_byte place x y (a ∷ b ∷ c ∷ d ∷ []) post h k s t = let e = s.first in let f = t.first in omega arith
same_byte place x y (a ∷ b ∷ c ∷ d ∷ i ∷ []) post h k s t = let e = s.first in let f = t.first in omega arith
same_byte place x y (a ∷ b ∷ c ∷ d ∷ i ∷ j ∷ []) post h k s t = let e = s.second in let f = t.second in omega arith
same_byte place x y (a ∷ b ∷ c ∷ d ∷ i ∷ j ∷ l ∷ []) post h k s t = let e = s.second in let f = t.second in omega arith
same_byte place x y (a ∷ b ∷ c ∷ d ∷ i ∷ j ∷ l ∷ m ∷ pre) post h k s t = changed (place % 65536) 0 x y pre post h k (sym s.first ∙ t.first)

-- a change of one byte is seen
pub change-seen : (place x y : ℕ) (pre post : List ℕ) → x < 256 → y < 256 → (x ≡ y → ⊥) → reason_of place (pre ++ (x ∷ post)) ≡ 0 → reason_of place (pre ++ (y ∷ post)) ≡ 0 → ⊥
change-seen place x y pre post h k other s t = other (same_byte place x y pre post h k (good-is place (pre ++ (x ∷ post)) s) (good-is place (pre ++ (y ∷ post)) t))
