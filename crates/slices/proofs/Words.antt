-- Laws of the little-endian number of four bytes.
-- Assumes nothing.
use mathlib.Core.Path.{◌≡◌, refl, sym, ap, ◌∙◌}
use mathlib.Core.Bool.{Bool, true, false}
use mathlib.Core.List.{List, [], ◌∷◌}
use Prim.Native.Nat.{ℕ, ◌+◌, ◌-◌, ◌<◌, ◌^◌, min}
use native.Mathlib.Nat.{add-zero}
use native.Mathlib.Omega.{arith}
use borrow.Author.Tests.{leb-true, leb-false}
use lib.Dec.{leb}
use lib.ListN.{length, get_or, take, drop, replicate, length-drop, get_or-eq_default}
use lib.Seq.{take_all, get_or-drop, drop-drop}
use Rattle.std.specs.Int.{w32, w64, from_le_bytes}
use Rattle.std.proofs.lemmas.Nat.{from_le_bytes-to_le_bytes_4}
use Rattle.slices.specs.Bytes.{word, word_at, long_at}
use Rattle.slices.specs.Changed.{map_at}

-- the rest of a slice from a place on, or from its end where it is shorter
module _ (at start : ℕ) (xs : List ℕ) (e : start ≡ min at (length xs)) where
  abbrev rest : List ℕ
  rest = take (length xs - start) (drop start xs)

  byte : (k : ℕ) → get_or rest k 0 ≡ get_or xs (at + k) 0
  byte k = rw (take_all (length xs - start) (drop start xs) (omega (arith, length-drop start xs)), get_or-drop) (placed (leb at (length xs)) refl)
    where
      placed : (b : Bool) → leb at (length xs) ≡ b → get_or xs (start + k) 0 ≡ get_or xs (at + k) 0
      placed true q = let h = leb-true at (length xs) q in let z : start ≡ at = omega arith in rw z
      placed false q = let h = leb-false at (length xs) q in get_or-eq_default xs 0 (omega arith) ∙ sym (get_or-eq_default xs 0 (omega arith))

  -- a number read from it
  pub word-rest : word_at rest 0 ≡ word_at xs at
  word-rest = rw (byte 0, add-zero at, byte 1, byte 2, byte 3)

  pub long_rest : long_at rest 0 ≡ long_at xs at
  long_rest =
      let a : at + 4 + 1 ≡ at + 5 = omega arith in
      let b : at + 4 + 2 ≡ at + 6 = omega arith in
      let c : at + 4 + 3 ≡ at + 7 = omega arith in
      rw (word-rest, byte 4, byte 5, byte 6, byte 7, a, b, c)

-- read from a place on, or from the front of what is left there
pub word-drop : (at : ℕ) (xs : List ℕ) → word_at xs at ≡ word_at (drop at xs) 0
word-drop at xs = sym (rw (get_or-drop at xs 0 0, get_or-drop at xs 1 0, get_or-drop at xs 2 0, get_or-drop at xs 3 0, add-zero at))

-- the number of the four bytes from a place on, and of the eight
pub word-read : (at : ℕ) (xs : List ℕ) → from_le_bytes w32 (map_at (get_or (drop at xs)) (replicate 4 0)) ≡ word_at xs at
unfolding map_at
word-read at xs = rw (word-drop at xs) (omega arith)

pub long_read : (at : ℕ) (xs : List ℕ) → from_le_bytes w64 (map_at (get_or (drop at xs)) (replicate 8 0)) ≡ long_at xs at
unfolding map_at
long_read at xs =
    let s = drop at xs in
    let b : map_at (get_or s) (replicate 8 0) ≡ get_or s 0 0 ∷ get_or s 1 0 ∷ get_or s 2 0 ∷ get_or s 3 0 ∷ get_or s 4 0 ∷ get_or s 5 0 ∷ get_or s 6 0 ∷ get_or s 7 0 ∷ [] = refl in
    let h : word_at (drop 4 s) 0 ≡ word_at s 4 = sym (word-drop 4 s) in
    ap (from_le_bytes w64) b ∙ rw (word-drop at xs, word-drop (at + 4) xs, ← drop-drop 4 at xs, h) (omega arith)

-- the number of a number's four bytes
pub word_number : (n : ℕ) → n < 2 ^ 32 → word_at (word n) 0 ≡ n
word_number n h = omega (arith, from_le_bytes-to_le_bytes_4 n h)
