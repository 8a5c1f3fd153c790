-- Laws of page writes, whole and cut: as the code makes them, which bytes they name, and what they do to a byte.
-- Assumes nothing.
use mathlib.Core.Path.{◌≡◌, refl, sym, ap, ap₂, ◌∙◌}
use mathlib.Core.Bool.{Bool, true, false, cond, ◌&&◌, ◌||◌}
use mathlib.Core.List.{List, [], ◌∷◌}
use Prim.Native.Nat.{ℕ, suc, ◌+◌, ◌-◌, ◌*◌, ◌/◌, ◌%◌, ◌<◌, min}
use native.Mathlib.Omega.{arith}
use borrow.Author.Tests.{eqb-true, eqb-false, leb-true, leb-false, lt-ltb, le-ltb, ltb-true, ltb-false}
use lib.ListN.{length, get_or, take, drop, drop_of_length-le, replicate, length-replicate, length-drop}
use lib.Seq.{take_all, get_or-drop}
use lib.Bits.{bit_and, bit_or, and_self}
use lib.Dec.{eqb, leb, ltb}
use Rattle.slices.specs.Changed.{map_at, window}
use Rattle.slices.proofs.Maps.{map-agree, get_or-map, length-map, get_d_any}
use Rattle.slices.proofs.Windows.{window-end}
use Rattle.slices.proofs.Choices.{cond_ind}
use Rattle.memory.specs.Memory.{blank, filled, reached, landed, named, placed, replaced, ored, cut_write}
use Rattle.memory.proofs.Laws.{page-at, blank-slot}
use Rattle.memory.proofs.Cuts.{ored-sets}

-- ---- as the code makes them

-- whether a place is named is told by its place in the page
named-paged : (at count i j : ℕ) → i % 256 ≡ j % 256 → named at count i ≡ named at count j
unfolding named
named-paged at count i j e = ap (λ (k : ℕ). ltb k count) (omega arith)

-- what there is of the page, lent and written
pub page-written : (at count : ℕ) (slots xs : List ℕ) (from n : ℕ) → from ≡ min (at / 256 * 256) (length xs) → n ≡ min 256 (length xs - from)
    → map_at (window from (from + n) (λ i x. placed at count slots (i - from) x)) xs ≡ map_at (replaced at count slots) xs
unfolding replaced
page-written at count slots xs from n p q = page-at at (placed at count slots) (λ i j x e. ap₂ (λ (b : Bool) (k : ℕ). cond b (get_or slots k 0) x) (named-paged at count i j e) e) xs from n p q

-- the bytes from a place on, or from the end where there are none
pub rest-lent : (at : ℕ) (xs : List ℕ) (from : ℕ) → from ≡ min at (length xs) → take (length xs - from) (drop from xs) ≡ drop at xs
rest-lent at xs from e = take_all (length xs - from) (drop from xs) (omega (arith, length-drop from xs)) ∙ go (leb at (length xs)) refl
  where
    go : (b : Bool) → leb at (length xs) ≡ b → drop from xs ≡ drop at xs
    go true q = let h = leb-true at (length xs) q in let z : from ≡ at = omega arith in rw z
    go false q = let h = leb-false at (length xs) q in drop_of_length-le xs (omega arith) ∙ sym (drop_of_length-le xs (omega arith))

-- a cut write is a write of the page as it is, each byte or the mask
pub write-cut : (at count : ℕ) (mask xs : List ℕ) {page slots : List ℕ} (from : ℕ) → from ≡ min (at / 256 * 256) (length xs)
    → page ≡ map_at (get_or (take (length xs - from) (drop from xs))) (replicate 256 0) → slots ≡ map_at (window 0 (0 + 256) (ored mask)) page
    → map_at (replaced at count slots) xs ≡ map_at (cut_write at count mask) xs
unfolding replaced cut_write
write-cut at count mask xs {page} {slots} from f p s =
    map-agree _ _ xs (λ i lt. go i lt (eqb (i / 256) (at / 256)) refl)
  where
    long : length page ≡ 256
    long = ap length p ∙ length-map _ (replicate 256 0) ∙ length-replicate {A = ℕ} 256 0

    go : (i : ℕ) → i < length xs → (b : Bool) → eqb (i / 256) (at / 256) ≡ b → cond b (placed at count slots i (get_or xs i 0)) (get_or xs i 0) ≡ cond b (cond (named at count i) (ored mask i (get_or xs i 0)) (get_or xs i 0)) (get_or xs i 0)
    go i lt true e =
        let k = eqb-true (i / 256) (at / 256) e in
        let h : i % 256 < length page = omega (arith, long) in
        let z : from + i % 256 ≡ i = omega arith in
        let m : i % 256 % 256 ≡ i % 256 = omega arith in
        let w : length (replicate {A = ℕ} 256 0) ≡ 256 = length-replicate {A = ℕ} 256 0 in
        let old : get_or page (i % 256) 0 ≡ get_or xs i 0 =
        ap (λ (t : List ℕ). get_or t (i % 256) 0) p ∙ get_or-map _ (replicate 256 0) (i % 256) 0 (omega arith)
        ∙ ap (λ (t : List ℕ). get_or t (i % 256) (get_or (replicate 256 0) (i % 256) 0)) (take_all (length xs - from) (drop from xs) (omega (arith, length-drop from xs)))
        ∙ get_or-drop from xs (i % 256) _ ∙ ap (λ (j : ℕ). get_or xs j (get_or (replicate 256 0) (i % 256) 0)) z ∙ get_d_any xs i _ 0 lt in
        let new : get_or slots (i % 256) 0 ≡ ored mask i (get_or xs i 0) =
        ap (λ (t : List ℕ). get_or t (i % 256) 0) (s ∙ window-end 256 (ored mask) page (omega (arith, long))) ∙ get_or-map (ored mask) page (i % 256) 0 h
        ∙ ap₂ (λ (x j : ℕ). bit_or x (get_or mask j 0)) old m in
        ap (λ (y : ℕ). cond (named at count i) y (get_or xs i 0)) new
    go i lt false e = refl

-- ---- which bytes are named

-- one more on both sides
suc-both : (a b : ℕ) → ltb a b ≡ ltb (suc a) (suc b)
suc-both a b = go (ltb a b) refl
  where
    go : (t : Bool) → ltb a b ≡ t → ltb a b ≡ ltb (suc a) (suc b)
    go true e = let h = ltb-true a b e in e ∙ sym (lt-ltb (suc a) (suc b) (omega arith))
    go false e = let h = ltb-false a b e in e ∙ sym (le-ltb (suc a) (suc b) (omega arith))

-- the places that the data reaches: with 256 bytes or more all of the page
pub named-reached : (at : ℕ) (s : List ℕ) (i : ℕ) → named at (min 256 (length s)) i ≡ reached at s (i % 256)
unfolding named reached
named-reached at s i = capped (ltb off (length s)) refl ∙ sym (go at s (i % 256) (omega arith))
  where
    off : ℕ
    off = (i % 256 + (256 - at % 256)) % 256

    same : (i + (256 - at % 256)) % 256 ≡ off
    same = omega arith

    capped : (b : Bool) → ltb off (length s) ≡ b → ltb ((i + (256 - at % 256)) % 256) (min 256 (length s)) ≡ ltb off (length s)
    capped true e = let h = ltb-true off (length s) e in rw (same, e) (lt-ltb off (min 256 (length s)) (omega arith))
    capped false e = let h = ltb-false off (length s) e in rw (same, e) (le-ltb off (min 256 (length s)) (omega arith))

    go : (at : ℕ) (s : List ℕ) (j : ℕ) → j < 256 → reached at s j ≡ ltb ((j + (256 - at % 256)) % 256) (length s)
    go at [] j h = sym (le-ltb ((j + (256 - at % 256)) % 256) 0 (omega arith))
    go at (b ∷ s) j h = rw (go (at + 1) s j h) (step (eqb (at % 256) j) refl)
      where
        step : (t : Bool) → eqb (at % 256) j ≡ t → t || ltb ((j + (256 - (at + 1) % 256)) % 256) (length s) ≡ ltb ((j + (256 - at % 256)) % 256) (suc (length s))
        step true e = let k = eqb-true (at % 256) j e in sym (lt-ltb ((j + (256 - at % 256)) % 256) (suc (length s)) (omega arith))
        step false e =
            let k = eqb-false (at % 256) j e in
            let z : (j + (256 - at % 256)) % 256 ≡ suc ((j + (256 - (at + 1) % 256)) % 256) = next (at % 256) ((at + 1) % 256) (omega arith) (omega arith) k in
            rw z (suc-both ((j + (256 - (at + 1) % 256)) % 256) (length s))
          where
            next : (p q : ℕ) → p < 256 → q ≡ (p + 1) % 256 → (p ≡ j → ⊥) → (j + (256 - p)) % 256 ≡ suc ((j + (256 - q)) % 256)
            next p q l e n = omega arith

-- ---- what they do to a byte

-- THEOREM: a byte that data reaches becomes the last byte that went to its slot, both ways; every other byte stays
pub written_byte : (at : ℕ) (s : List ℕ) (i x : ℕ)
    → replaced at (min 256 (length s)) (filled blank at s) i x ≡ cond (eqb (i / 256) (at / 256) && reached at s (i % 256)) (landed at s (i % 256) 255) x
unfolding replaced
written_byte at s i x = rw (named-reached at s i, blank-slot at s (i % 256) (omega arith)) (go (eqb (i / 256) (at / 256)))
  where
    go : (p : Bool) → cond p (cond (reached at s (i % 256)) (landed at s (i % 256) 255) x) x ≡ cond (p && reached at s (i % 256)) (landed at s (i % 256) 255) x
    go true = refl
    go false = refl

-- a byte that is not named stays, whole or cut, and so does every byte of another page
pub unnamed-stays : (at count : ℕ) (slots : List ℕ) (i x : ℕ) → eqb (i / 256) (at / 256) && named at count i ≡ false → replaced at count slots i x ≡ x
unfolding replaced
unnamed-stays at count slots i x h = go (eqb (i / 256) (at / 256)) h
  where
    go : (p : Bool) → p && named at count i ≡ false → cond p (placed at count slots i x) x ≡ x
    go true e = rw e
    go false e = refl

pub unnamed-cut : (at count : ℕ) (mask : List ℕ) (i x : ℕ) → eqb (i / 256) (at / 256) && named at count i ≡ false → cut_write at count mask i x ≡ x
unfolding cut_write
unnamed-cut at count mask i x h = go (eqb (i / 256) (at / 256)) h
  where
    go : (p : Bool) → p && named at count i ≡ false → cond p (cond (named at count i) (ored mask i x) x) x ≡ x
    go true e = rw e
    go false e = refl

-- a cut write sets bits only
pub write-sets : (at count : ℕ) (mask : List ℕ) (i x : ℕ) → bit_and x (cut_write at count mask i x) ≡ x
unfolding cut_write
write-sets at count mask i x =
    cond_ind (λ (y : ℕ). bit_and x y ≡ x) (eqb (i / 256) (at / 256)) (cond_ind (λ (y : ℕ). bit_and x y ≡ x) (named at count i) (ored-sets mask i x) (and_self x)) (and_self x)
