-- Laws of `specs/Memory.antt`.
-- Assumes nothing.
use mathlib.Core.Path.{◌≡◌, refl, sym, ap, ◌∙◌}
use mathlib.Core.Bool.{Bool, true, false, cond, ◌&&◌, ◌||◌, true≢false}
use mathlib.Core.List.{List, [], ◌∷◌}
use Prim.Native.Nat.{ℕ, ◌+◌, ◌-◌, ◌*◌, ◌/◌, ◌%◌, ◌≤◌, ◌<◌, min}
use native.Mathlib.Nat.{add_assoc, mod-add-mod, mod-eq_of_lt, mod_self, div-zero}
use native.Mathlib.Numerals.{add-one}
use native.Mathlib.Omega.{arith}
use borrow.Author.Tests.{eqb-true, eqb-false, leb-true, leb-false, ltb-true, ltb-false}
use lib.ListN.{length, get_or, set, take, drop, length-drop, drop_of_length-le, get_or-eq_default, length-set, length-replicate, get_or-replicate}
use lib.Seq.{drop-cons, get_or-drop, get_or-set_same, get_or-set_other}
use lib.Bits.{bit_and}
use lib.Dec.{eqb, leb, ltb}
use Rattle.slices.specs.Changed.{map_at, window, put, stored}
use Rattle.slices.proofs.Maps.{map-then, map-agree, get_d_any}
use Rattle.slices.proofs.Windows.{window-in, window-above, window-block, window-clamp, window_more}
use Rattle.slices.proofs.Parts.{getD-lent}
use Rattle.slices.proofs.Ands.{and_ff}
use Rattle.memory.specs.Memory.{blank, filled, reached, landed, anded, programmed, rolled}

-- one data byte more
pub filled_next : (latch : List ℕ) (at i : ℕ) (s : List ℕ) → i < length s
    → filled latch (at + i) (drop i s) ≡ filled (set latch ((at + i) % 256) (get_or s i 0)) (at + (i + 1)) (drop (i + 1) s)
unfolding filled
filled_next latch at i s h = rw (← add_assoc at i 1, drop-cons s i 0 h, add-one i)

-- no data byte left
pub filled-end : (latch : List ℕ) (at i : ℕ) (s : List ℕ) → length s ≤ i → latch ≡ filled latch at (drop i s)
unfolding filled
filled-end latch at i s h = rw (drop_of_length-le s h)

-- a latch keeps its length
pub filled-length : (latch : List ℕ) (at : ℕ) (s : List ℕ) → length (filled latch at s) ≡ length latch
unfolding filled
filled-length latch at [] = refl
filled-length latch at (b ∷ s) = filled-length (set latch (at % 256) b) (at + 1) s ∙ length-set latch (at % 256) b

-- what there is of the page, lent and changed by what looks at places in a page alone
pub page-at : (at : ℕ) (g : ℕ → ℕ → ℕ) → ((i j x : ℕ) → i % 256 ≡ j % 256 → g i x ≡ g j x)
    → (xs : List ℕ) (from n : ℕ) → from ≡ min (at / 256 * 256) (length xs) → n ≡ min 256 (length xs - from)
    → map_at (window from (from + n) (λ i x. g (i - from) x)) xs ≡ map_at (λ i x. cond (eqb (i / 256) (at / 256)) (g i x) x) xs
page-at at g paged xs from n p q =
    window-clamp (at / 256 * 256) 256 from n (λ i x. g (i - from) x) xs p q
    ∙ map-agree _ _ xs
    (λ i lt.
    ap (λ (e : ℕ). window (at / 256 * 256) e (λ i x. g (i - from) x) i (get_or xs i 0)) (omega arith)
    ∙ window-block 256 (at / 256) (omega arith) (λ i x. g (i - from) x) i (get_or xs i 0)
    ∙ go i lt (get_or xs i 0) (eqb (i / 256) (at / 256)) refl)
  where
    go : (i : ℕ) → i < length xs → (x : ℕ) (b : Bool) → eqb (i / 256) (at / 256) ≡ b → cond b (g (i - from) x) x ≡ cond b (g i x) x
    go i lt x true e =
        let k = eqb-true (i / 256) (at / 256) e in
        paged (i - from) i x (omega arith)
    go i lt x false e = refl

-- programmed
pub page-is : (at : ℕ) (slots xs : List ℕ) (from n : ℕ) → from ≡ min (at / 256 * 256) (length xs) → n ≡ min 256 (length xs - from)
    → map_at (window from (from + n) (λ i x. anded slots (i - from) x)) xs ≡ map_at (programmed at slots) xs
unfolding programmed
page-is at slots xs from n p q = page-at at (anded slots) (λ i j x e. ap (λ (k : ℕ). bit_and x (get_or slots k 0)) e) xs from n p q

-- a sector is a part: whatever is done to its bytes; with no size the whole is one sector
pub sector-is : (size at : ℕ) (g : ℕ → ℕ → ℕ) (xs : List ℕ) → 0 < size
    → map_at (window (at / size * size) (at / size * size + size) g) xs ≡ map_at (λ i x. cond (eqb (i / size) (at / size)) (g i x) x) xs
sector-is size at g xs pos =
    let e : at / size * size + size ≡ (at / size + 1) * size = omega arith in
    rw e (map-agree _ _ xs (λ i lt. window-block size (at / size) pos g i (get_or xs i 0)))

pub sector-none : (at : ℕ) (g : ℕ → ℕ → ℕ) (xs : List ℕ) → map_at g xs ≡ map_at (λ i x. cond (eqb (i / 0) (at / 0)) (g i x) x) xs
sector-none at g xs = map-agree _ _ xs (λ i lt. rw (div-zero i, div-zero at))

-- with no array nothing is read
pub rolled-none : (a : List ℕ) (at : ℕ) (xs : List ℕ) → length a ≡ 0 → map_at (put 255) xs ≡ map_at (λ i x. rolled a at i) xs
rolled-none a at xs e = map-agree _ _ xs (λ i lt. let k : length a ≤ (at + i) % length a = omega arith in sym (get_or-eq_default a _ k))

-- one straight run of a read
pub run_is : (a out out₀ : List ℕ) (address at done run : ℕ) → at ≡ (address + done) % length a → at + run ≤ length a
    → out ≡ map_at (window 0 done (λ i x. rolled a address i)) out₀
    → map_at (window done (done + run) (λ i x. get_or (take (at + run - at) (drop at a)) (i - done) x)) out ≡ map_at (window 0 (done + run) (λ i x. rolled a address i)) out₀
run_is a out out₀ address at done run p h q = window_more done (done + run) (λ i x. rolled a address i) _ out₀ q (omega arith) byte
  where
    byte : (i x : ℕ) → done ≤ i → i < done + run → get_or (take (at + run - at) (drop at a)) (i - done) x ≡ get_or a ((address + i) % length a) 255
    byte i x k l =
        let lt : at + (i - done) < length a = omega arith in
        let e : address + i ≡ address + done + (i - done) = omega arith in
        let m : (address + i) % length a ≡ at + (i - done) =
        ap (λ (n : ℕ). n % length a) e ∙ (sym (mod-add-mod (address + done) (length a) (i - done)) ∙ (ap (λ (n : ℕ). (n + (i - done)) % length a) (sym p) ∙ mod-eq_of_lt lt)) in
        getD-lent at (at + run) a (omega arith) h (i - done) x (omega arith) ∙ (get_d_any a (at + (i - done)) x 255 lt ∙ ap (λ (n : ℕ). get_or a n 255) (sym m))

pub next-at : (address done at run n : ℕ) → at ≡ (address + done) % n → (at + run) % n ≡ (address + (done + run)) % n
next-at address done at run n p = ap (λ (m : ℕ). (m + run) % n) p ∙ (mod-add-mod (address + done) n run ∙ ap (λ (m : ℕ). m % n) (omega arith))

-- behind the last byte comes byte 0
pub round : (address done at next n : ℕ) → at ≡ (address + done) % n → at ≤ n → next ≡ done + (n - at) → 0 ≡ (address + next) % n
round address done at next n p h q =
    let z : n ≡ at + (n - at) = omega arith in
    rw q (sym (mod_self n) ∙ ap (λ (m : ℕ). m % n) z ∙ next-at address done at (n - at) n p)

-- the bytes from a place of the array on, copied behind what is read so far
pub rolls-on : (a out₀ : List ℕ) (address at done next : ℕ) {out : List ℕ} → 0 < length a → at ≡ (address + done) % length a → next ≡ done + (length a - at) → out ≡ map_at (window 0 done (λ i x. rolled a address i)) out₀
    → map_at (stored done (drop at a)) out ≡ map_at (window 0 next (λ i x. rolled a address i)) out₀
unfolding stored
rolls-on a out₀ address at done next pos p r q =
    ap (map_at (stored done (drop at a))) q ∙ map-then (window 0 done read) (stored done (drop at a)) out₀
    ∙ map-agree _ _ out₀ (λ i lt. go i (get_or out₀ i 0) (leb done i) refl (ltb i next) refl)
  where
    read : ℕ → ℕ → ℕ
    read i x = rolled a address i

    go : (i x : ℕ) → (s : Bool) → leb done i ≡ s → (t : Bool) → ltb i next ≡ t
        → cond (leb done i) (get_or (drop at a) (i - done) (window 0 done read i x)) (window 0 done read i x) ≡ window 0 next read i x
    go i x true e true f =
        let h : done ≤ i = leb-true done i e in
        let k : i < next = ltb-true i next f in
        let lt : at + (i - done) < length a = omega arith in
        let z : address + i ≡ address + done + (i - done) = omega arith in
        let m : (address + i) % length a ≡ at + (i - done) =
        ap (λ (n : ℕ). n % length a) z ∙ (sym (mod-add-mod (address + done) (length a) (i - done)) ∙ (ap (λ (n : ℕ). (n + (i - done)) % length a) (sym p) ∙ mod-eq_of_lt lt)) in
        rw e (get_or-drop at a (i - done) _ ∙ get_d_any a (at + (i - done)) _ 255 lt ∙ ap (λ (n : ℕ). get_or a n 255) (sym m) ∙ sym (window-in 0 next read i x (omega arith) k))
    go i x true e false f =
        let h : done ≤ i = leb-true done i e in
        let k : next ≤ i = ltb-false i next f in
        rw e (get_or-eq_default (drop at a) _ (omega (arith, length-drop at a)) ∙ window-above 0 done read i x h ∙ sym (window-above 0 next read i x k))
    go i x false e t f =
        let h : i < done = leb-false done i e in
        rw e (window-in 0 done read i x (omega arith) h ∙ sym (window-in 0 next read i x (omega arith) (omega arith)))

-- ---- the latch, slot by slot

set_at : (l : List ℕ) (i j v d : ℕ) → i < length l → (t : Bool) → eqb i j ≡ t → get_or (set l i v) j d ≡ cond t v (get_or l j d)
set_at l i j v d h true e = let q : i ≡ j = eqb-true i j e in rw (← q) (get_or-set_same l i v d h)
set_at l i j v d h false e = get_or-set_other l i j v d (λ q. eqb-false i j e (sym q))

-- a slot of the latch holds the last byte that went to it
pub filled-slot : (l : List ℕ) (at : ℕ) (s : List ℕ) (j d : ℕ) → length l ≡ 256 → get_or (filled l at s) j d ≡ landed at s j (get_or l j d)
unfolding filled landed
filled-slot l at [] j d h = refl
filled-slot l at (b ∷ s) j d h =
    let k : at % 256 < length l = omega arith in
    filled-slot (set l (at % 256) b) (at + 1) s j d (length-set l (at % 256) b ∙ h)
    ∙ ap (landed (at + 1) s j) (set_at l (at % 256) j b d k (eqb (at % 256) j) refl)

pub blank-slot : (at : ℕ) (s : List ℕ) (j : ℕ) → j < 256 → get_or (filled blank at s) j 0 ≡ landed at s j 255
unfolding blank
blank-slot at s j h = filled-slot blank at s j 0 (length-replicate {A = ℕ} 256 255) ∙ ap (landed at s j) (get_or-replicate 256 j 255 0 h)

-- a slot that no data byte reached holds what it held
pub not-reached : (at : ℕ) (s : List ℕ) (j held : ℕ) → reached at s j ≡ false → landed at s j held ≡ held
unfolding reached landed
not-reached at [] j held h = refl
not-reached at (b ∷ s) j held h = go (eqb (at % 256) j) h (not-reached (at + 1) s j held)
  where
    go : (t : Bool) → t || reached (at + 1) s j ≡ false → (reached (at + 1) s j ≡ false → landed (at + 1) s j held ≡ held) → landed (at + 1) s j (cond t b held) ≡ held
    go true e ih = absurd (true≢false e)
    go false e ih = ih e

-- a byte after its page was programmed: itself and the byte that reached it, itself where none did
pub programmed-byte : (at : ℕ) (s : List ℕ) (i x : ℕ) → x < 256
    → programmed at (filled blank at s) i x ≡ cond (eqb (i / 256) (at / 256) && reached at s (i % 256)) (bit_and x (landed at s (i % 256) 255)) x
unfolding programmed
programmed-byte at s i x lt = rw (blank-slot at s (i % 256) (omega arith)) (go (eqb (i / 256) (at / 256)) (reached at s (i % 256)) (not-reached at s (i % 256) 255))
  where
    go : (p h : Bool) → (h ≡ false → landed at s (i % 256) 255 ≡ 255)
        → cond p (bit_and x (landed at s (i % 256) 255)) x ≡ cond (p && h) (bit_and x (landed at s (i % 256) 255)) x
    go true true e = refl
    go true false e = rw (e refl) (and_ff x lt)
    go false h e = refl
