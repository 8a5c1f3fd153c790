-- Adding to the totals: no sum beyond 64 bits, and each byte of the numbers.
-- Assumes nothing.
use mathlib.Core.Path.{◌≡◌, refl, sym, ap, ◌∙◌}
use mathlib.Core.Bool.{Bool, true, false, cond, ◌||◌, false≢true}
use mathlib.Core.List.{List}
use Prim.Native.Nat.{ℕ, zero, suc, ◌+◌, ◌-◌, ◌*◌, ◌/◌, ◌%◌, ◌≤◌, ◌<◌}
use native.Mathlib.Numerals.{add-one}
use native.Mathlib.Omega.{arith}
use borrow.Author.Tests.{eqb-true, eqb-false, ltb-true, ltb-false, lt-ltb, le-ltb, leb-true, leb-false}
use lib.Dec.{eqb, leb, ltb}
use lib.ListN.{length, get_or, get_or-eq_default}
use Rattle.slices.specs.Bytes.{long, long_at}
use Rattle.slices.specs.Changed.{map_at, stored}
use Rattle.slices.proofs.Maps.{length-map, get_or-map, map-then, map-ext, map_same, get_d_any}
use Rattle.report.specs.Totals.{totals, total_bytes, largest, total_in, some_below, exceeds, added_to, added}

-- ---- some number below n

or-true : (a : Bool) → a || true ≡ true
or-true true = refl
or-true false = refl

pub some_next : (n : ℕ) (test : ℕ → Bool) → some_below (n + 1) test ≡ some_below n test || test n
some_next n test = rw (add-one n)

neither : (a b : Bool) → a || b ≡ false → (a ≡ false) × (b ≡ false)
neither true b e = absurd (false≢true (sym e))
neither false b e = (refl, e)

none_below : (n : ℕ) (test : ℕ → Bool) → some_below n test ≡ false → (i : ℕ) → i < n → test i ≡ false
none_below zero test e i h = absurd (omega arith)
none_below (suc n) test e i h =
    let p = neither (some_below n test) (test n) e in
    go p.1 (none_below n test p.0 i) (eqb i n) refl
  where
    go : test n ≡ false → (i < n → test i ≡ false) → (b : Bool) → eqb i n ≡ b → test i ≡ false
    go last before true q = rw (eqb-true i n q) last
    go last before false q = let k = eqb-false i n q in before (omega arith)

-- one that it holds of is enough
some_at : (n : ℕ) (test : ℕ → Bool) (i : ℕ) → i < n → test i ≡ true → some_below n test ≡ true
some_at zero test i h e = absurd (omega arith)
some_at (suc n) test i h e = go (λ k. some_at n test i k e) (eqb i n) refl
  where
    go : (i < n → some_below n test ≡ true) → (b : Bool) → eqb i n ≡ b → some_below n test || test n ≡ true
    go before true q = let z = eqb-true i n q in let l : test n ≡ true = ap test (sym z) ∙ e in rw l (or-true (some_below n test))
    go before false q = let k = eqb-false i n q in rw (before (omega arith))

some_same : (n : ℕ) (s t : ℕ → Bool) → ((i : ℕ) → i < n → s i ≡ t i) → some_below n s ≡ some_below n t
some_same zero s t h = refl
some_same (suc n) s t h = rw (some_same n s t (λ i lt. h i (omega arith)), h n (omega arith))

some-never : (n : ℕ) → some_below n (λ i. false) ≡ false
some-never zero = refl
some-never (suc n) = rw (some-never n)

-- ---- 71

module _ (more : ℕ → ℕ) (b : List ℕ) where
  -- where it is not met, every sum fits
  pub none-exceeds : exceeds more b ≡ false → (i : ℕ) → i < totals → total_in b i + more i ≤ largest
  unfolding exceeds
  none-exceeds e i h = ltb-false largest (total_in b i + more i) (none_below totals (λ k. ltb largest (total_in b k + more k)) e i h)

  -- and the other way round
  pub all_fit : ((i : ℕ) → i < totals → total_in b i + more i ≤ largest) → exceeds more b ≡ false
  unfolding exceeds
  all_fit h = some_same totals _ (λ i. false) (λ i lt. le-ltb largest (total_in b i + more i) (h i lt)) ∙ some-never totals

  -- where it is met at some place
  pub some_exceeds : (i : ℕ) → i < totals → ltb largest (total_in b i + more i) ≡ true → exceeds more b ≡ true
  unfolding exceeds
  some_exceeds i h e = some_at totals (λ k. ltb largest (total_in b k + more k)) i h e

  pub exceeds-end : (n : ℕ) → n ≡ totals → some_below n (λ i. ltb largest (total_in b i + more i)) ≡ exceeds more b
  unfolding exceeds
  exceeds-end n e = ap (λ (k : ℕ). some_below k (λ i. ltb largest (total_in b i + more i))) e

  pub exceeds-same : (other : ℕ → ℕ) → ((i : ℕ) → i < totals → more i ≡ other i) → exceeds more b ≡ exceeds other b
  unfolding exceeds
  exceeds-same other h = some_same totals _ _ (λ i lt. ap (λ (n : ℕ). ltb largest (total_in b i + n)) (h i lt))

  -- ---- the bytes

  abbrev byte : ℕ → ℕ
  byte j = get_or (long (total_in b (j / 8) + more (j / 8))) (j % 8) 0

  pub length-added : (n : ℕ) → length (added_to n more b) ≡ length b
  unfolding added_to
  length-added n = length-map _ b

  -- a byte behind the first n numbers stays
  byte-kept : (n j : ℕ) → 8 * n ≤ j → get_or (added_to n more b) j 0 ≡ get_or b j 0
  unfolding added_to
  byte-kept n j h = go (ltb j (length b)) refl
    where
      go : (t : Bool) → ltb j (length b) ≡ t → get_or (added_to n more b) j 0 ≡ get_or b j 0
      go true e = get_or-map _ b j 0 (ltb-true j (length b) e) ∙ rw (le-ltb j (8 * n) h)
      go false e = let k = ltb-false j (length b) e in get_or-eq_default (added_to n more b) 0 {n = j} (omega (arith, length-added n)) ∙ sym (get_or-eq_default b 0 {n = j} k)

  -- a number behind them too
  pub total_kept : (n : ℕ) → total_in (added_to n more b) n ≡ total_in b n
  total_kept n =
      rw (
        byte-kept n (8 * n) (omega arith),
        byte-kept n (8 * n + 1) (omega arith),
        byte-kept n (8 * n + 2) (omega arith),
        byte-kept n (8 * n + 3) (omega arith),
        byte-kept n (8 * n + 4) (omega arith),
        byte-kept n (8 * n + 4 + 1) (omega arith),
        byte-kept n (8 * n + 4 + 2) (omega arith),
        byte-kept n (8 * n + 4 + 3) (omega arith),
      )

  -- nothing added yet
  pub added_none : b ≡ added_to 0 more b
  unfolding added_to
  added_none = sym (map-ext _ _ (λ j x. rw (le-ltb j (8 * 0) (omega arith))) b ∙ map_same b)

  -- the next number stored
  module _ (n : ℕ) where
    abbrev sum : ℕ
    sum = total_in b n + more n

    byte_next : (j x : ℕ) → stored (8 * n) (long sum) j (cond (ltb j (8 * n)) (byte j) x) ≡ cond (ltb j (8 * (n + 1))) (byte j) x
    unfolding stored
    byte_next j x = go (leb (8 * n) j) refl (ltb j (8 * (n + 1))) refl
      where
        go : (s : Bool) → leb (8 * n) j ≡ s → (t : Bool) → ltb j (8 * (n + 1)) ≡ t
            → cond (leb (8 * n) j) (get_or (long sum) (j - 8 * n) (cond (ltb j (8 * n)) (byte j) x)) (cond (ltb j (8 * n)) (byte j) x) ≡ cond (ltb j (8 * (n + 1))) (byte j) x
        go false e t f = let h = leb-false (8 * n) j e in rw (e, lt-ltb j (8 * n) h, lt-ltb j (8 * (n + 1)) (omega arith))
        go true e true f =
            let h = leb-true (8 * n) j e in
            let k = ltb-true j (8 * (n + 1)) f in
            let q : j / 8 ≡ n = omega arith in
            let r : j % 8 ≡ j - 8 * n = omega arith in
            rw (e, f, le-ltb j (8 * n) h, q, r) (get_d_any (long sum) (j - 8 * n) x 0 (omega arith))
        go true e false f =
            let h = leb-true (8 * n) j e in
            let k = ltb-false j (8 * (n + 1)) f in
            rw (e, f, le-ltb j (8 * n) h) (get_or-eq_default (long sum) x {n = j - 8 * n} (omega arith))

    pub added_next : {held : List ℕ} {s : ℕ} → held ≡ added_to n more b → s ≡ total_in held n + more n → map_at (stored (8 * n) (long s)) held ≡ added_to (n + 1) more b
    unfolding added_to
    added_next {held} {s} e q =
        let z : s ≡ total_in b n + more n = q ∙ ap (λ (k : ℕ). k + more n) (ap (λ (h : List ℕ). total_in h n) e ∙ total_kept n) in
        rw (z, e) (map-then _ _ b ∙ map-ext _ _ byte_next b)

  -- two that give the same to each number
  pub added-same : (other : ℕ → ℕ) → ((i : ℕ) → i < totals → more i ≡ other i) → added more b ≡ added other b
  unfolding added_to
  added-same other h = map-ext _ _ (λ j x. go j x (ltb j (8 * totals)) refl) b
    where
      go : (j x : ℕ) (t : Bool) → ltb j (8 * totals) ≡ t
          → cond (ltb j (8 * totals)) (byte j) x ≡ cond (ltb j (8 * totals)) (get_or (long (total_in b (j / 8) + other (j / 8))) (j % 8) 0) x
      go j x true e = let k = ltb-true j (8 * totals) e in rw (e, h (j / 8) (omega arith))
      go j x false e = rw e

-- ---- read again

-- four bytes of a number are those of its lower 32 bits
four : (m : ℕ) → m % 256 + 256 * (m / 256 % 256) + 65536 * (m / 65536 % 256) + 16777216 * (m / 16777216 % 256) ≡ m % 4294967296
four m =
    let a : m % 256 + 256 * (m / 256) ≡ m = omega arith in
    let b : m / 256 % 256 + 256 * (m / 65536) ≡ m / 256 = omega arith in
    let c : m / 65536 % 256 + 256 * (m / 16777216) ≡ m / 65536 = omega arith in
    let d : m / 16777216 % 256 + 256 * (m / 4294967296) ≡ m / 16777216 = omega arith in
    let e : m % 4294967296 + 4294967296 * (m / 4294967296) ≡ m = omega arith in
    omega arith

-- the number of a number's eight bytes
long-number : (n : ℕ) → n ≤ largest → long_at (long n) 0 ≡ n
long-number n h =
    let m = n / 4294967296 in
    let a : n / 1099511627776 ≡ m / 256 = omega arith in
    let b : n / 281474976710656 ≡ m / 65536 = omega arith in
    let c : n / 72057594037927936 ≡ m / 16777216 = omega arith in
    rw (a, b, c, four n, four m) (omega arith)

module _ (more : ℕ → ℕ) (b : List ℕ) (l : total_bytes ≤ length b) (e : exceeds more b ≡ false) where
  byte-added : (i k j : ℕ) → j ≡ 8 * i + k → i < totals → k < 8 → get_or (added more b) j 0 ≡ get_or (long (total_in b i + more i)) k 0
  unfolding added_to
  byte-added i k j e h lt =
      let q : j / 8 ≡ i = omega arith in
      let r : j % 8 ≡ k = omega arith in
      get_or-map _ b j 0 (omega arith) ∙ rw (lt-ltb j (8 * totals) (omega arith), q, r)

  -- each total is what it was and what was added
  pub total-added : (i : ℕ) → i < totals → total_in (added more b) i ≡ total_in b i + more i
  total-added i h =
      rw (
        byte-added i 0 (8 * i) (omega arith) h (omega arith),
        byte-added i 1 (8 * i + 1) (omega arith) h (omega arith),
        byte-added i 2 (8 * i + 2) (omega arith) h (omega arith),
        byte-added i 3 (8 * i + 3) (omega arith) h (omega arith),
        byte-added i 4 (8 * i + 4) (omega arith) h (omega arith),
        byte-added i 5 (8 * i + 4 + 1) (omega arith) h (omega arith),
        byte-added i 6 (8 * i + 4 + 2) (omega arith) h (omega arith),
        byte-added i 7 (8 * i + 4 + 3) (omega arith) h (omega arith),
      )
      (long-number (total_in b i + more i) (none-exceeds more b e i h))

  -- more added behind it
  pub added-both : (other : ℕ → ℕ) → added other (added more b) ≡ added (λ i. more i + other i) b
  unfolding added_to
  added-both other =
      map-then _ _ b ∙ map-ext _ _ (λ j x. go j x (ltb j (8 * totals)) refl) b
    where
      go : (j x : ℕ) (t : Bool) → ltb j (8 * totals) ≡ t
          → cond (ltb j (8 * totals)) (get_or (long (total_in (added more b) (j / 8) + other (j / 8))) (j % 8) 0) (cond (ltb j (8 * totals)) (get_or (long (total_in b (j / 8) + more (j / 8))) (j % 8) 0) x)
          ≡ cond (ltb j (8 * totals)) (get_or (long (total_in b (j / 8) + (more (j / 8) + other (j / 8)))) (j % 8) 0) x
      go j x true q =
          let k = ltb-true j (8 * totals) q in
          let s : total_in (added more b) (j / 8) + other (j / 8) ≡ total_in b (j / 8) + (more (j / 8) + other (j / 8)) = omega (arith, total-added (j / 8) (omega arith)) in
          rw (q, s)
      go j x false q = rw q

  -- where no sum of both is too large, none of them is
  pub both-fit : (other : ℕ → ℕ) → exceeds other (added more b) ≡ exceeds (λ i. more i + other i) b
  unfolding exceeds
  both-fit other =
      some_same totals _ _ (λ i h. let s : total_in (added more b) i + other i ≡ total_in b i + (more i + other i) = omega (arith, total-added i h) in ap (ltb largest) s)
