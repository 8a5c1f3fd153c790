-- What the sums see further: a good block in which two bytes were changed is not good either.
-- Assumes nothing.
use Rattle.std.proofs.Common.{◌≡◌, ℕ, zero, suc, ◌+◌, ◌-◌, ◌*◌, ◌%◌, ◌<◌, ◌≤◌, Bool, true, false, not, ◌&&◌, eqb, leb, List, [], ◌∷◌, ◌++◌, length, sym, refl, ap, ◌∙◌, ap₂, append_assoc, add-zero, mul-le-mul, mul-zero, zero-mul, mul-suc, arith, eqb-true, leb-false, leb-true}
use native.Mathlib.Nat.{mul-mod_right}
use borrow.Author.Tests.{eqb-false, not-true}
use Rattle.slices.proofs.Choices.{both}
use Rattle.image.specs.declared.Sums.{Sums}
use Rattle.image.specs.Sums.{sums_from, sums_of}
use Rattle.image.specs.Blocks.{reason_of}
use Rattle.image.proofs.Seen.{Good, good-is, starts, changed, same_byte}

-- ---- numbers: no difference up to 255 times a weight up to 504 is a multiple of 65,536, but for 0

-- whether none of so many numbers from 131 on divides 65,536
abbrev none-divides : ℕ → Bool
none-divides zero = true
none-divides (suc k) = not (eqb (65536 % (131 + k)) 0) && none-divides k

none_so : (k i : ℕ) → none-divides k ≡ true → i < k → 65536 % (131 + i) ≡ 0 → ⊥
none_so zero i e h z = omega arith
none_so (suc k) i e h z = go (eqb i k) refl (both (not (eqb (65536 % (131 + k)) 0)) (none-divides k) e) (λ f g. none_so k i f g z)
  where
    go : (b : Bool) → eqb i k ≡ b → (not (eqb (65536 % (131 + k)) 0) ≡ true) × (none-divides k ≡ true) → (none-divides k ≡ true → i < k → ⊥) → ⊥
    go true q p more =
        let y : 65536 % (131 + k) ≡ 0 = rw (← eqb-true i k q) z in
        eqb-false (65536 % (131 + k)) 0 (not-true _ p.0) y
    go false q p more = let ne = eqb-false i k q in more p.1 (omega (arith, ne))

no-multiple : (d n : ℕ) → d ≤ 255 → n ≤ 504 → 0 < n → (d * n) % 65536 ≡ 0 → d ≡ 0
no-multiple zero n h k pos z = refl
no-multiple (suc d) n h k pos z = absurd (go (leb (suc d) 130) refl)
  where
    some : 1 * 1 ≤ suc d * n
    some = mul-le-mul {n₁ = 1} {m₁ = 1} (omega arith) pos

    most : suc d * n ≤ 255 * 504
    most = mul-le-mul h k

    go : (b : Bool) → leb (suc d) 130 ≡ b → ⊥
    go true e =
        let l : suc d * n ≤ 130 * 504 = mul-le-mul (leb-true (suc d) 130 e) k in
        omega (arith, some, l, z)
    go false e =
        let l = leb-false (suc d) 130 e in
        let w : suc d * n ≡ 65536 = omega (arith, some, most, z) in
        let y : 65536 % suc d ≡ 0 = rw (← w) (mul-mod_right (suc d) n) in
        let i : 131 + (suc d - 131) ≡ suc d = omega arith in
        none_so 125 (suc d - 131) refl (omega arith) (rw i y)

-- ---- the second sum

-- remainders within a sum
left : (x y : ℕ) → (x % 65536 + y) % 65536 ≡ (x + y) % 65536
left x y = omega arith

parts : (x y : ℕ) → (x % 65536 + y % 65536) % 65536 ≡ (x + y) % 65536
parts x y = omega arith

-- starting further on by d and by e, the sums end further on by d, and by e and d for each byte
moved-first : (a b c d : ℕ) (xs : List ℕ) → (sums_from ((a + d) % 65536) c xs).first ≡ ((sums_from (a % 65536) b xs).first + d) % 65536
unfolding sums_from
moved-first a b c d [] = omega arith
moved-first a b c d (x ∷ xs) =
    let u : a + d + x ≡ a + x + d = omega arith in
    ap (λ (k : ℕ). (sums_from k ((c + k) % 65536) xs).first) (left (a + d) x ∙ ap (λ (k : ℕ). k % 65536) u)
    ∙ (moved-first (a + x) ((b + (a + x) % 65536) % 65536) ((c + (a + x + d) % 65536) % 65536) d xs
    ∙ ap (λ (k : ℕ). ((sums_from k ((b + k) % 65536) xs).first + d) % 65536) (sym (left a x)))

moved-second : (a b d e : ℕ) (xs : List ℕ) → (sums_from ((a + d) % 65536) ((b + e) % 65536) xs).second ≡ ((sums_from (a % 65536) (b % 65536) xs).second + (e + d * length xs)) % 65536
unfolding sums_from
moved-second a b d e [] = rw mul-zero (omega arith)
moved-second a b d e (x ∷ xs) =
    let u : a + d + x ≡ a + x + d = omega arith in
    let v : b + e + (a + x + d) ≡ b + (a + x) + (e + d) = omega arith in
    let m : e + d + d * length xs ≡ e + (d * length xs + d) = omega arith in
    ap (λ (k : ℕ). (sums_from k (((b + e) % 65536 + k) % 65536) xs).second) (left (a + d) x ∙ ap (λ (k : ℕ). k % 65536) u)
    ∙ (ap (λ (k : ℕ). (sums_from ((a + x + d) % 65536) k xs).second) (parts (b + e) (a + x + d) ∙ ap (λ (k : ℕ). k % 65536) v)
    ∙ (moved-second (a + x) (b + (a + x)) d (e + d) xs
    ∙ (ap (λ (k : ℕ). ((sums_from ((a + x) % 65536) k xs).second + (e + d + d * length xs)) % 65536) (sym (parts b (a + x)))
    ∙ (ap (λ (k : ℕ). ((sums_from k ((b % 65536 + k) % 65536) xs).second + (e + d + d * length xs)) % 65536) (sym (left a x))
    ∙ ap (λ (k : ℕ). ((sums_from ((a % 65536 + x) % 65536) ((b % 65536 + (a % 65536 + x) % 65536) % 65536) xs).second + k) % 65536) (m ∙ ap (λ (k : ℕ). e + k) (sym (mul-suc d (length xs))))))))

-- one byte more, and the sums start further on
next : (a b x : ℕ) (xs : List ℕ) → sums_from (a % 65536) (b % 65536) (x ∷ xs) ≡ sums_from ((a + x) % 65536) ((b + (a + x)) % 65536) xs
unfolding sums_from
next a b x xs = ap (λ (k : ℕ). sums_from k ((b % 65536 + k) % 65536) xs) (left a x) ∙ ap (λ (k : ℕ). sums_from ((a + x) % 65536) k xs) (parts b (a + x))

-- a second sum that is the same though it started further on
same_second : (d n s : ℕ) → d ≤ 255 → n ≤ 503 → s ≡ (s + (d + d * n)) % 65536 → d ≡ 0
same_second d n s h k e =
    let z : (d * n + d) % 65536 ≡ 0 = omega arith in
    no-multiple d (suc n) h (omega arith) (omega arith) (rw mul-suc z)

-- a byte that grew by d
grown : (a b x d : ℕ) (post : List ℕ) → d ≤ 255 → length post ≤ 503 → (sums_from (a % 65536) (b % 65536) (x ∷ post)).second ≡ (sums_from (a % 65536) (b % 65536) ((x + d) ∷ post)).second → d ≡ 0
grown a b x d post h k e =
    let u : a + (x + d) ≡ a + x + d = omega arith in
    let v : b + (a + (x + d)) ≡ b + (a + x) + d = omega arith in
    let p : (sums_from ((a + x) % 65536) ((b + (a + x)) % 65536) post).second ≡ (sums_from ((a + x + d) % 65536) ((b + (a + x) + d) % 65536) post).second =
    sym (ap (λ (s : Sums). s.second) (next a b x post)) ∙ (e ∙ (ap (λ (s : Sums). s.second) (next a b (x + d) post) ∙ ap₂ (λ (m n : ℕ). (sums_from (m % 65536) (n % 65536) post).second) u v)) in
    same_second d (length post) _ h k (p ∙ moved-second (a + x) (b + (a + x)) d d post)

-- the second sum sees one byte, too
second-seen : (a b x y : ℕ) (pre post : List ℕ) → x < 256 → y < 256 → length post ≤ 503 → (sums_from (a % 65536) (b % 65536) (pre ++ (x ∷ post))).second ≡ (sums_from (a % 65536) (b % 65536) (pre ++ (y ∷ post))).second → x ≡ y
second-seen a b x y [] post h k l e = go (leb x y) refl
  where
    go : (t : Bool) → leb x y ≡ t → x ≡ y
    go true q =
        let m = leb-true x y q in
        let w : y ≡ x + (y - x) = omega arith in
        let z = grown a b x (y - x) post (omega arith) l (e ∙ ap (λ (n : ℕ). (sums_from (a % 65536) (b % 65536) (n ∷ post)).second) w) in
        omega arith
    go false q =
        let m = leb-false x y q in
        let w : x ≡ y + (x - y) = omega arith in
        let z = grown a b y (x - y) post (omega arith) l (sym e ∙ ap (λ (n : ℕ). (sums_from (a % 65536) (b % 65536) (n ∷ post)).second) w) in
        omega arith
second-seen a b x y (p ∷ pre) post h k l e =
    second-seen (a + p) (b + (a + p)) x y pre post h k l
    (sym (ap (λ (s : Sums). s.second) (next a b p (pre ++ (x ∷ post)))) ∙ (e ∙ ap (λ (s : Sums). s.second) (next a b p (pre ++ (y ∷ post)))))

-- ---- two bytes of the array

-- the sums of what comes first, and then of the rest
appended : (a b : ℕ) (xs ys : List ℕ) → sums_from a b (xs ++ ys) ≡ sums_from (sums_from a b xs).first (sums_from a b xs).second ys
unfolding sums_from
appended a b [] ys = refl
appended a b (x ∷ xs) ys = appended ((a + x) % 65536) ((b + (a + x) % 65536) % 65536) xs ys

-- a byte that grew by d, and a later one that became v
paired : (a b x d y v : ℕ) (mid post : List ℕ) → d ≤ 255 → y < 256 → v < 256 → length mid ≤ 503
    → sums_from (a % 65536) (b % 65536) (x ∷ (mid ++ (y ∷ post))) ≡ sums_from (a % 65536) (b % 65536) ((x + d) ∷ (mid ++ (v ∷ post))) → d ≡ 0
unfolding sums_from
paired a b x d y v mid post h k l m e =
    let f = (sums_from ((a + x) % 65536) ((b + (a + x)) % 65536) mid).first in
    let g = (sums_from ((a + x) % 65536) ((b + (a + x)) % 65536) mid).second in
    let u : a + (x + d) ≡ a + x + d = omega arith in
    let w : b + (a + (x + d)) ≡ b + (a + x) + d = omega arith in
    let f' : (sums_from ((a + x + d) % 65536) ((b + (a + x) + d) % 65536) mid).first ≡ (f + d) % 65536 = moved-first (a + x) ((b + (a + x)) % 65536) ((b + (a + x) + d) % 65536) d mid in
    let g' : (sums_from ((a + x + d) % 65536) ((b + (a + x) + d) % 65536) mid).second ≡ (g + (d + d * length mid)) % 65536 = moved-second (a + x) (b + (a + x)) d d mid in
    let one : sums_from (a % 65536) (b % 65536) (x ∷ (mid ++ (y ∷ post))) ≡ sums_from f g (y ∷ post) = next a b x (mid ++ (y ∷ post)) ∙ appended ((a + x) % 65536) ((b + (a + x)) % 65536) mid (y ∷ post) in
    let two : sums_from (a % 65536) (b % 65536) ((x + d) ∷ (mid ++ (v ∷ post))) ≡ sums_from ((f + d) % 65536) ((g + (d + d * length mid)) % 65536) (v ∷ post) =
    next a b (x + d) (mid ++ (v ∷ post)) ∙ (ap₂ (λ (i j : ℕ). sums_from (i % 65536) (j % 65536) (mid ++ (v ∷ post))) u w ∙ (appended ((a + x + d) % 65536) ((b + (a + x) + d) % 65536) mid (v ∷ post) ∙ ap₂ (λ (i j : ℕ). sums_from i j (v ∷ post)) f' g')) in
    finish f g (sym one ∙ (e ∙ two))
  where
    -- from where the later byte comes, with the sums of the first list
    finish : (f g : ℕ) → sums_from f g (y ∷ post) ≡ sums_from ((f + d) % 65536) ((g + (d + d * length mid)) % 65536) (v ∷ post) → d ≡ 0
    finish f g q =
        let s = (f + y) % 65536 in
        let t : s ≡ ((f + d) % 65536 + v) % 65536 = starts s ((g + s) % 65536) (((f + d) % 65536 + v) % 65536) (((g + (d + d * length mid)) % 65536 + ((f + d) % 65536 + v) % 65536) % 65536) post (omega arith) (omega arith) (ap (λ (r : Sums). r.first) q) in
        let p : (f + y) % 65536 ≡ (f + y + 0) % 65536 = omega arith in
        let r : ((g + (d + d * length mid)) % 65536 + s) % 65536 ≡ (g + s + (d + d * length mid)) % 65536 = apart g (d + d * length mid) s in
        let o : (sums_from s ((g + s) % 65536) post).second ≡ (sums_from ((f + y + 0) % 65536) ((g + s + (d + d * length mid)) % 65536) post).second =
        ap (λ (i : Sums). i.second) q ∙ (ap (λ (i : ℕ). (sums_from i (((g + (d + d * length mid)) % 65536 + i) % 65536) post).second) (sym t) ∙ ap₂ (λ (i j : ℕ). (sums_from i j post).second) p r) in
        let c : d + d * length mid + 0 * length post ≡ d + d * length mid = rw zero-mul (add-zero (d + d * length mid)) in
        same_second d (length mid) _ h m (o ∙ (moved-second (f + y) (g + s) 0 (d + d * length mid) post ∙ ap (λ (i : ℕ). ((sums_from ((f + y) % 65536) ((g + s) % 65536) post).second + i) % 65536) c))
      where
        apart : (i j n : ℕ) → ((i + j) % 65536 + n) % 65536 ≡ (i + n + j) % 65536
        apart i j n = omega arith

-- wherever the first of the two stands
both-grown : (a b x y u v : ℕ) (pre mid post : List ℕ) → x < 256 → y < 256 → u < 256 → v < 256 → length mid ≤ 503
    → sums_from (a % 65536) (b % 65536) (pre ++ (x ∷ (mid ++ (y ∷ post)))) ≡ sums_from (a % 65536) (b % 65536) (pre ++ (u ∷ (mid ++ (v ∷ post)))) → x ≡ u
both-grown a b x y u v [] mid post h i j k l e = go (leb x u) refl
  where
    go : (t : Bool) → leb x u ≡ t → x ≡ u
    go true q =
        let m = leb-true x u q in
        let w : u ≡ x + (u - x) = omega arith in
        let z = paired a b x (u - x) y v mid post (omega arith) i k l (e ∙ ap (λ (n : ℕ). sums_from (a % 65536) (b % 65536) (n ∷ (mid ++ (v ∷ post)))) w) in
        omega arith
    go false q =
        let m = leb-false x u q in
        let w : x ≡ u + (x - u) = omega arith in
        let z = paired a b u (x - u) v y mid post (omega arith) k i l (sym e ∙ ap (λ (n : ℕ). sums_from (a % 65536) (b % 65536) (n ∷ (mid ++ (y ∷ post)))) w) in
        omega arith
both-grown a b x y u v (p ∷ pre) mid post h i j k l e =
    both-grown (a + p) (b + (a + p)) x y u v pre mid post h i j k l (sym (next a b p (pre ++ (x ∷ (mid ++ (y ∷ post))))) ∙ (e ∙ next a b p (pre ++ (u ∷ (mid ++ (v ∷ post))))))

-- ---- two bytes of a block

-- two pairs of sums that are the same
same-sums : {s t : Sums} → s.first ≡ t.first → s.second ≡ t.second → s ≡ t
same-sums p q = ap₂ (λ (a b : ℕ). record { first = a; second = b }) p q

-- the lowest of the digits
low : (x m u n : ℕ) → x < 256 → u < 256 → x + 256 * m ≡ u + 256 * n → x ≡ u
low x m u n h k e =
    let a : (x + 256 * m) % 256 ≡ x = omega arith in
    let b : (u + 256 * n) % 256 ≡ u = omega arith in
    sym a ∙ (ap (λ (i : ℕ). i % 256) e ∙ b)

module _ (place x y u v : ℕ) (h : x < 256) (i : y < 256) (j : u < 256) (k : v < 256) where
  -- where one is the same, so is the other
  first-same : (pre mid post : List ℕ) → Good place (pre ++ (x ∷ (mid ++ (y ∷ post)))) → Good place (pre ++ (u ∷ (mid ++ (v ∷ post)))) → x ≡ u → (x ≡ u) × (y ≡ v)
  first-same pre mid post s t e =
      let s' : Good place ((pre ++ (x ∷ mid)) ++ (y ∷ post)) = rw (append_assoc pre (x ∷ mid) (y ∷ post)) s in
      let t' : Good place ((pre ++ (x ∷ mid)) ++ (v ∷ post)) = rw (append_assoc pre (x ∷ mid) (v ∷ post), e) t in
      (e, same_byte place y v (pre ++ (x ∷ mid)) post i k s' t')

  second-same : (pre mid post : List ℕ) → Good place (pre ++ (x ∷ (mid ++ (y ∷ post)))) → Good place (pre ++ (u ∷ (mid ++ (v ∷ post)))) → y ≡ v → (x ≡ u) × (y ≡ v)
  second-same pre mid post s t e =
      let t' : Good place (pre ++ (u ∷ (mid ++ (y ∷ post)))) = rw e t in
      (same_byte place x u pre (mid ++ (y ∷ post)) h j s t', e)

  -- two bytes of the head, one of each, or two of the array
  same-two : (pre mid post : List ℕ) → length pre + length mid + length post ≤ 510 → Good place (pre ++ (x ∷ (mid ++ (y ∷ post)))) → Good place (pre ++ (u ∷ (mid ++ (v ∷ post)))) → (x ≡ u) × (y ≡ v)
  unfolding sums_of
  same-two [] [] post l s t = first-same [] [] post s t (let e = s.number in let f = t.number in low x (y) u (v) h j (omega arith))
  same-two [] (a ∷ []) post l s t = first-same [] (a ∷ []) post s t (let e = s.number in let f = t.number in low x (256 * y) u (256 * v) h j (omega arith))
  same-two [] (a ∷ b ∷ []) post l s t = first-same [] (a ∷ b ∷ []) post s t (let e = s.number in let f = t.number in low x (65536 * y) u (65536 * v) h j (omega arith))
  same-two [] (a ∷ b ∷ c ∷ mid) post l s t = first-same [] (a ∷ b ∷ c ∷ mid) post s t (let e = s.number in let f = t.number in omega arith)
  same-two (a ∷ []) [] post l s t = first-same (a ∷ []) [] post s t (let e = s.number in let f = t.number in low x (y) u (v) h j (omega arith))
  same-two (a ∷ []) (b ∷ []) post l s t = first-same (a ∷ []) (b ∷ []) post s t (let e = s.number in let f = t.number in low x (256 * y) u (256 * v) h j (omega arith))
  same-two (a ∷ []) (b ∷ c ∷ mid) post l s t = first-same (a ∷ []) (b ∷ c ∷ mid) post s t (let e = s.number in let f = t.number in omega arith)
  same-two (a ∷ b ∷ []) [] post l s t = first-same (a ∷ b ∷ []) [] post s t (let e = s.number in let f = t.number in low x (y) u (v) h j (omega arith))
  same-two (a ∷ b ∷ []) (c ∷ mid) post l s t = first-same (a ∷ b ∷ []) (c ∷ mid) post s t (let e = s.number in let f = t.number in omega arith)
  same-two (a ∷ b ∷ c ∷ []) mid post l s t = first-same (a ∷ b ∷ c ∷ []) mid post s t (let e = s.number in let f = t.number in omega arith)
  same-two (a ∷ b ∷ c ∷ d ∷ []) [] post l s t = first-same (a ∷ b ∷ c ∷ d ∷ []) [] post s t (let e = s.first in let f = t.first in low x (y) u (v) h j (omega arith))
  same-two (a ∷ b ∷ c ∷ d ∷ []) (m ∷ []) post l s t = first-same (a ∷ b ∷ c ∷ d ∷ []) (m ∷ []) post s t (let e = s.first in let f = t.first in omega arith)
  same-two (a ∷ b ∷ c ∷ d ∷ []) (m ∷ n ∷ []) post l s t = first-same (a ∷ b ∷ c ∷ d ∷ []) (m ∷ n ∷ []) post s t (let e = s.first in let f = t.first in omega arith)
  same-two (a ∷ b ∷ c ∷ d ∷ []) (m ∷ n ∷ o ∷ mid) post l s t =
      second-same (a ∷ b ∷ c ∷ d ∷ []) (m ∷ n ∷ o ∷ mid) post s t (second-seen place 0 y v mid post i k (omega arith) (sym s.second ∙ t.second))
  same-two (a ∷ b ∷ c ∷ d ∷ p ∷ []) [] post l s t = first-same (a ∷ b ∷ c ∷ d ∷ p ∷ []) [] post s t (let e = s.first in let f = t.first in omega arith)
  same-two (a ∷ b ∷ c ∷ d ∷ p ∷ []) (m ∷ []) post l s t = first-same (a ∷ b ∷ c ∷ d ∷ p ∷ []) (m ∷ []) post s t (let e = s.first in let f = t.first in omega arith)
  same-two (a ∷ b ∷ c ∷ d ∷ p ∷ []) (m ∷ n ∷ mid) post l s t =
      second-same (a ∷ b ∷ c ∷ d ∷ p ∷ []) (m ∷ n ∷ mid) post s t (second-seen place 0 y v mid post i k (omega arith) (sym s.second ∙ t.second))
  same-two (a ∷ b ∷ c ∷ d ∷ p ∷ q ∷ []) [] post l s t = first-same (a ∷ b ∷ c ∷ d ∷ p ∷ q ∷ []) [] post s t (let e = s.second in let f = t.second in low x (y) u (v) h j (omega arith))
  same-two (a ∷ b ∷ c ∷ d ∷ p ∷ q ∷ []) (m ∷ mid) post l s t = second-same (a ∷ b ∷ c ∷ d ∷ p ∷ q ∷ []) (m ∷ mid) post s t (changed (place % 65536) 0 y v mid post i k (sym s.first ∙ t.first))
  same-two (a ∷ b ∷ c ∷ d ∷ p ∷ q ∷ r ∷ []) mid post l s t = second-same (a ∷ b ∷ c ∷ d ∷ p ∷ q ∷ r ∷ []) mid post s t (changed (place % 65536) 0 y v mid post i k (sym s.first ∙ t.first))
  same-two (a ∷ b ∷ c ∷ d ∷ p ∷ q ∷ r ∷ w ∷ pre) mid post l s t =
      first-same (a ∷ b ∷ c ∷ d ∷ p ∷ q ∷ r ∷ w ∷ pre) mid post s t
      (both-grown place 0 x y u v pre mid post h i j k (omega arith) (same-sums (sym s.first ∙ t.first) (sym s.second ∙ t.second)))

  -- a change of two bytes is seen
  pub two-seen : (pre mid post : List ℕ) → length pre + length mid + length post ≤ 510 → ((x ≡ u) × (y ≡ v) → ⊥) → reason_of place (pre ++ (x ∷ (mid ++ (y ∷ post)))) ≡ 0 → reason_of place (pre ++ (u ∷ (mid ++ (v ∷ post)))) ≡ 0 → ⊥
  two-seen pre mid post l other s t = other (same-two pre mid post l (good-is place (pre ++ (x ∷ (mid ++ (y ∷ post)))) s) (good-is place (pre ++ (u ∷ (mid ++ (v ∷ post)))) t))
