-- The numbers of one transaction: four places raised are what it gives to each of the 353.
-- Assumes nothing.
use mathlib.Core.Path.{◌≡◌, refl, sym, ◌∙◌}
use mathlib.Core.Bool.{Bool, true, false, cond, ◌&&◌}
use mathlib.Core.List.{List, [], ◌∷◌}
use Prim.Native.Nat.{ℕ, ◌+◌, ◌-◌, ◌*◌, ◌%◌, ◌≤◌, ◌<◌}
use native.Mathlib.Nat.{mod-lt}
use native.Mathlib.Omega.{arith}
use borrow.Author.Tests.{eqb-true, eqb-false, eq-eqb, ne_eqb, ltb-true, ltb-false}
use lib.Dec.{eqb, ltb}
use lib.ListN.{length, get_or}
use Rattle.parts.specs.declared.Figures.{Figures}
use Rattle.parts.specs.Parts.{figures_of}
use Rattle.parts.proofs.Laws.{sane, sector-within}
use Rattle.chip.specs.Table.{address_of, sector_in}
use Rattle.report.specs.Totals.{Dealt, code_of, number_of, was_executed, was_program, total_of, totals, largest}
use Rattle.report.specs.Found.{Spare, Raised, Grown}

-- one number stored

-- room for what is raised, and what is left of it afterwards
pub spare-after : {counts is : List ℕ} {k n m : ℕ} → Spare counts m → Raised k n counts is → n ≤ m → Spare is (m - n)
spare-after {counts} {is} {k} {n} {m} s r h = record { long = r.long ∙ s.long; each = λ i. go i (eqb i k) refl }
  where
    go : (i : ℕ) (b : Bool) → eqb i k ≡ b → get_or is i 0 + (m - n) ≤ largest
    go i true e = let p = rw e at (r.each i) in omega (arith, p, s.each i)
    go i false e = let p = rw e at (r.each i) in omega (arith, p, s.each i)

pub spare-less : {counts : List ℕ} {m n : ℕ} → Spare counts m → n ≤ m → Spare counts n
spare-less s h = record { long = s.long; each = λ i. omega (arith, s.each i) }

pub spare-one : {counts : List ℕ} {m : ℕ} → Spare counts m → 1 ≤ m → (k : ℕ) → get_or counts k 0 + 1 ≤ largest
spare-one s h k = omega (arith, s.each k)

-- ---- one transaction

eqb_swap : (a b : ℕ) → eqb a b ≡ eqb b a
eqb_swap a b = go (eqb b a) refl
  where
    go : (t : Bool) → eqb b a ≡ t → eqb a b ≡ t
    go true e = eq-eqb a b (sym (eqb-true b a e))
    go false e = ne_eqb a b (λ z. eqb-false b a e (sym z))

eqb-shift : (base i k : ℕ) → base ≤ i → eqb i (base + k) ≡ eqb k (i - base)
eqb-shift base i k h = go (eqb k (i - base)) refl
  where
    go : (t : Bool) → eqb k (i - base) ≡ t → eqb i (base + k) ≡ t
    go true e = let z = eqb-true k (i - base) e in eq-eqb i (base + k) (omega arith)
    go false e = let z = eqb-false k (i - base) e in ne_eqb i (base + k) (λ w. z (omega arith))

cond-and : (a b : Bool) → ◌≡◌ {A = ℕ} (cond (a && b) 1 0) (cond a (cond b 1 0) 0)
cond-and true b = refl
cond-and false b = refl

pub cond-none : (a : Bool) → ◌≡◌ {A = ℕ} (cond a 0 0) 0
cond-none true = refl
cond-none false = refl

module _ (f : Figures) (t : Dealt) (n : number_of t < 32) (c : code_of t < 256) where
  abbrev placed : ℕ → ℕ → ℕ → ℕ
  placed k m i = cond (eqb i k) m 0

  placed-none : (k m i : ℕ) → (i ≡ k → ⊥) → placed k m i ≡ 0
  placed-none k m i h = rw (ne_eqb i k h)

  -- what it gives to number i: at four places
  pub share : (i : ℕ)
      → total_of f (t ∷ []) i
      ≡ placed (256 + number_of t) 1 i + placed 288 t.answer.count i + cond (was_executed t) (placed (code_of t) 1 i) 0 + cond (was_program t) (placed (289 + sector_in f t.sent) 1 i) 0
  share i = go (ltb i 256) refl (ltb i 288) refl (ltb i 289) refl
    where
      go : (x : Bool) → ltb i 256 ≡ x → (y : Bool) → ltb i 288 ≡ y → (z : Bool) → ltb i 289 ≡ z
          → total_of f (t ∷ []) i
          ≡ placed (256 + number_of t) 1 i + placed 288 t.answer.count i + cond (was_executed t) (placed (code_of t) 1 i) 0 + cond (was_program t) (placed (289 + sector_in f t.sent) 1 i) 0
      go true e y _ z _ =
          let l = ltb-true i 256 e in
          rw (
            e,
            placed-none (256 + number_of t) 1 i (λ w. omega arith),
            placed-none 288 t.answer.count i (λ w. omega arith),
            placed-none (289 + sector_in f t.sent) 1 i (λ w. omega arith),
            cond-none (was_program t),
            eqb_swap i (code_of t),
            cond-and (was_executed t) (eqb (code_of t) i),
          )
          (omega arith)
      go false e true g z _ =
          let l = ltb-false i 256 e in
          let k = ltb-true i 288 g in
          rw (
            e,
            g,
            eqb-shift 256 i (number_of t) l,
            placed-none 288 t.answer.count i (λ w. omega arith),
            placed-none (code_of t) 1 i (λ w. omega arith),
            placed-none (289 + sector_in f t.sent) 1 i (λ w. omega arith),
            cond-none (was_program t),
            cond-none (was_executed t),
          )
          (omega arith)
      go false e false g true h =
          let l = ltb-false i 288 g in
          let k = ltb-true i 289 h in
          let w : i ≡ 288 = omega arith in
          rw (
            e,
            g,
            h,
            placed-none (256 + number_of t) 1 i (λ v. omega arith),
            eq-eqb i 288 w,
            placed-none (code_of t) 1 i (λ v. omega arith),
            placed-none (289 + sector_in f t.sent) 1 i (λ v. omega arith),
            cond-none (was_program t),
            cond-none (was_executed t),
          )
          (omega arith)
      go false e false g false h =
          let l = ltb-false i 289 h in
          rw (
            e,
            g,
            h,
            placed-none (256 + number_of t) 1 i (λ v. omega arith),
            placed-none 288 t.answer.count i (λ v. omega arith),
            placed-none (code_of t) 1 i (λ v. omega arith),
            eqb-shift 289 i (sector_in f t.sent) l,
            cond-none (was_executed t),
            cond-and (was_program t) (eqb (sector_in f t.sent) (i - 289)),
          )
          (omega arith)

  -- the numbers once these places are raised
  module _ {was a b : List ℕ} (long : length was ≡ totals) (p : Raised (256 + number_of t) 1 was a) (q : Raised 288 t.answer.count a b) where
    code-none : (i : ℕ) → was_executed t ≡ false → cond (was_executed t) (placed (code_of t) 1 i) 0 ≡ 0
    code-none i e = rw e

    code_one : (i : ℕ) → was_executed t ≡ true → cond (was_executed t) (placed (code_of t) 1 i) 0 ≡ placed (code_of t) 1 i
    code_one i e = rw e

    sector-none : (i : ℕ) → was_program t ≡ false → cond (was_program t) (placed (289 + sector_in f t.sent) 1 i) 0 ≡ 0
    sector-none i e = rw e

    sector-one : (i : ℕ) → was_program t ≡ true → cond (was_program t) (placed (289 + sector_in f t.sent) 1 i) 0 ≡ placed (289 + sector_in f t.sent) 1 i
    sector-one i e = rw e

    pub grown-ignored : was_executed t ≡ false → Grown f (t ∷ []) was b
    grown-ignored e =
        let g : was_program t ≡ false = rw e in
        record { long = q.long ∙ (p.long ∙ long); each = λ i h. omega (arith, p.each i, q.each i, share i, code-none i e, sector-none i g) }

    module _ (e : was_executed t ≡ true) {d : List ℕ} (r : Raised (code_of t) 1 b d) where
      pub grown-program : eqb (code_of t) 2 ≡ true → {x : List ℕ} → Raised (289 + sector_in f t.sent) 1 d x → Grown f (t ∷ []) was x
      grown-program g {x} u =
          let k : was_program t ≡ true = rw (e, g) in
          record { long = u.long ∙ (r.long ∙ (q.long ∙ (p.long ∙ long))); each = λ i h. omega (arith, p.each i, q.each i, r.each i, u.each i, share i, code_one i e, sector-one i k) }

-- a part has at most 64 sectors
pub sector-few : (p : ℕ) (sent : List ℕ) → sector_in (figures_of p) sent < 64
unfolding sector_in address_of
sector-few p sent =
    let s = sane p in
    let k = sector-within s ((get_or sent 1 0 * 65536 + get_or sent 2 0 * 256 + get_or sent 3 0) % (figures_of p).bytes) (mod-lt _ s.some) in
    omega (arith, k, s.sectors-few)
