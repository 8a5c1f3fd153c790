-- No bit is missing exactly if every byte that the data reached ends as its slot; and counted after the program, the same bits are missing.
-- Assumes nothing.
use mathlib.Core.Path.{◌≡◌, refl, sym, ap, ap₂, ◌∙◌}
use mathlib.Core.Bool.{Bool, true, false, cond}
use mathlib.Core.List.{List, [], ◌∷◌}
use Prim.Native.Nat.{ℕ, zero, suc, ◌+◌, ◌-◌, ◌*◌, ◌/◌, ◌%◌, ◌^◌, ◌≤◌, ◌<◌, min}
use native.Mathlib.Nat.{pow-suc, zero-add}
use native.Mathlib.Omega.{arith}
use borrow.Author.Tests.{eq-eqb}
use lib.Dec.{eqb, lit<}
use lib.ListN.{length, get_or, drop, length-take, length-drop}
use lib.Arith.{lt-one}
use lib.Bits.{bit_and, and_step, and_shr, and_zero_l, and_zero_r, and_le_l}
use lib.Count.{ones, ones_step}
use Rattle.slices.specs.Changed.{map_at, sum_at}
use Rattle.slices.proofs.Sums.{sum-zero, zeros-sum, sum-places}
use Rattle.slices.proofs.Maps.{length-map, get_or-map}
use Rattle.slices.proofs.Ands.{and-odd}
use Rattle.slices.proofs.Choices.{cond_ind}
use Rattle.memory.specs.Memory.{blank, filled, reached, landed, programmed}
use Rattle.memory.specs.Missing.{unmet, missing_at, missing, page_of}
use Rattle.memory.proofs.Laws.{programmed-byte}
use Rattle.memory.proofs.Unmet.{page-byte}

-- the bits that x of k + 1 bits has not: all but the lowest, and the lowest
halved : (k x : ℕ) → x < 2 ^ suc k → (2 ^ suc k - 1 - x) / 2 ≡ 2 ^ k - 1 - x / 2
halved k x h = let p : 2 ^ suc k ≡ 2 ^ k * 2 = pow-suc 2 k in omega arith

lowered : (k x : ℕ) → x < 2 ^ suc k → (2 ^ suc k - 1 - x) % 2 ≡ 1 - x % 2
lowered k x h = let p : 2 ^ suc k ≡ 2 ^ k * 2 = pow-suc 2 k in omega arith

-- nothing that is 1 in s is 0 in x, which both have k bits
abbrev Met : ℕ → ℕ → ℕ → Type 0
Met k s x = (ones (bit_and s (2 ^ k - 1 - x)) ≡ 0 → bit_and x s ≡ s) × (bit_and x s ≡ s → ones (bit_and s (2 ^ k - 1 - x)) ≡ 0)

-- of one bit each
low-met : (a b : ℕ) → a < 2 → min a (1 - b) ≡ 0 → min b a ≡ a
low-met a b h e = omega arith

met-low : (a b : ℕ) → a < 2 → b < 2 → min b a ≡ a → min a (1 - b) ≡ 0
met-low a b h l e = omega arith

-- exactly if x and s is s
met : (k s x : ℕ) → s < 2 ^ k → x < 2 ^ k → Met k s x
unfolding ones
met zero s x h l = let z : s ≡ 0 = lt-one h in rw (z, and_zero_l (2 ^ 0 - 1 - x), and_zero_r x) (λ e. refl, λ e. refl)
met (suc k) s x h l =
    let p : 2 ^ suc k ≡ 2 ^ k * 2 = pow-suc 2 k in
    let c : ℕ = 2 ^ suc k - 1 - x in
    let half : c / 2 ≡ 2 ^ k - 1 - x / 2 = halved k x l in
    let low : c % 2 ≡ 1 - x % 2 = lowered k x l in
    let e : ones (bit_and s c) ≡ min (s % 2) (1 - x % 2) + ones (bit_and (s / 2) (2 ^ k - 1 - x / 2)) =
    ones_step (bit_and s c) ∙ ap₂ (λ (a b : ℕ). a + ones b) (and-odd s c ∙ ap (min (s % 2)) low) (and_shr s c 1 ∙ ap (bit_and (s / 2)) half) in
    let ih = met k (s / 2) (x / 2) (omega arith) (omega arith) in
    let lows : s % 2 < 2 = omega arith in
    let lowx : x % 2 < 2 = omega arith in (
      λ z. let n = none _ _ (sym e ∙ z) in and_step x s ∙ (ap₂ (λ (a b : ℕ). a * 2 + b) (ih.0 n.1) (low-met (s % 2) (x % 2) lows n.0) ∙ whole s),
      λ z.
          let t : bit_and (x / 2) (s / 2) ≡ s / 2 = sym (and_shr x s 1) ∙ ap (λ (n : ℕ). n / 2) z in
          let u : min (x % 2) (s % 2) ≡ s % 2 = sym (and-odd x s) ∙ ap (λ (n : ℕ). n % 2) z in
          e ∙ ap₂ (λ (a b : ℕ). a + b) (met-low (s % 2) (x % 2) lows lowx u) (ih.1 t),
    )
  where
    none : (a b : ℕ) → a + b ≡ 0 → (a ≡ 0) × (b ≡ 0)
    none a b e = (omega arith, omega arith)

    whole : (n : ℕ) → n / 2 * 2 + n % 2 ≡ n
    whole n = omega arith

-- what s wants of x, it wants of x and s: it was 0 before and is 0 after
again : (k s x : ℕ) → s < 2 ^ k → x < 2 ^ k → bit_and s (2 ^ k - 1 - bit_and x s) ≡ bit_and s (2 ^ k - 1 - x)
again zero s x h l = let z : s ≡ 0 = lt-one h in rw (z, and_zero_l (2 ^ 0 - 1 - bit_and x 0), and_zero_l (2 ^ 0 - 1 - x))
again (suc k) s x h l =
    let p : 2 ^ suc k ≡ 2 ^ k * 2 = pow-suc 2 k in
    let y = bit_and x s in
    let m : y ≤ x = and_le_l x s in
    let c : ℕ = 2 ^ suc k - 1 - x in
    let d : ℕ = 2 ^ suc k - 1 - y in
    let half : c / 2 ≡ 2 ^ k - 1 - x / 2 = halved k x l in
    let low : c % 2 ≡ 1 - x % 2 = lowered k x l in
    let half' : d / 2 ≡ 2 ^ k - 1 - bit_and (x / 2) (s / 2) = rw (← and_shr x s 1) (halved k y (omega arith)) in
    let low' : d % 2 ≡ 1 - min (x % 2) (s % 2) = rw (← and-odd x s) (lowered k y (omega arith)) in
    and_step s d
    ∙ ap₂ (λ (a b : ℕ). bit_and (s / 2) a * 2 + min (s % 2) b) half' low'
    ∙ ap₂ (λ (a b : ℕ). a * 2 + b) (again k (s / 2) (x / 2) (omega arith) (omega arith)) (one (s % 2) (x % 2) (omega arith) (omega arith))
    ∙ sym (and_step s c ∙ ap₂ (λ (a b : ℕ). bit_and (s / 2) a * 2 + min (s % 2) b) half low)
  where
    one : (a b : ℕ) → a < 2 → b < 2 → min a (1 - min b a) ≡ min a (1 - b)
    one a b h l = omega arith

-- a byte and its slot
unmet-again : (s x : ℕ) → s < 256 → x < 256 → unmet s (bit_and x s) ≡ unmet s x
unmet-again s x h l = ap ones (again 8 s x h l)

-- every byte of a list is below 256
abbrev AllBytes : List ℕ → Type 0
AllBytes xs = (i : ℕ) → i < length xs → get_or xs i 0 < 256

landed-byte : (at : ℕ) (s : List ℕ) (j held : ℕ) → held < 256 → AllBytes s → landed at s j held < 256
unfolding landed
landed-byte at [] j held h b = h
landed-byte at (x ∷ s) j held h b =
    landed-byte (at + 1) s j (cond (eqb (at % 256) j) x held) (cond_ind (λ (n : ℕ). n < 256) (eqb (at % 256) j) (b 0 (omega arith)) h) (λ i l. b (suc i) (omega arith))

module _ (at : ℕ) (s xs : List ℕ) (data-bytes : AllBytes s) (array-bytes : AllBytes xs) where
  -- every byte of the array that the data reached ends as its slot
  abbrev pub AllMet : Type 0
  AllMet = (i : ℕ) → i < length xs → i / 256 ≡ at / 256 → reached at s (i % 256) ≡ true → programmed at (filled blank at s) i (get_or xs i 0) ≡ landed at s (i % 256) 255

  -- byte i ends as its slot exactly if none of its bits is missing
  one-met : (i : ℕ) → i < length xs → i / 256 ≡ at / 256 → Met 8 (landed at s (i % 256) 255) (get_or xs i 0)
  one-met i l e = met 8 (landed at s (i % 256) 255) (get_or xs i 0) (landed-byte at s (i % 256) 255 (lit< tt) data-bytes) (array-bytes i l)

  ends_as : (i : ℕ) → i < length xs → i / 256 ≡ at / 256 → reached at s (i % 256) ≡ true → programmed at (filled blank at s) i (get_or xs i 0) ≡ bit_and (get_or xs i 0) (landed at s (i % 256) 255)
  ends_as i l e r = programmed-byte at s i (get_or xs i 0) (array-bytes i l) ∙ rw (eq-eqb (i / 256) (at / 256) e, r)

  -- a place of the page
  place : (k : ℕ) → k < length (page_of at xs) → (at / 256 * 256 + k < length xs) × (k < 256)
  unfolding page_of
  place k l =
      let e = length-take 256 (drop (at / 256 * 256) xs) in
      let d = length-drop (at / 256 * 256) xs in
      (omega arith, omega arith)

  in-page : (i : ℕ) → i < length xs → i / 256 ≡ at / 256 → i % 256 < length (page_of at xs)
  unfolding page_of
  in-page i l e =
      let t = length-take 256 (drop (at / 256 * 256) xs) in
      let d = length-drop (at / 256 * 256) xs in
      omega arith

  -- no bit is missing exactly if every byte that the data reached ends as its slot
  pub none-missing : (missing at s (page_of at xs) ≡ 0 → AllMet) × (AllMet → missing at s (page_of at xs) ≡ 0)
  unfolding missing missing_at sum_at
  none-missing = (
    λ z i l e r.
        let k = i % 256 in
        let h : k < length (page_of at xs) = in-page i l e in
        let b : get_or (page_of at xs) k 0 ≡ get_or xs i 0 = page-byte at xs k (omega arith) ∙ ap (λ (n : ℕ). get_or xs n 0) (omega arith) in
        let u : unmet (landed at s k 255) (get_or xs i 0) ≡ 0 = rw (zero-add, r, b) at (sum-zero 0 (missing_at at s) (page_of at xs) z k h) in
        ends_as i l e r ∙ (one-met i l e).0 u,
    λ all. zeros-sum 0 (missing_at at s) (page_of at xs) (λ k h. rw zero-add (slot-none all k h)),
  )
    where
      slot-none : AllMet → (k : ℕ) → k < length (page_of at xs) → missing_at at s k (get_or (page_of at xs) k 0) ≡ 0
      slot-none all k h = go (reached at s k) refl
        where
          i : ℕ
          i = at / 256 * 256 + k

          p : (i < length xs) × (k < 256)
          p = place k h

          go : (t : Bool) → reached at s k ≡ t → cond t (unmet (landed at s k 255) (get_or (page_of at xs) k 0)) 0 ≡ 0
          go true r =
              let l = p.1 in
              let e : i / 256 ≡ at / 256 = omega arith in
              let m : i % 256 ≡ k = omega arith in
              let d : bit_and (get_or xs i 0) (landed at s (i % 256) 255) ≡ landed at s (i % 256) 255 = sym (ends_as i p.0 e (rw m r)) ∙ all i p.0 e (rw m r) in
              ap (unmet (landed at s k 255)) (page-byte at xs k l) ∙ (ap (λ (n : ℕ). unmet (landed at s n 255) (get_or xs i 0)) (sym m) ∙ (one-met i p.0 e).1 d)
          go false r = refl

  -- the array after the program
  abbrev pub after : List ℕ
  after = map_at (programmed at (filled blank at s)) xs

  after-length : length (page_of at after) ≡ length (page_of at xs)
  unfolding page_of
  after-length =
      let d = at / 256 * 256 in
      length-take 256 (drop d after) ∙ rw (length-drop d after, length-map (programmed at (filled blank at s)) xs, ← length-drop d xs) (sym (length-take 256 (drop d xs)))

  -- counted on it, the same bits are missing: it does not matter whether the page is counted before it is programmed or after
  pub missing-again : missing at s (page_of at after) ≡ missing at s (page_of at xs)
  unfolding missing missing_at sum_at
  missing-again = sum-places 0 (missing_at at s) (page_of at after) (page_of at xs) after-length (λ k h. rw zero-add (slot-again k (rw after-length at h)))
    where
      slot-again : (k : ℕ) → k < length (page_of at xs) → missing_at at s k (get_or (page_of at after) k 0) ≡ missing_at at s k (get_or (page_of at xs) k 0)
      slot-again k h = go (reached at s k) refl
        where
          i : ℕ
          i = at / 256 * 256 + k

          p : (i < length xs) × (k < 256)
          p = place k h

          go : (t : Bool) → reached at s k ≡ t
              → cond t (unmet (landed at s k 255) (get_or (page_of at after) k 0)) 0 ≡ cond t (unmet (landed at s k 255) (get_or (page_of at xs) k 0)) 0
          go true r =
              let l = p.1 in
              let e : i / 256 ≡ at / 256 = omega arith in
              let m : i % 256 ≡ k = omega arith in
              let x = get_or xs i 0 in
              let b : get_or (page_of at after) k 0 ≡ bit_and x (landed at s k 255) =
              page-byte at after k l ∙ get_or-map (programmed at (filled blank at s)) xs i 0 p.0 ∙ ends_as i p.0 e (rw m r) ∙ ap (λ (n : ℕ). bit_and x (landed at s n 255)) m in
              ap (unmet (landed at s k 255)) b ∙ unmet-again (landed at s k 255) x (landed-byte at s k 255 (lit< tt) data-bytes) (array-bytes i p.0) ∙ ap (unmet (landed at s k 255)) (sym (page-byte at xs k l))
          go false r = refl
