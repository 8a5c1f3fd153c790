-- Laws of the lines that are read.
-- Assumes nothing.
use mathlib.Core.Path.{◌≡◌, refl, sym, ap, ◌∙◌}
use mathlib.Core.Bool.{Bool, true, false, cond, ◌&&◌, ◌||◌, and_assoc, and-false}
use mathlib.Core.List.{List, [], ◌∷◌, ◌++◌}
use Prim.Native.Nat.{ℕ, zero, suc, ◌+◌, ◌-◌, ◌*◌, ◌/◌, ◌%◌, ◌<◌, ◌≤◌}
use native.Mathlib.Numerals.{add-one}
use native.Mathlib.Omega.{arith}
use borrow.Author.Tests.{ltb-true, ltb-false, eqb-true, eqb-false, le-leb, lt-leb, lt-ltb, le-ltb}
use lib.Dec.{eqb, leb, ltb}
use lib.ListN.{length, get_or, take, drop, drop_of_length-le, length-drop, length-append, get_or-append}
use lib.Seq.{drop-cons, get_or-take, get_or-drop, get_or-append-add, length-take-le}
use Rattle.std.proofs.Common.{Some, None, not}
use Rattle.slices.specs.Changed.{map_at}
use Rattle.slices.proofs.Choices.{both}
use Rattle.slices.proofs.Maps.{map_is, length-map, get_or-map}
use Rattle.script.specs.Lines.{digit_of, all_below, number_from, number_of, pairs, is_hex, is_number, is_exchange, is_wait, bytes_of, Parsed}
use Rattle.script.specs.Steps.{number_in, ticks_in}
use Rattle.script.specs.declared.Command.{Command}

-- a number in a range, and one above it
pub between_in : (a b x : ℕ) → a ≤ x → x ≤ b → leb a x && leb x b ≡ true
between_in a b x h g = rw (le-leb a x h, le-leb x b g)

pub between-above : (a b x : ℕ) → b < x → leb a x && leb x b ≡ false
between-above a b x h = rw (lt-leb x b h) (and-false (leb a x))

-- one more character of a loop that tests each
pub all-next : (base : ℕ) (xs : List ℕ) (i : ℕ) (b : Bool) → i < length xs
    → (b && ltb (digit_of (get_or xs i 0)) base) && all_below base (drop (i + 1) xs) ≡ b && all_below base (drop i xs)
all-next base xs i b h = rw (add-one, drop-cons xs i 0 h) (and_assoc b (ltb (digit_of (get_or xs i 0)) base) (all_below base (drop (suc i) xs)))

-- a number only grows with more digits
grows : (xs : List ℕ) (v : ℕ) → v ≤ number_from v xs
grows [] v = omega arith
grows (x ∷ xs) v = let h = grows xs (10 * v + digit_of x) in omega arith

-- one more digit
pub number-next : (xs : List ℕ) (i v : ℕ) → i < length xs → number_from (10 * v + digit_of (get_or xs i 0)) (drop (i + 1) xs) ≡ number_from v (drop i xs)
number-next xs i v h = rw (add-one, drop-cons xs i 0 h)

-- a field that is no number: no digits alone, or one that is too large
pub no_digits : (xs : List ℕ) → eqb (length xs) 0 || not (all_below 10 xs) ≡ true → None ≡ number_in xs
unfolding is_number
no_digits xs h = go (eqb (length xs) 0) refl (all_below 10 xs) refl
  where
    go : (s : Bool) → eqb (length xs) 0 ≡ s → (t : Bool) → all_below 10 xs ≡ t → None ≡ number_in xs
    go true p t q = let z = eqb-true (length xs) 0 p in rw z
    go false p true q = let z : false ≡ true = rw (p, q) at h in cc
    go false p false q = rw (q, and-false (ltb 0 (length xs)))

pub too_large : (xs : List ℕ) (i v : ℕ) → i < length xs → number_from v (drop i xs) ≡ number_of xs → 4294967296 ≤ 10 * v + digit_of (get_or xs i 0) → None ≡ number_in xs
unfolding is_number
too_large xs i v lt e h =
    let g = grows (drop (i + 1) xs) (10 * v + digit_of (get_or xs i 0)) in
    let s = number-next xs i v lt in
    let big : 4294967296 ≤ number_of xs = omega arith in
    rw (le-ltb (number_of xs) 4294967296 big, and-false (ltb 0 (length xs) && all_below 10 xs))

-- and one that is
pub is_one : (xs : List ℕ) (v : ℕ) → eqb (length xs) 0 || not (all_below 10 xs) ≡ false → v ≡ number_of xs → v < 4294967296 → Some v ≡ number_in xs
unfolding is_number
is_one xs v h e lt = go (eqb (length xs) 0) refl (all_below 10 xs) refl
  where
    go : (s : Bool) → eqb (length xs) 0 ≡ s → (t : Bool) → all_below 10 xs ≡ t → Some v ≡ number_in xs
    go true p t q = let z : true ≡ false = rw p at h in cc
    go false p false q = let z : true ≡ false = rw (p, q) at h in cc
    go false p true q =
        let k : 0 < length xs = let n = eqb-false (length xs) 0 p in omega (arith, n) in
        rw (lt-ltb 0 (length xs) k, q, ← e, lt-ltb v 4294967296 lt)

-- a line that waits, and one that does not
pub waits : (line : List ℕ) (t : ℕ) → Some t ≡ ticks_in line → (is_wait line ≡ true) × (t ≡ number_of (drop 2 line))
waits line t e = go (is_wait line) refl
  where
    go : (b : Bool) → is_wait line ≡ b → (is_wait line ≡ true) × (t ≡ number_of (drop 2 line))
    go true p = (p, let z : Some t ≡ Some (number_of (drop 2 line)) = rw p at e in cc)
    go false p = let z : Some t ≡ None = rw p at e in cc

pub no_wait : (line : List ℕ) → ticks_in line ≡ None → is_wait line ≡ false
no_wait line e = go (is_wait line) refl
  where
    go : (b : Bool) → is_wait line ≡ b → is_wait line ≡ false
    go true p = let z : Some (number_of (drop 2 line)) ≡ None = rw p at e in cc
    go false p = p

-- a change of the first n alone
pub change-front : (n : ℕ) (f : ℕ → ℕ → ℕ) (xs ys : List ℕ) → n ≤ length xs → ys ≡ map_at f (take n xs) → ((i x : ℕ) → n ≤ i → i < length xs → f i x ≡ x) → ys ++ drop n xs ≡ map_at f xs
change-front n f xs ys le e stays = map_is f xs (ys ++ drop n xs) (omega (arith, l, length-append ys (drop n xs), length-drop n xs)) (λ i lt. go i lt (ltb i n) refl)
  where
    l : length ys ≡ n
    l = ap length e ∙ length-map f (take n xs) ∙ length-take-le n xs le

    go : (i : ℕ) → i < length xs → (b : Bool) → ltb i n ≡ b → get_or (ys ++ drop n xs) i 0 ≡ f i (get_or xs i 0)
    go i lt true q =
        let k = ltb-true i n q in
        get_or-append ys (drop n xs) 0 i (omega (arith, l))
        ∙ (ap (λ (t : List ℕ). get_or t i 0) e ∙ (get_or-map f (take n xs) i 0 (omega (arith, length-take-le n xs le)) ∙ ap (f i) (get_or-take n xs i 0 k)))
    go i lt false q =
        let k = ltb-false i n q in
        let z : i ≡ length ys + (i - n) = omega (arith, l) in
        let w : n + (i - n) ≡ i = omega arith in
        ap (λ (m : ℕ). get_or (ys ++ drop n xs) m 0) z
        ∙ (get_or-append-add ys (drop n xs) (i - n) 0 ∙ (get_or-drop n xs (i - n) 0 ∙ (ap (λ (m : ℕ). get_or xs m 0) w ∙ sym (stays i (get_or xs i 0) k lt))))

-- where there are no bytes nothing is stored
pub none-stored : (xs : List ℕ) → xs ≡ map_at (get_or []) xs
none-stored xs = map_is (get_or []) xs xs refl (λ i h. refl)

-- a character of a text of digits is a digit
pub below_at : (base : ℕ) (xs : List ℕ) (i : ℕ) → all_below base xs ≡ true → i < length xs → digit_of (get_or xs i 0) < base
below_at base [] i h lt = omega arith
below_at base (x ∷ xs) zero h lt = ltb-true (digit_of x) base (both (ltb (digit_of x) base) (all_below base xs) h).0
below_at base (x ∷ xs) (suc i) h lt = below_at base xs i (both (ltb (digit_of x) base) (all_below base xs) h).1 (omega arith)

-- and a text of digits alone is one
all-back : (base : ℕ) (xs : List ℕ) → ((i : ℕ) → i < length xs → digit_of (get_or xs i 0) < base) → all_below base xs ≡ true
all-back base [] h = refl
all-back base (x ∷ xs) h = rw (lt-ltb (digit_of x) base (h 0 (omega arith))) (all-back base xs (λ i lt. h (suc i) (omega arith)))

-- a test that holds exactly if each character is a digit
pub all_is : (base : ℕ) (xs : List ℕ) (b : Bool) → (b ≡ true → (i : ℕ) → i < length xs → digit_of (get_or xs i 0) < base) → (((i : ℕ) → i < length xs → digit_of (get_or xs i 0) < base) → b ≡ true)
    → b ≡ all_below base xs
all_is base xs true to from = sym (all-back base xs (to refl))
all_is base xs false to from = go (all_below base xs) refl
  where
    go : (t : Bool) → all_below base xs ≡ t → false ≡ all_below base xs
    go true e = from (λ i lt. below_at base xs i e lt) ∙ sym e
    go false e = sym e

-- there is a byte for every two characters
pub length_pairs : (xs : List ℕ) → length (pairs xs) ≡ length xs / 2
length_pairs [] = refl
length_pairs (a ∷ []) = refl
length_pairs (a ∷ (b ∷ xs)) = let h : length (pairs xs) ≡ length xs / 2 = length_pairs xs in omega arith

-- byte i is that of characters 2 i and 2 i + 1
pub pairs-at : (xs : List ℕ) (i d : ℕ) → i < length xs / 2 → get_or (pairs xs) i d ≡ 16 * digit_of (get_or xs (2 * i) 0) + digit_of (get_or xs (2 * i + 1) 0)
pairs-at [] i d h = let z : i < 0 = h in omega arith
pairs-at (a ∷ []) i d h = let z : i < 0 = h in omega arith
pairs-at (a ∷ (b ∷ xs)) zero d h = refl
pairs-at (a ∷ (b ∷ xs)) (suc i) d h =
    let e : 2 * suc i ≡ suc (suc (2 * i)) = omega arith in
    let f : 2 * suc i + 1 ≡ suc (suc (2 * i + 1)) = omega arith in
    pairs-at xs i d (omega arith)
    ∙ ap (λ (k : ℕ). 16 * digit_of (get_or (a ∷ (b ∷ xs)) k 0) + digit_of (get_or xs (2 * i + 1) 0)) (sym e)
    ∙ ap (λ (k : ℕ). 16 * digit_of (get_or (a ∷ (b ∷ xs)) (2 * suc i) 0) + digit_of (get_or (a ∷ (b ∷ xs)) k 0)) (sym f)

-- an exchange has hexadecimal digits after its sixth character, if anything
pub exchange-hex : (line : List ℕ) → is_exchange line ≡ true → all_below 16 (drop 6 line) ≡ true
unfolding is_exchange is_hex
exchange-hex line h =
    go (eqb (length line) 5) refl
    (both
    (eqb (get_or line 0 0) 120
    && eqb (get_or line 1 0) 32
    && ltb (digit_of (get_or line 2 0)) 2
    && eqb (get_or line 3 0) 32
    && ltb (digit_of (get_or line 4 0)) 8)
    (eqb (length line) 5 || (eqb (get_or line 5 0) 32 && is_hex (drop 6 line)))
    h).1
  where
    go : (b : Bool) → eqb (length line) 5 ≡ b → b || (eqb (get_or line 5 0) 32 && is_hex (drop 6 line)) ≡ true → all_below 16 (drop 6 line) ≡ true
    go true e q = let t = eqb-true (length line) 5 e in ap (all_below 16) (drop_of_length-le line {i = 6} (omega arith))
    go false e q =
        (both (ltb 0 (length (drop 6 line)) && eqb (length (drop 6 line) % 2) 0) (all_below 16 (drop 6 line))
        (both (eqb (get_or line 5 0) 32) (is_hex (drop 6 line)) q).1).1

-- a line has at most 297 bytes
pub few_bytes : (line : List ℕ) → length (bytes_of line) ≤ 297
unfolding bytes_of
few_bytes line = go (ltb 600 (length line)) refl (is_exchange line)
  where
    go : (b : Bool) → ltb 600 (length line) ≡ b → (t : Bool) → length (cond b [] (cond t (pairs (drop 6 line)) [])) ≤ 297
    go true e t = omega arith
    go false e true = let q = ltb-false 600 (length line) e in omega (arith, length_pairs (drop 6 line), length-drop 6 line)
    go false e false = omega arith

-- the promise of `parse` admits one outcome
pub one-outcome : (line sent : List ℕ) (r s : Command) (sent₁ sent₂ : List ℕ) → Parsed line sent r sent₁ → Parsed line sent s sent₂ → (r ≡ s) × (sent₁ ≡ sent₂)
one-outcome line sent r s sent₁ sent₂ p q = (p.command ∙ sym q.command, p.stored ∙ sym q.stored)
