-- Laws of the three calls' numbers and answers.
-- Assumes nothing.
use Rattle.std.proofs.Common.{◌≡◌, ℕ, zero, suc, ◌+◌, ◌*◌, ◌/◌, ◌<◌, ◌≤◌, Bool, true, false, cond, not, eqb, ltb, List, [], ◌∷◌, length, get_or, refl, ◌∙◌, arith, lit≤, ltb-false, eq-eqb, eqb-true, slice_get, Some, None}
use borrow.Author.Tests.{not-false}
use Rattle.slices.specs.Chosen.{on_zero}
use Rattle.slices.proofs.Choices.{past, other, zero-ind}
use Rattle.parts.specs.Parts.{figures_of, known_part}
use Rattle.parts.proofs.Laws.{sane}
use Rattle.refusals.specs.declared.Refusal.{Refusal}
use Rattle.refusals.specs.Numbers.{number_of}
use Rattle.refusals.proofs.Laws.{refused_by}
use Rattle.image.specs.declared.Reply.{Reply}
use Rattle.image.specs.Images.{bad_places, listed}
use Rattle.image.specs.Calls.{blocks_of, copy_number, salvage_number, reply, found_bad, read_reply, salvage_reply}
use Rattle.image.proofs.Lists.{few-bad, named, length-listed}

-- the blocks hold the array, and the last one is not empty
pub blocks_hold : (p : ℕ) → (figures_of p).bytes ≤ blocks_of p * 504
unfolding blocks_of
blocks_hold p = omega arith

pub blocks_needed : (p : ℕ) → blocks_of p * 504 < (figures_of p).bytes + 504
unfolding blocks_of
blocks_needed p = omega arith

pub blocks_few : (p : ℕ) → blocks_of p ≤ 33289
unfolding blocks_of
blocks_few p = omega (arith, (sane p).few)

-- what a number of 0 says of the lengths
past_all : (x y z : ℕ) (a b c : Bool) → cond a (suc x) (cond b (suc y) (cond c (suc z) 0)) ≡ 0 → (b ≡ false) × (c ≡ false)
past_all x y z a b c e =
    let k = past b y (cond c (suc z) 0) (past a x (cond b (suc y) (cond c (suc z) 0)) e).1 in
    (k.0, (past c z 0 k.1).0)

pub copy_fits : (p array image : ℕ) → copy_number p array image ≡ 0 → (image ≡ blocks_of p * 512) × (array ≡ (figures_of p).bytes)
unfolding copy_number
copy_fits p array image e =
    let t = past_all 30 31 1 (not (known_part p)) (not (eqb image (blocks_of p * 512))) (not (eqb array (figures_of p).bytes)) e in
    (eqb-true image (blocks_of p * 512) (not-false _ t.0), eqb-true array (figures_of p).bytes (not-false _ t.1))

pub salvage-fits : (p image list : ℕ) → salvage_number p image list ≡ 0 → (image ≡ blocks_of p * 512) × (blocks_of p * 8 ≤ list)
unfolding salvage_number
salvage-fits p image list e =
    let t = past_all 30 31 33 (not (known_part p)) (not (eqb image (blocks_of p * 512))) (ltb (list / 8) (blocks_of p)) e in
    let l = ltb-false (list / 8) (blocks_of p) t.1 in
    (eqb-true image (blocks_of p * 512) (not-false _ t.0), omega arith)

-- the part is one of the parts then
pub salvage-known : (p image list : ℕ) → salvage_number p image list ≡ 0 → known_part p ≡ true
unfolding salvage_number
salvage-known p image list e = not-false (known_part p) (past (not (known_part p)) 30 _ e).0

-- and with lengths that fit there is no other number
pub copy-fine : (p array image : ℕ) → image ≡ blocks_of p * 512 → array ≡ (figures_of p).bytes → known_part p ≡ true → copy_number p array image ≡ 0
unfolding copy_number
copy-fine p array image e f k = rw (k, eq-eqb _ _ e, eq-eqb _ _ f)

-- an image of the right length has the part's blocks
pub counted : (image blocks : ℕ) → image ≡ blocks * 512 → image / 512 ≡ blocks
counted image blocks e = omega arith

-- the first of the bad places is the reader's 33, and where there is none, there is no bad block
found_first : (xs : List ℕ) (place : ℕ) → Some place ≡ slice_get xs 0 → reply 33 place ≡ found_bad xs
found_first [] place e = cc
found_first (x ∷ xs) place e = let z : place ≡ x = cc in rw z

none : (xs : List ℕ) → slice_get xs 0 ≡ None → xs ≡ []
none [] e = refl
none (x ∷ xs) e = cc

-- the reader's three ends
module _ (p : ℕ) (image : List ℕ) (array : ℕ) where
  pub read-refused : (r : Refusal) → number_of r ≡ copy_number p array (length image) → reply (number_of r) 0 ≡ read_reply p image array
  unfolding read_reply
  read-refused r e = rw e (other _ _ _ (λ z. refused_by r (e ∙ z)))

  module _ (fits : copy_number p array (length image) ≡ 0) where
    same : length image / 512 ≡ blocks_of p
    same = counted (length image) (blocks_of p) (copy_fits p array (length image) fits).0

    pub read-bad : (place : ℕ) → Some place ≡ slice_get (bad_places image (length image / 512)) 0 → reply 33 place ≡ read_reply p image array
    unfolding read_reply
    read-bad place e = rw fits (found_first (bad_places image (blocks_of p)) place (rw (← same) e))

    pub read-fine : slice_get (bad_places image (length image / 512)) 0 ≡ None → reply 0 0 ≡ read_reply p image array
    unfolding read_reply
    read-fine e = rw (fits, none (bad_places image (blocks_of p)) (rw (← same) e))

-- salvage's two ends
module _ (p : ℕ) (image : List ℕ) (list : ℕ) where
  pub salvage-refused : (r : Refusal) → number_of r ≡ salvage_number p (length image) list → reply (number_of r) 0 ≡ salvage_reply p image list
  unfolding salvage_reply
  salvage-refused r e = rw e (other _ _ _ (λ z. refused_by r (e ∙ z)))

  pub salvage-done : (u : ℕ) → u ≡ length (listed image (bad_places image (blocks_of p))) → salvage_number p (length image) list ≡ 0 → reply 0 (u / 8) ≡ salvage_reply p image list
  unfolding salvage_reply
  salvage-done u e z =
      let l = length-listed image (bad_places image (blocks_of p)) in
      let q : u / 8 ≡ length (bad_places image (blocks_of p)) = omega arith in
      rw (z, q)

-- it is done where its answer is 0
on-done : (k m : ℕ) → (on_zero k (reply 0 m) (reply k 0)).answer ≡ 0 → k ≡ 0
on-done zero m e = refl
on-done (suc k) m e = absurd (omega (arith, e))

pub salvage-zero : (p : ℕ) (image : List ℕ) (list : ℕ) → (salvage_reply p image list).answer ≡ 0 → salvage_number p (length image) list ≡ 0
unfolding salvage_reply
salvage-zero p image list e = on-done (salvage_number p (length image) list) (length (bad_places image (blocks_of p))) e

-- no reply has more blocks than the largest part
pub read-few : (p : ℕ) (image : List ℕ) (array : ℕ) → (read_reply p image array).blocks ≤ 33289
unfolding read_reply
read-few p image array = zero-ind (λ (r : Reply). r.blocks ≤ 33289) (copy_number p array (length image)) (first (bad_places image (blocks_of p)) (λ some. let l = (named image (blocks_of p) 0 some).0 in omega (arith, blocks_few p))) (lit≤ tt)
  where
    first : (xs : List ℕ) → (0 < length xs → get_or xs 0 0 ≤ 33289) → (found_bad xs).blocks ≤ 33289
    first [] h = lit≤ tt
    first (x ∷ xs) h = h (omega arith)

pub salvage-few : (p : ℕ) (image : List ℕ) (list : ℕ) → (salvage_reply p image list).blocks ≤ 33289
unfolding salvage_reply
salvage-few p image list = zero-ind (λ (r : Reply). r.blocks ≤ 33289) (salvage_number p (length image) list) (let l = few-bad image (blocks_of p) in omega (arith, blocks_few p)) (lit≤ tt)
