-- Laws of one block: what the code of a block comes to, and when a block is good.
-- Assumes nothing.
use Rattle.std.proofs.Common.{◌≡◌, ℕ, ◌+◌, ◌-◌, ◌*◌, ◌/◌, ◌%◌, ◌<◌, ◌≤◌, Bool, true, false, cond, eqb, List, [], ◌∷◌, ◌++◌, length, take, drop, sym, refl, ap, ◌∙◌, arith, lit≤, length-append, length-drop, take_all, eq-eqb, ne_eqb, eqb-true}
use borrow.Author.Tests.{eqb-false}
use lib.ListN.{length-replicate}
use Rattle.slices.specs.Changed.{map_at, stored}
use Rattle.slices.specs.Bytes.{word, word_at}
use Rattle.slices.proofs.Choices.{cond_ind}
use Rattle.slices.proofs.Maps.{length-map}
use Rattle.slices.proofs.Stores.{store-next, stored-whole}
use Rattle.slices.proofs.Words.{word_number}
use Rattle.image.specs.declared.Sums.{Sums}
use Rattle.image.specs.Sums.{sums_of}
use Rattle.image.specs.Blocks.{half, head_of, filled_up, block_of, sums_in, same_sums, reason_of, salvaged_of}

-- the bytes behind the head
pub behind : (n : ℕ) (b : List ℕ) → n ≡ length b → take (n - 8) (drop 8 b) ≡ drop 8 b
behind n b e = take_all (n - 8) (drop 8 b) (rw length-drop (omega arith))

-- why a block is bad: its number, or a sum; or it is good
pub bad_number : (place : ℕ) (b : List ℕ) → (word_at b 0 ≡ place → ⊥) → 1 ≡ reason_of place b
unfolding reason_of
bad_number place b n = rw (ne_eqb _ _ n)

pub by_sums : (place : ℕ) (b : List ℕ) (same : Bool) → word_at b 0 ≡ place → same ≡ same_sums (sums_in b) (sums_of place (drop 8 b)) → cond same 0 2 ≡ reason_of place b
unfolding reason_of
by_sums place b same e f = rw (eq-eqb _ _ e, f)

-- a reason is 0, 1 or 2
pub reason-most : (place : ℕ) (b : List ℕ) → reason_of place b ≤ 2
unfolding reason_of
reason-most place b = cond_ind (λ (k : ℕ). k ≤ 2) (eqb (word_at b 0) place) (cond_ind (λ (k : ℕ). k ≤ 2) (same_sums (sums_in b) (sums_of place (drop 8 b))) (lit≤ tt) (lit≤ tt)) (lit≤ tt)

-- a block has 512 bytes
pub length-filled : (part : List ℕ) → length (filled_up part) ≡ 504
unfolding filled_up
length-filled part = length-map _ _ ∙ length-replicate {A = ℕ} 504 255

pub length-block : (number : ℕ) (part : List ℕ) → length (block_of number (filled_up part)) ≡ 512
unfolding block_of
length-block number part = rw length-append (rw (length-filled part))

-- what `write_block` comes to
pub written_is : (number : ℕ) (part b bytes : List ℕ) (sums : Sums) {numbered one two last : List ℕ} → length b ≡ 512 → bytes ≡ filled_up part → sums ≡ sums_of number bytes
    → numbered ≡ map_at (stored 0 (word number)) b → one ≡ map_at (stored 4 (half sums.first)) numbered → two ≡ map_at (stored 6 (half sums.second)) one → last ≡ map_at (stored 8 bytes) two
    → last ≡ block_of number (filled_up part)
unfolding block_of
written_is number part b bytes sums l p q n s t u =
    let e : block_of number (filled_up part) ≡ head_of number sums ++ bytes = sym (rw (q, p)) in
    let first = store-next 4 (word number) (half sums.first) b n refl s in
    let both = store-next 6 (word number ++ half sums.first) (half sums.second) b first refl t in
    store-next 8 (head_of number sums) bytes b both refl u ∙ stored-whole (head_of number sums ++ bytes) b (ap length (sym e) ∙ length-block number part ∙ sym l) ∙ sym e

-- a number of 16 bits, as its bytes are written
pub half-bytes : (n : ℕ) → n < 65536 → n % 256 ∷ n / 256 % 256 ∷ [] ≡ half n
half-bytes n h = let z : n / 256 % 256 ≡ n / 256 = omega arith in rw z

-- a good block stays, a bad one is written anew
pub kept : (place : ℕ) (b : List ℕ) → reason_of place b ≡ 0 → b ≡ salvaged_of place b
unfolding salvaged_of
kept place b e = rw e

pub anew : (place : ℕ) (b : List ℕ) → (reason_of place b ≡ 0 → ⊥) → block_of place (filled_up []) ≡ salvaged_of place b
unfolding salvaged_of
anew place b n = rw (ne_eqb (reason_of place b) 0 n)

pub length-salvaged : (place : ℕ) (b : List ℕ) → length b ≡ 512 → length (salvaged_of place b) ≡ 512
unfolding salvaged_of
length-salvaged place b l = cond_ind (λ (t : List ℕ). length t ≡ 512) (eqb (reason_of place b) 0) l (length-block place [])

-- a number of 16 bits is read back from its bytes
two : (n : ℕ) → n % 256 + 256 * (n / 256) ≡ n
two n = omega arith

-- a block at its own place is good
pub good : (place : ℕ) (bytes : List ℕ) → place < 4294967296 → reason_of place (block_of place bytes) ≡ 0
unfolding reason_of block_of
good place bytes h =
    rw (eq-eqb _ place (word_number place h), eq-eqb _ (sums_of place bytes).first (two (sums_of place bytes).first), eq-eqb _ (sums_of place bytes).second (two (sums_of place bytes).second))

-- so is a block after salvage
pub salvaged-good : (place : ℕ) (b : List ℕ) → place < 4294967296 → reason_of place (salvaged_of place b) ≡ 0
salvaged-good place b h = go (eqb (reason_of place b) 0) refl
  where
    go : (t : Bool) → eqb (reason_of place b) 0 ≡ t → reason_of place (salvaged_of place b) ≡ 0
    go true e = let z = eqb-true _ _ e in ap (reason_of place) (sym (kept place b z)) ∙ z
    go false e = ap (reason_of place) (sym (anew place b (eqb-false _ _ e))) ∙ good place (filled_up []) h
