-- What images are worth, as theorems of the three calls' own promises.
-- Assumes nothing.
use Rattle.std.proofs.Common.{◌≡◌, ℕ, zero, suc, ◌*◌, ◌/◌, ◌%◌, ◌<◌, ◌≤◌, Bool, true, false, cond, not, eqb, List, [], ◌∷◌, length, get_or, drop, sym, refl, ap, ◌∙◌, arith, length-drop, length-take, eqb-true}
use borrow.Author.Tests.{eqb-false}
use Rattle.slices.specs.Changed.{map_at}
use Rattle.slices.specs.Chosen.{on_zero}
use Rattle.slices.proofs.Choices.{cond_ind, zero-ind, other}
use Rattle.slices.proofs.Maps.{length-map, get_or-map, get_d_any}
use Rattle.slices.proofs.Outcomes.{one-outcome}
use Rattle.slices.proofs.Stores.{stored-none}
use Rattle.parts.specs.Parts.{figures_of, known_part}
use Rattle.image.specs.declared.Reply.{Reply}
use Rattle.image.specs.Blocks.{filled_up, block_of, reason_of}
use Rattle.image.specs.Images.{part_of, imaged, unimaged, mended, reason_at, bad_places, listed}
use Rattle.image.specs.Calls.{blocks_of, copy_number, salvage_number, reply, found_bad, read_reply, salvage_reply, Written, Read, Salvaged}
use Rattle.image.proofs.Lists.{named}
use Rattle.image.proofs.Calls.{blocks_hold, blocks_few, copy_fits, copy-fine, salvage-fits, salvage-known, salvage-zero}
use Rattle.image.proofs.Wholes as wholes
use Rattle.image.proofs.Names as names

-- no part has more blocks than four bytes can number
few : (part : ℕ) → blocks_of part ≤ 4294967296
few part = omega (arith, blocks_few part)

-- every block is good
abbrev pub AllGood : ℕ → List ℕ → Type 0
AllGood part image = (p : ℕ) → p < blocks_of part → reason_at image p ≡ 0

-- ---- the answers

-- the reader's, where all is good
fine : (part : ℕ) (image : List ℕ) (array : ℕ) → copy_number part array (length image) ≡ 0 → AllGood part image → read_reply part image array ≡ reply 0 0
unfolding read_reply
fine part image array fits all = rw (fits, wholes.none-bad image (blocks_of part) all)

-- what an answer of 0 or 33 comes from
from_zero : (k : ℕ) (xs : List ℕ) → (on_zero k (found_bad xs) (reply k 0)).answer ≡ 0 → (k ≡ 0) × (xs ≡ [])
from_zero zero [] e = (refl, refl)
from_zero zero (x ∷ xs) e = absurd (omega (arith, e))
from_zero (suc k) xs e = absurd (omega (arith, e))

from-bad : (k : ℕ) (xs : List ℕ) → (k ≡ 33 → ⊥) → (on_zero k (found_bad xs) (reply k 0)).answer ≡ 33 → (0 < length xs) × ((on_zero k (found_bad xs) (reply k 0)).blocks ≡ get_or xs 0 0)
from-bad zero [] free e = absurd (omega (arith, e))
from-bad zero (x ∷ xs) free e = (omega arith, refl)
from-bad (suc k) xs free e = absurd (free e)

some-bad : (xs : List ℕ) → 0 < length xs → (found_bad xs).answer ≡ 33
some-bad [] h = absurd (omega arith)
some-bad (x ∷ xs) h = refl

-- the writer's numbers are no 33
copy-not-33 : (part array image : ℕ) → copy_number part array image ≡ 33 → ⊥
unfolding copy_number
copy-not-33 part array image =
    cond_ind (λ (k : ℕ). k ≡ 33 → ⊥) (not (known_part part)) (λ e. omega arith)
    (cond_ind (λ (k : ℕ). k ≡ 33 → ⊥) (not (eqb image (blocks_of part * 512))) (λ e. omega arith) (cond_ind (λ (k : ℕ). k ≡ 33 → ⊥) (not (eqb array (figures_of part).bytes)) (λ e. omega arith) (λ e. omega arith)))

-- ---- what was written

module _ {part : ℕ} {array image : List ℕ} {r : ℕ} {image' : List ℕ} (w : Written part array image r image') (z : r ≡ 0) where
  fits : copy_number part (length array) (length image) ≡ 0
  fits = sym w.answer ∙ z

  whole : length image ≡ blocks_of part * 512
  whole = (copy_fits part (length array) (length image) fits).0

  is : image' ≡ map_at (imaged array) image
  is = w.blocks ∙ ap (λ (k : ℕ). on_zero k (map_at (imaged array) image) image) fits

  -- block by block it is the array's parts, filled up with FF
  pub written-blocks : (p : ℕ) → p < blocks_of part → part_of 512 p image' ≡ block_of p (filled_up (part_of 504 p array))
  written-blocks p h = ap (part_of 512 p) is ∙ wholes.written-block (blocks_of part) (few part) image whole array p h

  -- a written image has only good blocks
  pub written-good : AllGood part image'
  written-good p h = ap (λ (t : List ℕ). reason_at t p) is ∙ wholes.written-good (blocks_of part) (few part) image whole array p h

  -- reading what was written gives the array
  pub read_back : {old : List ℕ} {s : Reply} {array' : List ℕ} → length old ≡ length array → Read part image' old s array' → (s ≡ reply 0 0) × (array' ≡ array)
  read_back {old} same d =
      let l : length image' ≡ length image = ap length is ∙ length-map (imaged array) image in
      let k : copy_number part (length old) (length image') ≡ 0 = rw (same, l) fits in
      let o : read_reply part image' (length old) ≡ reply 0 0 = fine part image' (length old) k written-good in
      let room : length array ≤ blocks_of part * 504 = rw (copy_fits part (length array) (length image) fits).1 (blocks_hold part) in (
        d.answer ∙ o,
        d.memory ∙ (ap (λ (q : Reply). on_zero q.answer (map_at (unimaged image') old) old) o
            ∙ (ap (λ (t : List ℕ). map_at (unimaged t) old) is ∙ wholes.read-written (blocks_of part) (few part) image whole array old room same)),
      )

-- ---- the reader

module _ {part : ℕ} {image array : List ℕ} {r : Reply} {array' : List ℕ} (d : Read part image array r array') where
  -- where part and lengths fit, it answers 0 exactly if all blocks are good
  pub good-read : copy_number part (length array) (length image) ≡ 0 → AllGood part image → r ≡ reply 0 0
  good-read k all = d.answer ∙ fine part image (length array) k all

  pub read-good : r.answer ≡ 0 → AllGood part image
  unfolding read_reply
  read-good z =
      let e = from_zero (copy_number part (length array) (length image)) (bad_places image (blocks_of part)) (sym (ap (λ (q : Reply). q.answer) d.answer) ∙ z) in
      names.all-good image (blocks_of part) e.1

  -- and 33 where one is bad
  pub bad-read : copy_number part (length array) (length image) ≡ 0 → (p : ℕ) → p < blocks_of part → (reason_at image p ≡ 0 → ⊥) → r.answer ≡ 33
  unfolding read_reply
  bad-read k p h bad =
      let s = names.all_named image (blocks_of part) p h bad in
      let i = s.inside in
      ap (λ (q : Reply). q.answer) d.answer ∙ rw k (some-bad (bad_places image (blocks_of part)) (omega arith))

  -- with 33 it names the first bad block, and the array stays
  pub read-bad : r.answer ≡ 33 → (r.blocks < blocks_of part) × (reason_at image r.blocks ≡ 0 → ⊥) × ((q : ℕ) → q < r.blocks → reason_at image q ≡ 0) × (array' ≡ array)
  unfolding read_reply
  read-bad z =
      let n = blocks_of part in
      let k = copy_number part (length array) (length image) in
      let y : (read_reply part image (length array)).answer ≡ 33 = sym (ap (λ (q : Reply). q.answer) d.answer) ∙ z in
      let e = from-bad k (bad_places image n) (copy-not-33 part (length array) (length image)) y in
      let b : r.blocks ≡ get_or (bad_places image n) 0 0 = ap (λ (q : Reply). q.blocks) d.answer ∙ e.1 in
      let m = named image n 0 e.0 in
      rw b (m.0, m.1, λ q h. names.good-before image n q e.0 h, d.memory ∙ rw y)

-- ---- salvage

module _ {part : ℕ} {image list : List ℕ} {r : Reply} {image' list' : List ℕ} (s : Salvaged part image list r image' list') where
  abbrev number : ℕ
  number = salvage_number part (length image) (length list)

  -- a good block is never changed
  pub good-stays : (p : ℕ) → p < blocks_of part → reason_at image p ≡ 0 → part_of 512 p image' ≡ part_of 512 p image
  good-stays p h e = ap (part_of 512 p) s.blocks ∙ go (eqb number 0) refl
    where
      go : (b : Bool) → eqb number 0 ≡ b → part_of 512 p (on_zero number (map_at (mended image) image) image) ≡ part_of 512 p image
      go true q =
          let z = eqb-true number 0 q in
          rw z (wholes.good-kept (blocks_of part) (few part) image (salvage-fits part (length image) (length list) z).0 p h e)
      go false q = ap (part_of 512 p) (sym (other number (map_at (mended image) image) image (eqb-false number 0 q)))

  module _ (z : r.answer ≡ 0) where
    done : number ≡ 0
    done = salvage-zero part image (length list) (sym (ap (λ (q : Reply). q.answer) s.answer) ∙ z)

    whole-blocks : length image ≡ blocks_of part * 512
    whole-blocks = (salvage-fits part (length image) (length list) done).0

    mended-is : image' ≡ map_at (mended image) image
    mended-is = s.blocks ∙ ap (λ (k : ℕ). on_zero k (map_at (mended image) image) image) done

    -- after salvage every block is good
    pub salvaged-good : AllGood part image'
    salvaged-good p h = ap (λ (t : List ℕ). reason_at t p) mended-is ∙ wholes.mended-good (blocks_of part) (few part) image whole-blocks p h

    -- a bad block becomes that of 504 bytes FF, and so it is changed
    pub bad-lost : (p : ℕ) → p < blocks_of part → (reason_at image p ≡ 0 → ⊥) → (part_of 512 p image' ≡ block_of p (filled_up [])) × (part_of 512 p image' ≡ part_of 512 p image → ⊥)
    bad-lost p h bad = (
      ap (part_of 512 p) mended-is ∙ wholes.bad-anew (blocks_of part) (few part) image whole-blocks p h bad,
      λ e. bad (sym (ap (reason_of p) e) ∙ salvaged-good p h),
    )

    -- after salvage the reader answers 0
    pub salvaged-read : {array : List ℕ} {t : Reply} {array' : List ℕ} → length array ≡ (figures_of part).bytes → Read part image' array t array' → t ≡ reply 0 0
    salvaged-read {array} l d = good-read d (copy-fine part (length array) (length image') (ap length mended-is ∙ length-map (mended image) image ∙ whole-blocks) l known) salvaged-good
      where
        known : known_part part ≡ true
        known = salvage-known part (length image) (length list) done

    -- and gives each byte of a good block as it stood in the image, and FF for those of a bad one
    pub salvaged-byte : {array : List ℕ} {t : Reply} {array' : List ℕ} → length array ≡ (figures_of part).bytes → Read part image' array t array' → (i : ℕ) → i < length array
        → get_or array' i 0 ≡ cond (eqb (reason_at image (i / 504)) 0) (get_or (drop 8 (part_of 512 (i / 504) image)) (i % 504) 0) 255
    salvaged-byte {array} {t} {array'} l d i lt =
        ap (λ (x : List ℕ). get_or x i 0) (d.memory ∙ ap (λ (q : Reply). on_zero q.answer (map_at (unimaged image') array) array) (sym d.answer ∙ salvaged-read l d))
        ∙ (get_or-map (unimaged image') array i 0 lt ∙ go (eqb (reason_at image (i / 504)) 0) refl)
      where
        inside : i / 504 < blocks_of part
        inside = let h = blocks_hold part in omega arith

        go : (b : Bool) → eqb (reason_at image (i / 504)) 0 ≡ b
            → unimaged image' i (get_or array i 0) ≡ cond (eqb (reason_at image (i / 504)) 0) (get_or (drop 8 (part_of 512 (i / 504) image)) (i % 504) 0) 255
        go true e =
            let m : length (drop 8 (part_of 512 (i / 504) image)) ≡ 504 = simp (length-take, length-drop) (omega (arith, whole-blocks, inside)) in
            let k : i % 504 < 504 = omega arith in
            rw e (ap (λ (b : List ℕ). get_or (drop 8 b) (i % 504) (get_or array i 0)) (good-stays (i / 504) inside (eqb-true _ _ e)) ∙ get_d_any (drop 8 (part_of 512 (i / 504) image)) (i % 504) _ 0 (omega arith))
        go false e =
            let k : i % 504 < 504 = omega arith in
            rw e (ap (λ (b : List ℕ). get_or (drop 8 b) (i % 504) (get_or array i 0)) (bad-lost (i / 504) inside (eqb-false _ _ e)).0 ∙ wholes.blank (i / 504) (i % 504) (get_or array i 0) k)

    -- salvaging twice changes nothing more: neither the image nor the second list, and no block is counted
    pub salvaged-twice : {list₂ : List ℕ} {t : Reply} {image₃ list₃ : List ℕ} → Salvaged part image' list₂ t image₃ list₃ → (image₃ ≡ image') × (list₃ ≡ list₂) × (t.blocks ≡ 0)
    unfolding salvage_reply listed
    salvaged-twice {list₂} {t} d =
        let l : length image' ≡ blocks_of part * 512 = ap length mended-is ∙ length-map (mended image) image ∙ whole-blocks in
        let k = salvage_number part (length image') (length list₂) in
        let e : bad_places image' (blocks_of part) ≡ [] = wholes.none-bad image' (blocks_of part) salvaged-good in (
          d.blocks ∙ zero-ind (λ (x : List ℕ). x ≡ image') k (wholes.good-image (blocks_of part) (few part) image' l salvaged-good) refl,
          d.places ∙ zero-ind (λ (x : List ℕ). x ≡ list₂) k (rw e (sym (stored-none 0 list₂))) refl,
          ap (λ (q : Reply). q.blocks) d.answer ∙ zero-ind (λ (x : Reply). x.blocks ≡ 0) k (rw e) refl,
        )

-- ---- each call has one outcome

pub write-one-outcome : {part : ℕ} {array image : List ℕ} {r t : ℕ} {image' image'' : List ℕ} → Written part array image r image' → Written part array image t image'' → (r ≡ t) × (image' ≡ image'')
write-one-outcome p q = (one-outcome p.answer q.answer, one-outcome p.blocks q.blocks)

pub read-one-outcome : {part : ℕ} {image array : List ℕ} {r t : Reply} {array' array'' : List ℕ} → Read part image array r array' → Read part image array t array'' → (r ≡ t) × (array' ≡ array'')
read-one-outcome p q = (one-outcome p.answer q.answer, one-outcome p.memory q.memory)

pub salvage-one-outcome : {part : ℕ} {image list : List ℕ} {r t : Reply} {image' image'' list' list'' : List ℕ} → Salvaged part image list r image' list' → Salvaged part image list t image'' list''
    → (r ≡ t) × (image' ≡ image'') × (list' ≡ list'')
salvage-one-outcome p q = (one-outcome p.answer q.answer, one-outcome p.blocks q.blocks, one-outcome p.places q.places)
