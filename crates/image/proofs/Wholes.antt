-- An image of whole blocks: what is written is good and reads back; what is good stays over salvage, and after it all is.
-- Assumes nothing.
use Rattle.std.proofs.Common.{◌≡◌, ℕ, zero, suc, ◌+◌, ◌-◌, ◌*◌, ◌/◌, ◌%◌, ◌<◌, ◌≤◌, min, List, [], length, get_or, drop, replicate, sym, refl, ap, ◌∙◌, div-add-mod', arith, length-drop, length-take, get_or-drop, get_or-take}
use lib.ListN.{length-replicate, get_or-replicate, get_or-eq_default}
use Rattle.slices.specs.Changed.{map_at}
use Rattle.slices.proofs.Maps.{get_or-map, map_is, get_d_any}
use Rattle.image.specs.Blocks.{filled_up, block_of, reason_of, salvaged_of}
use Rattle.image.specs.Images.{part_of, imaged, unimaged, mended, reason_at, bad_places}
use Rattle.image.proofs.Blocks.{kept, anew, good, salvaged-good, length-block, length-salvaged}
use Rattle.image.proofs.Parts.{part-of}
use Rattle.image.proofs.Lists.{past-good}

-- an image of n whole blocks, few enough that their numbers have four bytes
module _ (n : ℕ) (few : n ≤ 4294967296) (image : List ℕ) (whole : length image ≡ n * 512) where
  inside : (p : ℕ) → p < n → p * 512 + 512 ≤ length image
  inside p h = omega arith

  length_part : (p : ℕ) → p < n → length (part_of 512 p image) ≡ 512
  length_part p h = simp (length-take, length-drop) (omega arith)

  -- block p of a written image is that of part p of the array
  pub written-block : (array : List ℕ) (p : ℕ) → p < n → part_of 512 p (map_at (imaged array) image) ≡ block_of p (filled_up (part_of 504 p array))
  written-block array p h = part-of 512 p (λ k. block_of k (filled_up (part_of 504 k array))) image (length-block p _) (inside p h)

  -- it is good
  pub written-good : (array : List ℕ) (p : ℕ) → p < n → reason_at (map_at (imaged array) image) p ≡ 0
  written-good array p h = ap (reason_of p) (written-block array p h) ∙ good p (filled_up (part_of 504 p array)) (omega arith)

  -- reading what was written gives the array
  pub read-written : (array old : List ℕ) → length array ≤ n * 504 → length old ≡ length array → map_at (unimaged (map_at (imaged array) image)) old ≡ array
  unfolding block_of filled_up
  read-written array old room same = sym (map_is _ old array (sym same) byte)
    where
      byte : (i : ℕ) → i < length old → get_or array i 0 ≡ unimaged (map_at (imaged array) image) i (get_or old i 0)
      byte i lt =
          let p = i / 504 in
          let k = i % 504 in
          let z : p * 504 + k ≡ i = div-add-mod' i 504 in
          let kk : k < 504 = omega arith in
          let pp : p < n = omega arith in
          let l : length (part_of 504 p array) ≡ min 504 (length array - p * 504) = simp (length-take, length-drop) in
          let m : k < length (part_of 504 p array) = omega arith in
          sym (ap (λ (b : List ℕ). get_or (drop 8 b) k (get_or old i 0)) (written-block array p pp)
          ∙ (get_or-map (get_or (part_of 504 p array)) (replicate 504 255) k (get_or old i 0) (rw (length-replicate {A = ℕ} 504 255) kk)
          ∙ (get_d_any (part_of 504 p array) k _ 0 m
          ∙ (get_or-take 504 (drop (p * 504) array) k 0 kk ∙ (get_or-drop (p * 504) array k 0 ∙ ap (λ (j : ℕ). get_or array j 0) z)))))

  -- block p after salvage is block p, salvaged
  pub mended-block : (p : ℕ) → p < n → part_of 512 p (map_at (mended image) image) ≡ salvaged_of p (part_of 512 p image)
  mended-block p h = part-of 512 p (λ k. salvaged_of k (part_of 512 k image)) image (length-salvaged p _ (length_part p h)) (inside p h)

  -- a good block stays, a bad one is that of 504 bytes FF
  pub good-kept : (p : ℕ) → p < n → reason_at image p ≡ 0 → part_of 512 p (map_at (mended image) image) ≡ part_of 512 p image
  good-kept p h e = mended-block p h ∙ sym (kept p (part_of 512 p image) e)

  pub bad-anew : (p : ℕ) → p < n → (reason_at image p ≡ 0 → ⊥) → part_of 512 p (map_at (mended image) image) ≡ block_of p (filled_up [])
  bad-anew p h e = mended-block p h ∙ sym (anew p (part_of 512 p image) e)

  -- after salvage every block is good
  pub mended-good : (p : ℕ) → p < n → reason_at (map_at (mended image) image) p ≡ 0
  mended-good p h = ap (reason_of p) (mended-block p h) ∙ salvaged-good p (part_of 512 p image) (omega arith)

  -- an image of good blocks is not changed
  pub good-image : ((p : ℕ) → p < n → reason_at image p ≡ 0) → map_at (mended image) image ≡ image
  good-image all = sym (map_is _ image image refl byte)
    where
      byte : (i : ℕ) → i < length image → get_or image i 0 ≡ mended image i (get_or image i 0)
      byte i lt =
          let p = i / 512 in
          let k = i % 512 in
          let z : p * 512 + k ≡ i = div-add-mod' i 512 in
          let kk : k < 512 = omega arith in
          let pp : p < n = omega arith in
          let l = length_part p pp in
          sym (ap (λ (b : List ℕ). get_or b k (get_or image i 0)) (sym (kept p (part_of 512 p image) (all p pp)))
          ∙ (get_d_any (part_of 512 p image) k _ 0 (omega arith) ∙ (get_or-take 512 (drop (p * 512) image) k 0 kk ∙ (get_or-drop (p * 512) image k 0 ∙ ap (λ (j : ℕ). get_or image j 0) z))))

-- byte k of a block's bytes that are all FF
pub blank : (number k x : ℕ) → k < 504 → get_or (drop 8 (block_of number (filled_up []))) k x ≡ 255
unfolding block_of filled_up
blank number k x h =
    get_or-map (get_or []) (replicate 504 255) k x (rw (length-replicate {A = ℕ} 504 255) h) ∙ (get_or-eq_default [] _ {n = k} (omega arith) ∙ get_or-replicate {A = ℕ} 504 k 255 x h)

-- where all blocks are good, there is no bad place
pub none-bad : (image : List ℕ) (n : ℕ) → ((p : ℕ) → p < n → reason_at image p ≡ 0) → bad_places image n ≡ []
unfolding bad_places
none-bad image zero all = refl
none-bad image (suc n) all = past-good image n (all n (omega arith)) ∙ none-bad image n (λ p h. all p (omega arith))
