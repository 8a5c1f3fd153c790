-- Laws of the walk that salvages block by block.
-- Assumes nothing.
use Rattle.std.proofs.Common.{◌≡◌, ℕ, ◌+◌, ◌-◌, ◌*◌, ◌≤◌, List, length, take, drop, ap, ◌∙◌, arith, length-drop, length-take}
use borrow.Rule.Slice.PartMut.{put_mid}
use Rattle.slices.specs.Changed.{map_at, window}
use Rattle.image.specs.Blocks.{salvaged_of}
use Rattle.image.specs.Images.{part_of, mended}
use Rattle.image.proofs.Blocks.{length-salvaged}
use Rattle.image.proofs.Parts.{part-put, part-whole, ahead}

module _ (p : ℕ) (xs ys : List ℕ) (fit : p * 512 + 512 ≤ length xs) (e : ys ≡ map_at (window 0 (p * 512) (mended xs)) xs) where
  -- the block that is lent is still the one of the first image
  pub salvage-part : take (p * 512 + 512 - p * 512) (drop (p * 512) ys) ≡ part_of 512 p xs
  salvage-part = ahead (p * 512 + 512 - p * 512) (p * 512) _ xs e ∙ part-whole 512 p xs fit

  -- one turn of the loop
  pub salvage-step : {zs : List ℕ} → zs ≡ salvaged_of p (take (p * 512 + 512 - p * 512) (drop (p * 512) ys)) → put_mid (p * 512) (p * 512 + 512 - p * 512) ys zs ≡ map_at (window 0 ((p + 1) * 512) (mended xs)) xs
  salvage-step q =
      let l : length (part_of 512 p xs) ≡ 512 = simp (length-take, length-drop) (omega arith) in
      part-put 512 p (λ k. salvaged_of k (part_of 512 k xs)) xs fit (length-salvaged p (part_of 512 p xs) l) e (q ∙ ap (salvaged_of p) salvage-part)
