-- The list of salvage names exactly the bad blocks, in order, and leaves every byte behind them.
-- Assumes nothing.
use Rattle.std.proofs.Common.{◌≡◌, ℕ, ◌+◌, ◌*◌, ◌<◌, ◌≤◌, List, length, get_or, sym, ap, ◌∙◌, arith}
use Rattle.slices.specs.Changed.{map_at, stored}
use Rattle.slices.specs.Bytes.{word_at}
use Rattle.slices.specs.Chosen.{on_zero}
use Rattle.image.specs.declared.Reply.{Reply}
use Rattle.image.specs.Images.{reason_at, bad_places, listed}
use Rattle.image.specs.Calls.{blocks_of, salvage_number, salvage_reply, Salvaged}
use Rattle.image.proofs.Lists.{few-bad, named, length-listed}
use Rattle.image.proofs.Calls.{blocks_few, salvage-fits, salvage-zero}
use Rattle.image.proofs.Names.{in_order, all_named, entry_place, entry-reason, word-stored, beyond-stored}

-- entry k of a list names a bad block of an image, and why it is bad
pub record Entry (image list : List ℕ) (blocks k : ℕ) : Type 0 where
  pub place : word_at list (8 * k) < blocks
  pub bad : reason_at image (word_at list (8 * k)) ≡ 0 → ⊥
  pub reason : word_at list (8 * k + 4) ≡ reason_at image (word_at list (8 * k))

-- an entry of the first ones names this block
pub record Entered (list : List ℕ) (entries p : ℕ) : Type 0 where
  pub at : ℕ
  pub inside : at < entries
  pub here : word_at list (8 * at) ≡ p

-- after a salvage that answered 0 with so many blocks
module _ {part : ℕ} {image list : List ℕ} {r : Reply} {image' list' : List ℕ} (s : Salvaged part image list r image' list') (z : r.answer ≡ 0) where
  abbrev n : ℕ
  n = blocks_of part

  abbrev bads : List ℕ
  bads = bad_places image (blocks_of part)

  done : salvage_number part (length image) (length list) ≡ 0
  done = salvage-zero part image (length list) (sym (ap (λ (q : Reply). q.answer) s.answer) ∙ z)

  -- as many blocks are told as are bad
  count : r.blocks ≡ length (bad_places image (blocks_of part))
  unfolding salvage_reply
  count = ap (λ (q : Reply). q.blocks) s.answer ∙ rw done

  list-is : list' ≡ map_at (stored 0 (listed image bads)) list
  list-is = s.places ∙ ap (λ (k : ℕ). on_zero k (map_at (stored 0 (listed image bads)) list) list) done

  long : length (listed image bads) ≡ 8 * r.blocks
  long = rw count (length-listed image bads)

  room : length (listed image bads) ≤ length list
  room = let l = (salvage-fits part (length image) (length list) done).1 in let f = few-bad image n in omega (arith, long, count)

  -- the word at a place of the list
  at-word : (j : ℕ) → j + 4 ≤ 8 * r.blocks → word_at list' j ≡ word_at (listed image bads) j
  at-word j h = ap (λ (t : List ℕ). word_at t j) list-is ∙ word-stored (listed image bads) list j (omega (arith, long)) room

  at_place : (k : ℕ) → k < r.blocks → word_at list' (8 * k) ≡ get_or bads k 0
  at_place k h =
      let i : k < length bads = omega (arith, count) in
      let p = (named image n k i).0 in
      at-word (8 * k) (omega arith) ∙ entry_place image bads k i (omega (arith, blocks_few part))

  -- every entry names a bad block, with its reason
  pub list-names : (k : ℕ) → k < r.blocks → Entry image list' (blocks_of part) k
  list-names k h =
      let i : k < length bads = omega (arith, count) in
      let m = named image n k i in
      let e = at_place k h in
      record { place = rw e m.0; bad = rw e m.1; reason = rw e (at-word (8 * k + 4) (omega arith) ∙ entry-reason image bads k i) }

  -- they are in order, so that no block is named twice
  pub list-in-order : (j k : ℕ) → j < k → k < r.blocks → word_at list' (8 * j) < word_at list' (8 * k)
  list-in-order j k l h = rw (at_place j (omega arith), at_place k h) (in_order image n j k l (omega (arith, count)))

  -- every bad block is named
  pub list-complete : (p : ℕ) → p < blocks_of part → (reason_at image p ≡ 0 → ⊥) → Entered list' r.blocks p
  list-complete p h bad =
      let t = all_named image n p h bad in
      let i : t.at < r.blocks = let j = t.inside in omega (arith, count) in
      record { at = t.at; inside = i; here = at_place t.at i ∙ t.here }

  -- the bytes behind the last entry are as they were
  pub list-beyond : (i : ℕ) → 8 * r.blocks ≤ i → i < length list → get_or list' i 0 ≡ get_or list i 0
  list-beyond i h l = ap (λ (t : List ℕ). get_or t i 0) list-is ∙ beyond-stored (listed image bads) list i (omega (arith, long)) l
