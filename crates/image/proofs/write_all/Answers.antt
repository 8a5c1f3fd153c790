-- `image::write_all` meets its contract.
use Rattle.std.proofs.Common.{◌≡◌, ◌+◌, ◌*◌, ◌<◌, ◌≤◌, ℕ, List, length, drop, sym, ap, ◌∙◌, arith, length-drop}
use Rattle.slices.specs.Changed.{map_at, window}
use Rattle.slices.proofs.Windows.{window-start, window-end}
use Rattle.image.specs.Blocks.{block_of, filled_up}
use Rattle.image.specs.Images.{part_of, imaged}
use Rattle.image.proofs.Blocks.{length-block}
use Rattle.image.proofs.Parts.{part-put, chunk-next}
use Rattle.image.proofs.write_all.Goals as goal

pub loop-place-init : goal.loop-place-init
loop-place-init c =
    let array = c.args.array.now in
    let image = c.args.image.now in
    let none : c.into_iter-place-iterator.result.count ≡ 0 = cc in
    record {
      size = cc;
      rest = let all : c.into_iter-place-iterator.result.iter.rest.now ≡ array = cc in all ∙ ap (λ (k : ℕ). drop (k * 504) array) (sym none);
      written = window-start 0 _ _ ∙ ap (λ (k : ℕ). map_at (window 0 (k * 512) (imaged array)) image) (sym none);
    }

pub loop-place-preserved : goal.loop-place-preserved
loop-place-preserved c =
    let p = c.in-Some.place in
    let array = c.args.array.now in
    let i = c.loop-place.invariant in
    let s = c.in-Some.ensures.steps in
    let at : c.loop-place.place-iterator.count ≡ p = sym s.1 in
    let next : c.next.new.self.count ≡ p + 1 = s.2 ∙ ap (λ (k : ℕ). k + 1) at in
    let rest : c.loop-place.place-iterator.iter.rest.now ≡ drop (p * 504) array = i.rest ∙ ap (λ (k : ℕ). drop (k * 504) array) at in
    let size : c.loop-place.place-iterator.iter.size ≡ 504 = i.size in
    let cut = chunk-next 504 p array c.in-Some.part.now c.next.new.self.iter.rest.now (sym rest ∙ s.0.1.0) (s.0.1.1 ∙ rw (size, rest)) in
    let some : 0 < length (drop (p * 504) array) = rw (← rest) s.0.1.2 in
    let more : p * 504 < length array = omega (arith, length-drop (p * 504) array) in
    let fit : p * 512 + 512 ≤ length c.args.image.now = omega arith in
    record {
      size = s.0.0 ∙ size;
      rest = cut.1 ∙ ap (λ (k : ℕ). drop (k * 504) array) (sym next);
      written =
          rw next
          (part-put 512 p (λ k. block_of k (filled_up (part_of 504 k array))) c.args.image.now fit (length-block p _)
          (i.written ∙ ap (λ (k : ℕ). map_at (window 0 (k * 512) (imaged array)) c.args.image.now) at)
          (c.write_block.ensures ∙ ap (λ (t : List ℕ). block_of p (filled_up t)) cut.0));
    }

pub returns : goal.returns
returns c =
    let n = c.loop-place.place-iterator.count in
    let array = c.args.array.now in
    let i = c.loop-place.invariant in
    let none : length (drop (n * 504) array) ≡ 0 = rw (← i.rest) c.in-None.ensures.steps.0.1.0 in
    let all : length array ≤ n * 504 = omega (arith, length-drop (n * 504) array) in
    i.written ∙ window-end _ _ _ (omega arith)
