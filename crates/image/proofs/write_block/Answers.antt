-- `image::write_block` meets its contract.
use Rattle.std.proofs.Common.{◌<◌, ℕ, List, take, ap, ◌∙◌, arith}
use Rattle.slices.specs.Changed.{map_at, stored}
use Rattle.image.proofs.Blocks.{written_is, half-bytes}
use Rattle.image.proofs.write_block.Goals as goal

pub returns : goal.returns
returns c =
    let x = c.args in
    let s = c.sums_of-sums.result in
    let first : s.first < 65536 = omega arith in
    let second : s.second < 65536 = omega arith in
    written_is x.number x.part.now x.block.now _ _ c.requires c.filled_up-bytes.ensures c.sums_of-sums.ensures
    (c.store.ensures ∙ ap (λ (t : List ℕ). map_at (stored 0 (take 4 t)) x.block.now) c.to_le_bytes.ensures)
    (c.store-2.ensures ∙ ap (λ (t : List ℕ). map_at (stored 4 t) c.store.new.out) (c.to_le_bytes-2.ensures ∙ half-bytes s.first first))
    (c.store-3.ensures ∙ ap (λ (t : List ℕ). map_at (stored 6 t) c.store-2.new.out) (c.to_le_bytes-3.ensures ∙ half-bytes s.second second))
    c.store-4.ensures
