-- `slices::fill` meets its contract.
use lib.ListN.{get_or-replicate}
use Rattle.slices.specs.Changed.{put}
use Rattle.slices.proofs.Maps.{map_is}
use Rattle.slices.proofs.fill.Goals as goal

pub returns : goal.returns
returns c = let e = c.fill.ensures.after (λ y h. h) in map_is (put c.args.v) _ _ c.fill.ensures.len (λ i lt. rw e (get_or-replicate _ i _ 0 lt))
