-- `slices::bytes_at` meets its contract.
use mathlib.Core.Path.{ap, ◌∙◌}
use Prim.Native.Nat.{ℕ}
use mathlib.Core.List.{List}
use lib.ListN.{get_or, replicate}
use Rattle.slices.specs.Changed.{map_at}
use Rattle.slices.proofs.Stores.{first-read}
use Rattle.slices.proofs.bytes_at.Goals as goal

pub returns-in-Some : goal.returns-in-Some
returns-in-Some g c =
    let first = c.in-Some.ensures.cases in
    first-read _ _ first.enough first.same ∙ ap (λ (t : List ℕ). map_at (get_or t) (replicate g.row.N 0)) c.after-rest.ensures
