-- `slices::fill_part` meets its contract.
use mathlib.Core.Path.{◌∙◌}
use Prim.Native.Nat.{◌+◌, ◌≤◌}
use native.Mathlib.Omega.{arith}
use lib.ListN.{length}
use Rattle.slices.specs.Changed.{put}
use Rattle.slices.proofs.Windows.{window-clamp}
use Rattle.slices.proofs.Parts.{lent_map}
use Rattle.slices.proofs.fill_part.Goals as goal

pub returns : goal.returns
returns c =
    let a = c.args in
    let n = c.min in
    let start = c.min-start in
    let h : start.result + n.result ≤ length a.s.now = omega arith in
    lent_map start.result (start.result + n.result) a.s.now (omega arith) h (put a.v) c.fill.ensures
    ∙ window-clamp a.from a.count start.result n.result _ _ start.ensures n.ensures
