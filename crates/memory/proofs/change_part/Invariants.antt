use mathlib.Core.Path.{◌≡◌}
use Prim.Native.Nat.{ℕ, ◌+◌, ◌<◌}
use lib.ListN.{length}
use Rattle.slices.specs.Changed.{map_at, window}
use Rattle.memory.proofs.change_part.Given as goal

abbrev pub invariant-loop-k : goal.invariant-loop-k
invariant-loop-k g l =
    (f : ℕ → ℕ → ℕ) → ((i x r : ℕ) → i < length l.fn.array → x < 256 → goal.F-post g l.change i x r → r ≡ f i x) → l.part ≡ map_at (window 0 l.k (λ k x. f (l.start + k) x)) l.initial.part
