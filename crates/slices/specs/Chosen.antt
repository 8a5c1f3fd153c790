-- What a number chooses.
use Rattle.std.specs.Prelude.{ℕ, zero, suc}

-- only a number of 0 gives what is next; every other keeps what was
abbrev pub on_zero : {A : Type 0} → ℕ → A → A → A
on_zero zero next kept = next
on_zero (suc k) next kept = kept
