-- A promise that is an equation to a definition admits one outcome only.
-- Assumes nothing.
use mathlib.Core.Path.{◌≡◌, sym, ◌∙◌}

-- two outcomes that both equal what the promise names are equal
pub one-outcome {ℓ} : {A : Type ℓ} {named x y : A} → x ≡ named → y ≡ named → x ≡ y
one-outcome p q = p ∙ sym q
