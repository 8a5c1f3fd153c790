-- Calls beside all 524,288 bytes of an M25PE40: the bytes that are asked for, by the law of `map_at`; the array itself is never written out.
-- Assumes nothing.
use Rattle.std.proofs.Common.{◌≡◌, refl, ap, ◌∙◌, Bool, true, false, ◌&&◌, List, [], ◌∷◌, ℕ, ◌<◌, eqb, ltb, length, get_or, replicate}
use Rattle.std.proofs.lemmas.Bool.{false≢true}
use borrow.Author.Tests.{ltb-true}
use Rattle.std.proofs.lemmas.List.{length-replicate, get_or-replicate}
use Rattle.slices.specs.Changed.{map_at}
use Rattle.slices.proofs.Maps.{get_or-map}
use Rattle.parts.specs.Parts.{figures_of}
use Rattle.device.specs.Chip.{Chip, chip}
use Rattle.device.specs.declared.Device.{Device}
use Rattle.device.specs.Cycles.{touched, cut}
use Rattle.chip.specs.Worked.{Step, tells, holds, sees}

-- the bytes that steps ask for, where every byte was A0 and byte i became `f i`
abbrev pub agrees : (ℕ → ℕ → ℕ) → List Step → Bool
agrees f [] = true
agrees f (tells e a r ∷ ss) = false
agrees f (holds i x ∷ ss) = ltb i 524288 && (eqb (f i 0xA0) x && agrees f ss)

and-true : (a b : Bool) → a && b ≡ true → (a ≡ true) × (b ≡ true)
and-true true b e = (refl, e)
and-true false b e = absurd (false≢true e)

module _ (xs : List ℕ) (long : length xs ≡ 524288) (even : (i : ℕ) → i < 524288 → get_or xs i 0 ≡ 0xA0) where
  one : (f : ℕ → ℕ → ℕ) (i x : ℕ) → ltb i 524288 ≡ true → eqb (f i 0xA0) x ≡ true → eqb (get_or (map_at f xs) i 0) x ≡ true
  one f i x b e =
      let h : i < 524288 = ltb-true i 524288 b in
      ap (λ (y : ℕ). eqb y x) (get_or-map f xs i 0 (rw long h) ∙ ap (f i) (even i h)) ∙ e

  pub seen-so : (f : ℕ → ℕ → ℕ) (d : Device) (ss : List Step) → agrees f ss ≡ true → sees ss (chip d (map_at f xs)) ≡ true
  unfolding sees
  seen-so f d [] e = refl
  seen-so f d (tells a b c ∷ ss) e = absurd (false≢true e)
  seen-so f d (holds i x ∷ ss) e =
      let p = and-true (ltb i 524288) _ e in
      let q = and-true (eqb (f i 0xA0) x) _ p.1 in
      rw (one f i x p.0 q.0) (seen-so f d ss q.1)
