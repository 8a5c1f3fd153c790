-- What the calls of time and power answer and hand back, by cases: what their proofs cite.
-- Assumes nothing.
use mathlib.Core.Path.{◌≡◌, refl, sym, ap, ◌∙◌}
use mathlib.Core.Bool.{Bool, true, false, cond, not}
use mathlib.Core.List.{List}
use borrow.Author.Tests.{eq-eqb}
use Prim.Native.Nat.{ℕ, zero, suc}
use lib.Dec.{eqb}
use lib.ListN.{length, replicate, length-replicate}
use Rattle.refusals.specs.declared.Refusal.{Refusal}
use Rattle.refusals.specs.Numbers.{number_of}
use Rattle.refusals.proofs.Laws.{refused_by}
use Rattle.parts.specs.Parts.{figures_of}
use Rattle.device.specs.declared.Device.{Device}
use Rattle.device.specs.Chip.{Chip, chip}
use Rattle.device.specs.Device.{sound}
use Rattle.device.specs.declared.Checked.{Checked}
use Rattle.device.specs.Time.{waited, time_number, timed, wait_call, Handed, Rested, WaitForeseen}
use Rattle.device.proofs.Outcomes.{same-checked}

-- a sound record beside an array of its part's length: the next number
pub time-next : (d : Device) (n next : ℕ) → sound d ≡ true → n ≡ (figures_of d.part).bytes → time_number d n next ≡ next
unfolding time_number
time-next d n next s l = rw (s, eq-eqb n (figures_of d.part).bytes l)

-- what refuses with the next number 0 refuses with every other
pub time-kept : (d : Device) (n next : ℕ) (r : Refusal) → number_of r ≡ time_number d n 0 → number_of r ≡ time_number d n next
unfolding time_number
time-kept d n next r e = go (sound d) (eqb n (figures_of d.part).bytes) e
  where
    go : (s l : Bool) → number_of r ≡ cond (not s) 6 (cond (not l) 2 0) → number_of r ≡ cond (not s) 6 (cond (not l) 2 next)
    go false l h = h
    go true false h = h
    go true true h = absurd (refused_by r h)

-- refused: everything as it came
pub handed-kept : (d : Device) (a : List ℕ) (next : Chip) (r : Refusal) {k : ℕ} → number_of r ≡ k → Handed (timed k next (chip d a)) (record { answer = number_of r; device = d }) a
handed-kept d a next r {k} e = rw e (go k (λ z. refused_by r (e ∙ z)))
  where
    go : (k : ℕ) → (k ≡ 0 → ⊥) → Handed (timed k next (chip d a)) (record { answer = k; device = d }) a
    go zero h = absurd (h refl)
    go (suc k) h = record { answer = refl; device = refl; memory = refl }

-- done
pub handed-done : (d : Device) (a : List ℕ) (was : Chip) {next : Chip} {k : ℕ} → 0 ≡ k → chip d a ≡ next → Handed (timed k next was) (record { answer = 0; device = d }) a
handed-done d a was e q =
    rw (← e) (record { answer = refl; device = ap (λ (c : Chip). c.device) q; memory = ap (λ (c : Chip). c.array) q })

-- ---- a wait foreseen

module _ (d : Device) (n t : ℕ) where
  pub foreseen-kept : (r : Refusal) → number_of r ≡ time_number d n 0 → WaitForeseen d n t (record { answer = number_of r; device = d })
  unfolding wait_call
  foreseen-kept r e =
      let p : (xs : List ℕ) → Handed (timed (time_number d n 0) (waited (chip d xs) t) (chip d xs)) (record { answer = number_of r; device = d }) xs = λ xs. handed-kept d xs (waited (chip d xs) t) r e in
      record { answer = λ xs l. rw l (p xs).answer; device = λ xs l. rw l (p xs).device }

  pub foreseen-done : {r : Device} → 0 ≡ time_number d n 0 → Rested d t r → WaitForeseen d n t (record { answer = 0; device = r })
  unfolding wait_call
  foreseen-done {r} e w = record { answer = λ xs l. rw (l, ← e); device = λ xs l. rw (l, ← e) (w xs) }

  -- its promise admits one outcome only
  pub one-wait-foresight : {r s : Checked} → WaitForeseen d n t r → WaitForeseen d n t s → r ≡ s
  one-wait-foresight {r} {s} p q =
      let xs : List ℕ = replicate n 0 in
      let l : length xs ≡ n = length-replicate n 0 in
      same-checked (p.answer xs l ∙ sym (q.answer xs l)) (p.device xs l ∙ sym (q.device xs l))
