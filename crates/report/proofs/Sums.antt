-- The numbers of lists of transactions: of two lists one behind the other they are the sums, and those of an event are few.
-- Assumes nothing.
use mathlib.Core.Path.{◌≡◌, refl, sym, ap, ◌∙◌}
use mathlib.Core.Bool.{Bool, true, false, cond, ◌&&◌}
use mathlib.Core.List.{List, [], ◌∷◌, ◌++◌}
use Prim.Native.Nat.{ℕ, ◌+◌, ◌-◌, ◌≤◌}
use native.Mathlib.Omega.{arith}
use lib.Dec.{eqb, ltb}
use lib.ListN.{length, replicate}
use Rattle.slices.proofs.Choices.{cond_ind}
use Rattle.parts.specs.declared.Figures.{Figures}
use Rattle.parts.specs.Parts.{figures_of}
use Rattle.chip.specs.Table.{sector_in}
use Rattle.chip.specs.Outcome.{transacted}
use Rattle.chip.specs.Events.{Chip, Event, sends, waits, starts, loses, Reply, sent, after, reply, run, story}
use Rattle.chip.proofs.Events.{after-part}
use Rattle.batch.specs.Batch.{room_of}
use Rattle.report.specs.Totals.{Dealt, dealt, sum_over, code_of, number_of, was_executed, was_program, executed_as, answered_as, driven_in, programs_in, total_of}
use Rattle.report.specs.Report.{dealt_by, gained}
use Rattle.report.proofs.Foresee.{total-none, count-few}

-- ---- two lists

pub sum-append : (f : Dealt → ℕ) (xs ys : List Dealt) → sum_over f (xs ++ ys) ≡ sum_over f xs + sum_over f ys
sum-append f [] ys = omega arith
sum-append f (x ∷ xs) ys = omega (arith, sum-append f xs ys)

cond-add : (b : Bool) (x y z w : ℕ) → cond b (x + y) (z + w) ≡ cond b x z + cond b y w
cond-add true x y z w = refl
cond-add false x y z w = refl

pub total-append : (f : Figures) (xs ys : List Dealt) (i : ℕ) → total_of f (xs ++ ys) i ≡ total_of f xs i + total_of f ys i
total-append f xs ys i =
    rw (sum-append _ xs ys, sum-append _ xs ys, sum-append _ xs ys, sum-append _ xs ys)
    (rw (
      cond-add (ltb i 289) (driven_in xs) (driven_in ys) (programs_in f (i - 289) xs) (programs_in f (i - 289) ys),
      cond-add (ltb i 288) (answered_as (i - 256) xs) (answered_as (i - 256) ys) _ _,
      cond-add (ltb i 256) (executed_as i xs) (executed_as i ys) _ _,
    ))

-- one event more in front
pub dealt-more : (e : Event) (es : List Event) (r : Reply) (rs : List Reply) → dealt (e ∷ es) (r ∷ rs) ≡ dealt (e ∷ []) (r ∷ []) ++ dealt es rs
dealt-more (sends bytes p w) es r rs = refl
dealt-more (waits t) es r rs = refl
dealt-more starts es r rs = refl
dealt-more (loses mask told) es r rs = refl

pub total-more : (f : Figures) (e : Event) (es : List Event) (c : Chip) (i : ℕ) → total_of f (dealt_by (e ∷ es) c) i ≡ total_of f (dealt (e ∷ []) (reply e c ∷ [])) i + total_of f (dealt_by es (after e c)) i
total-more f e es c i = ap (λ (ts : List Dealt). total_of f ts i) (dealt-more e es (reply e c) (story es (after e c))) ∙ total-append f (dealt (e ∷ []) (reply e c ∷ [])) (dealt_by es (after e c)) i

-- ---- one event

one-few : (n : ℕ) (b : Bool) → cond b 1 0 + 0 ≤ 1 + n
one-few n true = omega arith
one-few n false = omega arith

-- it gives at most one, or its driven bytes, to each number
pub event-few : (f : Figures) (e : Event) (c : Chip) (i : ℕ) → total_of f (dealt (e ∷ []) (reply e c ∷ [])) i ≤ 1 + room_of e
unfolding sent
event-few f (sends bytes p w) c i =
    let n = length bytes in
    let t : Dealt = record { sent = bytes; answer = (transacted c.device c.array bytes p w (replicate n 0)).answer } in
    let d : driven_in (t ∷ []) ≤ 1 + n = omega (arith, count-few c.device c.array bytes p w (replicate n 0)) in
    cond_ind P (ltb i 256) (one-few n (was_executed t && eqb (code_of t) i))
    (cond_ind P (ltb i 288) (one-few n (eqb (number_of t) (i - 256)))
    (cond_ind P (ltb i 289) d (one-few n (was_program t && eqb (sector_in f bytes) (i - 289)))))
  where
    P : ℕ → Type 0
    P n = n ≤ 1 + length bytes
event-few f (waits t) c i = omega (arith, total-none f i)
event-few f starts c i = omega (arith, total-none f i)
event-few f (loses mask told) c i = omega (arith, total-none f i)

-- ---- two lists of events

pub dealt-append : (es fs : List Event) (c : Chip) → dealt_by (es ++ fs) c ≡ dealt_by es c ++ dealt_by fs (run es c)
dealt-append [] fs c = refl
dealt-append (sends bytes p w ∷ es) fs c = ap (λ (ts : List Dealt). record { sent = bytes; answer = (sent c bytes p w).answer } ∷ ts) (dealt-append es fs (after (sends bytes p w) c))
dealt-append (waits t ∷ es) fs c = dealt-append es fs (after (waits t) c)
dealt-append (starts ∷ es) fs c = dealt-append es fs (after starts c)
dealt-append (loses mask told ∷ es) fs c = dealt-append es fs (after (loses mask told) c)

run-part : (es : List Event) (c : Chip) → (run es c).device.part ≡ c.device.part
run-part [] c = refl
run-part (e ∷ es) c = run-part es (after e c) ∙ after-part e c

-- THEOREM: two lists, the second from the chip that the first left, give the sums of both
pub gained-both : (es fs : List Event) (c : Chip) (i : ℕ) → gained (es ++ fs) c i ≡ gained es c i + gained fs (run es c) i
gained-both es fs c i =
    let f = figures_of c.device.part in
    ap (λ (ts : List Dealt). total_of f ts i) (dealt-append es fs c)
    ∙ (total-append f (dealt_by es c) (dealt_by fs (run es c)) i ∙ ap (λ (p : ℕ). gained es c i + total_of (figures_of p) (dealt_by fs (run es c)) i) (sym (run-part es c)))
