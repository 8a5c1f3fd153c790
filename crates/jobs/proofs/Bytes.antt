-- What jobs do to one byte: which of them commute, and what a list of them leaves.
-- Assumes nothing.
use mathlib.Core.Path.{◌≡◌, refl, sym, ap, ◌∙◌}
use mathlib.Core.Bool.{Bool, true, false, cond, ◌&&◌, ◌||◌, false≢true}
use mathlib.Core.List.{List, [], ◌∷◌, ◌++◌}
use Prim.Native.Nat.{ℕ, ◌/◌, ◌%◌, ◌<◌}
use borrow.Author.Tests.{eqb-true, eq-eqb}
use lib.Dec.{eqb}
use lib.ListN.{get_or, drop}
use lib.Bits.{bit_and}
use Rattle.slices.proofs.Choices.{cond_ind}
use Rattle.slices.proofs.Ands.{and-swap}
use Rattle.memory.specs.Memory.{blank, filled, reached, landed, programmed, erased}
use Rattle.memory.proofs.Laws.{programmed-byte}
use Rattle.parts.specs.declared.Figures.{Figures}
use Rattle.parts.specs.Parts.{figures_of}
use Rattle.parts.proofs.Laws.{Sane, sane, in-sector}
use Rattle.device.specs.declared.Device.{Device}
use Rattle.device.specs.Cycles.{page_cycle, erase_cycle, all_cycle, touched}
use Rattle.chip.specs.Table.{row_of, address_of}
use Rattle.chip.specs.Change.{cycle_of, changed, as_it_was}
use Rattle.device.proofs.Registers.{neither}
use Rattle.chip.proofs.Rules.{names_bytes, changed-byte}
use Rattle.jobs.specs.Jobs.{Job, Entry, is_program, is_erase, code, WellFormed, AllFormed}
use Rattle.jobs.specs.Formula.{over, erased_by, reaches, byte_for, programmed_by, ever_erased, after_last_erase, programmed_bytes, ands, ends_as}
use Rattle.jobs.specs.Swap.{names, MaySwap, both_programs, both_erases, different_sectors}
use Rattle.jobs.proofs.Steps.{codes-ind, own, number, effect}

-- ---- a program ands, an erase fills, and each only where the byte lies in a sector that it names

-- what the bytes sent under a code do at place i
pub data Acts (f : Figures) (c : ℕ) (sent : List ℕ) (i : ℕ) : Type 0 where
  ands_in : eqb c 0x02 ≡ true → (p : Bool) (v : ℕ) → (p ≡ true → eqb c 0xC7 || eqb (address_of f sent / f.sector_bytes) (i / f.sector_bytes) ≡ true)
      → ((x : ℕ) → changed (row_of f c).turn f (address_of f sent) sent i x ≡ cond p (bit_and x v) x) → Acts f c sent i
  fills_in : eqb c 0xD8 || eqb c 0xC7 ≡ true → (q : Bool) → (q ≡ true → eqb c 0xC7 || eqb (address_of f sent / f.sector_bytes) (i / f.sector_bytes) ≡ true)
      → ((x : ℕ) → changed (row_of f c).turn f (address_of f sent) sent i x ≡ cond q 255 x) → Acts f c sent i

acts : (f : Figures) → Sane f → (sent : List ℕ) (i c : ℕ) → eqb c 0x02 || (eqb c 0xD8 || eqb c 0xC7) ≡ true → Acts f c sent i
unfolding row_of changed cycle_of page_cycle erase_cycle all_cycle touched programmed erased
acts f s sent i =
    codes-ind (λ (c : ℕ). Acts f c sent i)
    (ands_in refl (eqb (i / 256) (address_of f sent / 256)) (get_or (filled blank (address_of f sent) (drop 4 sent)) (i % 256) 0)
    (λ p. eq-eqb (address_of f sent / f.sector_bytes) (i / f.sector_bytes) (sym (in-sector s i (address_of f sent) (eqb-true (i / 256) (address_of f sent / 256) p))))
    (λ x. refl))
    (fills_in refl (eqb (i / f.sector_bytes) (address_of f sent / f.sector_bytes))
    (λ q. eq-eqb (address_of f sent / f.sector_bytes) (i / f.sector_bytes) (sym (eqb-true (i / f.sector_bytes) (address_of f sent / f.sector_bytes) q)))
    (λ x. refl))
    (fills_in refl true (λ q. refl) (λ x. refl))

-- ---- which jobs commute

two-programs : (p q : Bool) (x s t : ℕ) → cond q (bit_and (cond p (bit_and x s) x) t) (cond p (bit_and x s) x) ≡ cond p (bit_and (cond q (bit_and x t) x) s) (cond q (bit_and x t) x)
two-programs true true x s t = and-swap x s t
two-programs true false x s t = refl
two-programs false true x s t = refl
two-programs false false x s t = refl

two-erases : (p q : Bool) (x : ℕ) → cond q 255 (cond p 255 x) ≡ cond p 255 (cond q 255 x)
two-erases true true x = refl
two-erases true false x = refl
two-erases false true x = refl
two-erases false false x = refl

-- a program and an erase that are never at the same place
apart : (p q : Bool) (x s : ℕ) → (p ≡ true → q ≡ true → ⊥) → cond q 255 (cond p (bit_and x s) x) ≡ cond p (bit_and (cond q 255 x) s) (cond q 255 x)
apart true true x s h = absurd (h refl refl)
apart true false x s h = refl
apart false true x s h = refl
apart false false x s h = refl

-- no code is a program's and an erase's
not-both : (c : ℕ) → eqb c 0x02 ≡ true → eqb c 0xD8 || eqb c 0xC7 ≡ true → ⊥
not-both c p h = let e : c ≡ 0x02 = eqb-true c 0x02 p in false≢true (rw e at h)

-- a program and an erase that may change places name no sector in common
program-erase : (f : Figures) (a b : Job) → MaySwap f a b → is_program a ≡ true → is_erase b ≡ true → (s : ℕ) → names f a s ≡ true → names f b s ≡ true → ⊥
program-erase f a b (both_programs p q) pa eb = absurd (not-both (code b) q eb)
program-erase f a b (both_erases p q) pa eb = absurd (not-both (code a) pa p)
program-erase f a b (different_sectors h) pa eb = h

erase-program : (f : Figures) (a b : Job) → MaySwap f a b → is_erase a ≡ true → is_program b ≡ true → (s : ℕ) → names f a s ≡ true → names f b s ≡ true → ⊥
erase-program f a b (both_programs p q) ea pb = absurd (not-both (code a) p ea)
erase-program f a b (both_erases p q) ea pb = absurd (not-both (code b) pb q)
erase-program f a b (different_sectors h) ea pb = h

-- two changes of byte x, in either order
abbrev Commute : (ℕ → ℕ) → (ℕ → ℕ) → Type 0
Commute g h = (x : ℕ) → h (g x) ≡ g (h x)

own-commute : (f : Figures) (i : ℕ) (a b : Job) → MaySwap f a b → Acts f (code a) a.sent i → Acts f (code b) b.sent i
    → Commute (own f a.sent i) (own f b.sent i)
own-commute f i a b m (ands_in pa p v np ga) (ands_in pb q w nq gb) = λ x. rw (gb (own f a.sent i x), ga x, ga (own f b.sent i x), gb x) (two-programs p q x v w)
own-commute f i a b m (ands_in pa p v np ga) (fills_in eb q nq gb) =
    λ x. rw (gb (own f a.sent i x), ga x, ga (own f b.sent i x), gb x) (apart p q x v (λ y z. program-erase f a b m pa eb (i / f.sector_bytes) (np y) (nq z)))
own-commute f i a b m (fills_in ea p np ga) (ands_in pb q w nq gb) =
    λ x. rw (gb (own f a.sent i x), ga x, ga (own f b.sent i x), gb x) (sym (apart q p x w (λ z y. erase-program f a b m ea pb (i / f.sector_bytes) (np y) (nq z))))
own-commute f i a b m (fills_in ea p np ga) (fills_in eb q nq gb) = λ x. rw (gb (own f a.sent i x), ga x, ga (own f b.sent i x), gb x) (two-erases p q x)

-- executed or not
maybe-commute : (i : ℕ) (s t : Bool) (a b : ℕ → ℕ → ℕ) → Commute (a i) (b i) → Commute (cond s a as_it_was i) (cond t b as_it_was i)
maybe-commute i true true a b h = h
maybe-commute i true false a b h = λ x. refl
maybe-commute i false true a b h = λ x. refl
maybe-commute i false false a b h = λ x. refl

-- two jobs that may change places
pub effects-commute : (d : Device) (a b : Job) → WellFormed a → WellFormed b → MaySwap (figures_of d.part) a b → (i : ℕ) → Commute (effect d a i) (effect d b i)
effects-commute d a b wa wb m i =
    maybe-commute i (eqb (number d a) 0) (eqb (number d b) 0) (own (figures_of d.part) a.sent) (own (figures_of d.part) b.sent)
    (own-commute (figures_of d.part) i a b m (at a wa) (at b wb))
  where
    at : (j : Job) → WellFormed j → Acts (figures_of d.part) (code j) j.sent i
    at j w = acts (figures_of d.part) (sane d.part) j.sent i (code j) w.kind

-- ---- the byte formula

-- byte x at place i after the jobs, one after the other
abbrev pub through : Device → List Job → ℕ → ℕ → ℕ
through d [] i x = x
through d (j ∷ js) i x = through d js i (effect d j i x)

-- the jobs with the numbers that they get
abbrev pub rans : Device → List Job → List Entry
rans d [] = []
rans d (j ∷ js) = record { job = j; number = number d j } ∷ rans d js

one-program : (t : Bool) (x s : ℕ) → cond t (bit_and x s) x ≡ ands x (cond t (s ∷ []) [])
one-program true x s = refl
one-program false x s = refl

-- one job: FF where it is an executed erase over the byte, else the byte anded with that of an executed program that reached it
touched-own : (f : Figures) (sent : List ℕ) (i x : ℕ) → x < 256 → (c : ℕ) → eqb c 0x02 || (eqb c 0xD8 || eqb c 0xC7) ≡ true
    → changed (row_of f c).turn f (address_of f sent) sent i x
    ≡ cond (eqb c 0xC7 || (eqb c 0xD8 && eqb (i / f.sector_bytes) (address_of f sent / f.sector_bytes))) 0xFF
    (ands x
    (cond (eqb c 0x02 && (eqb (i / 256) (address_of f sent / 256) && reached (address_of f sent) (drop 4 sent) (i % 256))) (landed (address_of f sent) (drop 4 sent) (i % 256) 255 ∷ []) []))
unfolding row_of changed cycle_of page_cycle erase_cycle all_cycle touched erased
touched-own f sent i x lt =
    codes-ind
    (λ (c : ℕ).
    changed (row_of f c).turn f (address_of f sent) sent i x
    ≡ cond (eqb c 0xC7 || (eqb c 0xD8 && eqb (i / f.sector_bytes) (address_of f sent / f.sector_bytes))) 0xFF
    (ands x
    (cond (eqb c 0x02 && (eqb (i / 256) (address_of f sent / 256) && reached (address_of f sent) (drop 4 sent) (i % 256))) (landed (address_of f sent) (drop 4 sent) (i % 256) 255 ∷ []) [])))
    (programmed-byte (address_of f sent) (drop 4 sent) i x lt
    ∙ one-program (eqb (i / 256) (address_of f sent / 256) && reached (address_of f sent) (drop 4 sent) (i % 256)) x (landed (address_of f sent) (drop 4 sent) (i % 256) 255))
    refl refl

touched-if : (f : Figures) (t : Bool) (j : Job) → WellFormed j → (i x : ℕ) → x < 256
    → cond t (own f j.sent) as_it_was i x ≡ cond (t && over f i j) 0xFF (ands x (cond (t && reaches f i j) (byte_for f i j ∷ []) []))
touched-if f true j w i x lt = touched-own f j.sent i x lt (code j) w.kind
touched-if f false j w i x lt = refl

-- no job names bytes
names-none : (f : Figures) (c : ℕ) → eqb c 0x02 || (eqb c 0xD8 || eqb c 0xC7) ≡ true → names_bytes (row_of f c).turn ≡ false
unfolding row_of
names-none f = codes-ind (λ (c : ℕ). names_bytes (row_of f c).turn ≡ false) refl refl refl

-- bytes stay bytes
pub effect-byte : (d : Device) (j : Job) → WellFormed j → (i x : ℕ) → x < 256 → effect d j i x < 256
effect-byte d j w i x lt =
    cond_ind (λ (g : ℕ → ℕ → ℕ). g i x < 256) (eqb (number d j) 0) (changed-byte (row_of (figures_of d.part) (code j)).turn (figures_of d.part) (address_of (figures_of d.part) j.sent) j.sent i x (names-none (figures_of d.part) (code j) w.kind) lt) lt

ands-append : (x : ℕ) (bs cs : List ℕ) → ands x (bs ++ cs) ≡ ands (ands x bs) cs
ands-append x [] cs = refl
ands-append x (b ∷ bs) cs = ands-append (bit_and x b) bs cs

-- without an erase every job comes after the last one
all_after : (f : Figures) (i : ℕ) (rs : List Entry) → ever_erased f i rs ≡ false → after_last_erase f i rs ≡ rs
all_after f i [] h = refl
all_after f i (r ∷ rs) h = go (neither (erased_by f i r) (ever_erased f i rs) h)
  where
    go : (erased_by f i r ≡ false) × (ever_erased f i rs ≡ false) → cond (ever_erased f i rs) (after_last_erase f i rs) (cond (erased_by f i r) rs (r ∷ rs)) ≡ r ∷ rs
    go h = rw (h.1, h.0)

-- one job more in front; bs is what it programmed
one_more : (f : Figures) (i : ℕ) (r : Entry) (rs : List Entry) (x : ℕ) (v e : Bool) → (v ≡ false → after_last_erase f i rs ≡ rs)
    → ands (cond v 0xFF (cond e 0xFF (ands x (cond (programmed_by f i r) (byte_for f i r.job ∷ []) [])))) (programmed_bytes f i (after_last_erase f i rs))
    ≡ ands (cond (e || v) 0xFF x) (programmed_bytes f i (cond v (after_last_erase f i rs) (cond e rs (r ∷ rs))))
one_more f i r rs x true true s = refl
one_more f i r rs x true false s = refl
one_more f i r rs x false true s = ap (λ (qs : List Entry). ands 0xFF (programmed_bytes f i qs)) (s refl)
one_more f i r rs x false false s =
    ap (λ (qs : List Entry). ands (ands x (cond (programmed_by f i r) (byte_for f i r.job ∷ []) [])) (programmed_bytes f i qs)) (s refl)
    ∙ sym (ands-append x (cond (programmed_by f i r) (byte_for f i r.job ∷ []) []) (programmed_bytes f i rs))

-- a list of jobs leaves what the formula says
pub ends : (d : Device) (i : ℕ) (js : List Job) → AllFormed js → (x : ℕ) → x < 256 → through d js i x ≡ ends_as (figures_of d.part) i (rans d js) x
ends d i [] w x lt = refl
ends d i (j ∷ js) w x lt =
    ends d i js w.1 (effect d j i x) (effect-byte d j w.0 i x lt)
    ∙ ap (ends_as (figures_of d.part) i (rans d js)) (touched-if (figures_of d.part) (eqb (number d j) 0) j w.0 i x lt)
    ∙ one_more (figures_of d.part) i (record { job = j; number = number d j }) (rans d js) x (ever_erased (figures_of d.part) i (rans d js))
    (erased_by (figures_of d.part) i (record { job = j; number = number d j })) (all_after (figures_of d.part) i (rans d js))
