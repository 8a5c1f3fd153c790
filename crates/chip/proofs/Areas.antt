-- Where a cycle writes: what it leaves of a byte in another sector, whole or cut, and what the test of 17 tells of it.
-- Assumes nothing.
use mathlib.Core.Path.{◌≡◌, refl, sym, ◌∙◌}
use mathlib.Core.Bool.{Bool, true, false, cond, true≢false}
use mathlib.Core.List.{List}
use Prim.Native.Nat.{ℕ, ◌/◌}
use borrow.Author.Tests.{eqb-true, eq-eqb}
use lib.Dec.{eqb}
use Rattle.slices.proofs.Choices.{cond-case}
use Rattle.memory.specs.Memory.{programmed, replaced, erased, cut_page, cut_write, cut_sector}
use Rattle.parts.specs.declared.Figures.{Figures}
use Rattle.parts.proofs.Laws.{Sane, in-sector, subsector-within}
use Rattle.device.specs.declared.cycle.Kind.{Kind}
use Rattle.device.specs.declared.cycle.Kind.TheVariants.{Idle, Page, Sector, All, Settings, PageWrite, PageErase, Subsector}
use Rattle.device.specs.Cycles.{no_cycle, page_cycle, write_cycle, erase_cycle, all_cycle, settings_cycle, touched_in, cut_in}
use Rattle.chip.specs.Answers.{by_area}
use Rattle.chip.specs.Change.{cycle_of}

-- what does not hold of where a kind writes, where less does
pub area-less : (k : Kind) {a b c e : Bool} → (a ≡ false → c ≡ false) → (b ≡ false → e ≡ false) → by_area k a b ≡ false → by_area k c e ≡ false
area-less Idle p q h = refl
area-less Page p q h = p h
area-less Sector p q h = p h
area-less All p q h = q h
area-less Settings p q h = refl
area-less PageWrite p q h = p h
area-less PageErase p q h = p h
area-less Subsector p q h = p h

-- the cycle that an instruction starts writes where its kind does
pub cycle-area : (k : Kind) (f : Figures) (at : ℕ) (sent : List ℕ) (here : ℕ → Bool) (all : Bool) → by_area (cycle_of k f at sent).kind (here (cycle_of k f at sent).address) all ≡ by_area k (here at) all
unfolding cycle_of no_cycle page_cycle write_cycle erase_cycle all_cycle settings_cycle
cycle-area Idle f at sent here all = refl
cycle-area Page f at sent here all = refl
cycle-area Sector f at sent here all = refl
cycle-area All f at sent here all = refl
cycle-area Settings f at sent here all = refl
cycle-area PageWrite f at sent here all = refl
cycle-area PageErase f at sent here all = refl
cycle-area Subsector f at sent here all = refl

-- byte i, and a cycle at an address of another sector
module _ {f : Figures} (s : Sane f) (at : ℕ) (slots : List ℕ) (n i : ℕ) where
  -- whether the two stand in one sector
  abbrev pub together : Bool
  together = eqb (i / f.sector_bytes) (at / f.sector_bytes)

  -- what is done in a part of the address's sector alone is not done to it
  elsewhere : (y x : ℕ) (b : Bool) → (b ≡ true → i / f.sector_bytes ≡ at / f.sector_bytes) → together ≡ false → cond b y x ≡ x
  elsewhere y x b e h = cond-case (λ (z : ℕ). z ≡ x) b (λ t. absurd (true≢false (sym (eq-eqb _ _ (e t)) ∙ h))) (λ t. refl)

  page-elsewhere : (y x : ℕ) → together ≡ false → cond (eqb (i / 256) (at / 256)) y x ≡ x
  page-elsewhere y x h = elsewhere y x (eqb (i / 256) (at / 256)) (λ t. in-sector s i at (eqb-true (i / 256) (at / 256) t)) h

  sector-elsewhere : (y x : ℕ) → together ≡ false → cond (eqb (i / f.sector_bytes) (at / f.sector_bytes)) y x ≡ x
  sector-elsewhere y x h = elsewhere y x together (eqb-true (i / f.sector_bytes) (at / f.sector_bytes)) h

  subsector-elsewhere : (y x : ℕ) → together ≡ false → cond (eqb (i / f.subsector_bytes) (at / f.subsector_bytes)) y x ≡ x
  subsector-elsewhere y x h =
      elsewhere y x (eqb (i / f.subsector_bytes) (at / f.subsector_bytes)) (λ t. subsector-within s i at (eqb-true (i / f.subsector_bytes) (at / f.subsector_bytes) t)) h

  -- THEOREM: a completed cycle leaves every byte of a sector in which it does not write
  pub area-spares : (k : Kind) (x : ℕ) → by_area k together true ≡ false → touched_in k f at slots n i x ≡ x
  unfolding programmed replaced erased
  area-spares Idle x h = refl
  area-spares Page x h = page-elsewhere _ x h
  area-spares Sector x h = sector-elsewhere _ x h
  area-spares All x h = absurd (true≢false h)
  area-spares Settings x h = refl
  area-spares PageWrite x h = page-elsewhere _ x h
  area-spares PageErase x h = page-elsewhere _ x h
  area-spares Subsector x h = subsector-elsewhere _ x h

  -- THEOREM: so does a cut one, whatever the mask
  pub cut-area-spares : (mask : List ℕ) (k : Kind) (x : ℕ) → by_area k together true ≡ false → cut_in k f at slots n mask i x ≡ x
  unfolding cut_page cut_write cut_sector
  cut-area-spares mask Idle x h = refl
  cut-area-spares mask Page x h = page-elsewhere _ x h
  cut-area-spares mask Sector x h = sector-elsewhere _ x h
  cut-area-spares mask All x h = absurd (true≢false h)
  cut-area-spares mask Settings x h = refl
  cut-area-spares mask PageWrite x h = page-elsewhere _ x h
  cut-area-spares mask PageErase x h = page-elsewhere _ x h
  cut-area-spares mask Subsector x h = subsector-elsewhere _ x h
