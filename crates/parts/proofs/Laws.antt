-- What holds of every part's figures and of the rule of protected sectors.
-- Assumes nothing.
use mathlib.Core.Path.{◌≡◌, refl, sym, ap, ◌∙◌}
use Prim.Native.Nat.{ℕ, ◌-◌, ◌*◌, ◌/◌, ◌%◌, ◌^◌, ◌≤◌, ◌<◌, min}
use native.Mathlib.Nat.{le_trans, le_of_lt, min-eq_left, one-mul, div-div-eq-div-mul, div-lt_iff_lt-mul}
use native.Mathlib.Omega.{arith}
use lib.Dec.{eqb, lit<, lit≤}
use lib.Pow.{pow_mono, shl_exact}
use borrow.Author.Tests.{ne_eqb}
use Rattle.slices.proofs.Choices.{cond_ind}
use Rattle.parts.specs.Parts.{figures_of, bench, m25p10a, m25p40, m25p32, m25p128, m25pe40, unidentified}
use Rattle.parts.specs.Protected.{protected_of}
use Rattle.parts.specs.declared.Figures.{Figures}

-- what holds of each part's figures, with Read Identification or without, holds of every number's
pub figures-ind : (P : Figures → Type 0) → ((f : Figures) → P f → P (unidentified f)) → P bench → P m25p10a → P m25p40 → P m25p32 → P m25p128 → P m25pe40 → (p : ℕ) → P (figures_of p)
unfolding figures_of
figures-ind P older p0 p1 p2 p3 p4 p6 p =
    cond_ind P (eqb p 1) p1 (cond_ind P (eqb p 2) p2 (cond_ind P (eqb p 3) p3 (cond_ind P (eqb p 4) p4 (cond_ind P (eqb p 5) (older m25p10a p1) (cond_ind P (eqb p 6) p6 p0)))))

-- what every part has; `pages` is how many pages a sector holds, so that a page lies within one sector, and `subsectors` how many subsectors
pub record Sane (f : Figures) : Type 0 where
  pub some : 0 < f.bytes
  pub few : f.bytes ≤ 16777216
  pub bytes-paged : f.bytes % 256 ≡ 0
  pub sectors-some : 0 < f.sectors
  pub sectors-few : f.sectors ≤ 64
  pub sector-some : 0 < f.sector_bytes
  pub whole : f.sectors * f.sector_bytes ≡ f.bytes
  pub pages : ℕ
  pub paged : f.sector_bytes ≡ 256 * pages
  pub subsectors : ℕ
  pub divided : f.sector_bytes ≡ f.subsector_bytes * subsectors
  pub bp-few : f.highest_bp ≤ 7

-- none of which is the identification
still-sane : (f : Figures) → Sane f → Sane (unidentified f)
still-sane f s =
    record { some = s.some; few = s.few; bytes-paged = s.bytes-paged; sectors-some = s.sectors-some; sectors-few = s.sectors-few; sector-some = s.sector-some; whole = s.whole; pages = s.pages; paged = s.paged; subsectors = s.subsectors; divided = s.divided; bp-few = s.bp-few }

pub sane : (p : ℕ) → Sane (figures_of p)
sane p =
    figures-ind Sane still-sane
    (record { some = lit< tt; few = lit≤ tt; bytes-paged = refl; sectors-some = lit< tt; sectors-few = lit≤ tt; sector-some = lit< tt; whole = refl; pages = 4; paged = refl; subsectors = 1; divided = refl; bp-few = lit≤ tt })
    (record { some = lit< tt; few = lit≤ tt; bytes-paged = refl; sectors-some = lit< tt; sectors-few = lit≤ tt; sector-some = lit< tt; whole = refl; pages = 128; paged = refl; subsectors = 1; divided = refl; bp-few = lit≤ tt })
    (record { some = lit< tt; few = lit≤ tt; bytes-paged = refl; sectors-some = lit< tt; sectors-few = lit≤ tt; sector-some = lit< tt; whole = refl; pages = 256; paged = refl; subsectors = 1; divided = refl; bp-few = lit≤ tt })
    (record { some = lit< tt; few = lit≤ tt; bytes-paged = refl; sectors-some = lit< tt; sectors-few = lit≤ tt; sector-some = lit< tt; whole = refl; pages = 256; paged = refl; subsectors = 1; divided = refl; bp-few = lit≤ tt })
    (record { some = lit< tt; few = lit≤ tt; bytes-paged = refl; sectors-some = lit< tt; sectors-few = lit≤ tt; sector-some = lit< tt; whole = refl; pages = 1024; paged = refl; subsectors = 1; divided = refl; bp-few = lit≤ tt })
    (record { some = lit< tt; few = lit≤ tt; bytes-paged = refl; sectors-some = lit< tt; sectors-few = lit≤ tt; sector-some = lit< tt; whole = refl; pages = 256; paged = refl; subsectors = 16; divided = refl; bp-few = lit≤ tt })
    p

-- what has the same quotient by a size has it by a multiple of that size
within : (size n m i a : ℕ) → m ≡ size * n → i / size ≡ a / size → i / m ≡ a / m
within size n m i a e h =
    ap (λ (k : ℕ). i / k) e ∙ sym (div-div-eq-div-mul i size n) ∙ ap (λ (k : ℕ). k / n) h ∙ div-div-eq-div-mul a size n ∙ ap (λ (k : ℕ). a / k) (sym e)

-- a page lies within one sector
pub in-sector : {f : Figures} → Sane f → (i a : ℕ) → i / 256 ≡ a / 256 → i / f.sector_bytes ≡ a / f.sector_bytes
in-sector {f} s i a h = within 256 s.pages f.sector_bytes i a s.paged h

-- and so does a subsector
pub subsector-within : {f : Figures} → Sane f → (i a : ℕ) → i / f.subsector_bytes ≡ a / f.subsector_bytes → i / f.sector_bytes ≡ a / f.sector_bytes
subsector-within {f} s i a h = within f.subsector_bytes s.subsectors f.sector_bytes i a s.divided h

-- every byte of a part stands in one of its sectors
pub sector-within : {f : Figures} → Sane f → (i : ℕ) → i < f.bytes → i / f.sector_bytes < f.sectors
sector-within {f} s i lt = (div-lt_iff_lt-mul s.sector-some).1 (rw s.whole lt)

-- the rule, where BP is not 0
rule : (n bp : ℕ) → ((bp ≡ 0) → ⊥) → protected_of n bp ≡ min n (2 ^ (bp - 1))
unfolding protected_of
rule n bp h = rw (ne_eqb bp 0 h)

-- up to BP 64 the power is a machine number: no bit is shifted out
pub shifted : (n bp : ℕ) → ((bp ≡ 0) → ⊥) → bp ≤ 64 → min n ((1 * 2 ^ (bp - 1)) % 2 ^ 64) ≡ protected_of n bp
shifted n bp h l = rw (rule n bp h, shl_exact 1 (bp - 1) 64 (lit< tt) (omega arith), one-mul (2 ^ (bp - 1)))

-- from BP 65 on the power is more than any machine number, so that every sector is protected
pub above : (n bp : ℕ) → n < 2 ^ 64 → 64 < bp → protected_of n bp ≡ n
above n bp s h = rule n bp (λ e. omega arith) ∙ min-eq_left (le_trans (le_of_lt s) (pow_mono {i = 64} {j = bp - 1} (omega arith)))

-- no more sectors are protected than there are
pub protected-most : (n bp : ℕ) → protected_of n bp ≤ n
unfolding protected_of
protected-most n bp = cond_ind (λ (m : ℕ). m ≤ n) (eqb bp 0) (omega arith) (omega arith)
