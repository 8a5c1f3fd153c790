-- Laws of programs and erases that were cut: as the code makes them, and what they do to a byte.
-- Assumes nothing.
use mathlib.Core.Path.{◌≡◌, ap, ◌∙◌}
use mathlib.Core.Bool.{Bool, true, false, cond}
use mathlib.Core.List.{List}
use Prim.Native.Nat.{ℕ, ◌+◌, ◌/◌, ◌%◌, ◌<◌}
use native.Mathlib.Omega.{arith}
use lib.ListN.{length, get_or, replicate, get_or-replicate}
use lib.Bits.{bit_and, bit_or, or_zero_r, and_self}
use lib.Dec.{eqb}
use Rattle.slices.specs.Changed.{map_at, window}
use Rattle.slices.proofs.Maps.{map-agree, get_or-map}
use Rattle.slices.proofs.Windows.{window-end}
use Rattle.slices.proofs.Choices.{cond_ind}
use Rattle.slices.proofs.Ands.{and-or, and-less, and-more, or_ff}
use Rattle.memory.specs.Memory.{programmed, erased, ored, cut_page, cut_sector}

-- ---- as the code makes it

-- a cut program is a program of the slots or the mask
pub page-cut : (at : ℕ) (slots mask : List ℕ) {reached : List ℕ} (xs : List ℕ) → length slots ≡ 256 → reached ≡ map_at (window 0 (0 + 256) (ored mask)) slots
    → map_at (programmed at reached) xs ≡ map_at (cut_page at slots mask) xs
unfolding programmed cut_page
page-cut at slots mask {reached} xs l e =
    let w : reached ≡ map_at (ored mask) slots = e ∙ window-end 256 (ored mask) slots (omega arith) in
    map-agree _ _ xs
    (λ i lt.
    let k : i % 256 < length slots = omega arith in
    let s : get_or reached (i % 256) 0 ≡ bit_or (get_or slots (i % 256) 0) (get_or mask (i % 256 % 256) 0) = ap (λ (t : List ℕ). get_or t (i % 256) 0) w ∙ get_or-map (ored mask) slots (i % 256) 0 k in
    let m : i % 256 % 256 ≡ i % 256 = omega arith in
    rw (s, m))

-- ---- what they do to a byte

-- with a mask of 00 a cut program is the whole program; with a mask of FF a cut erase is the whole erase
pub page-whole : (at : ℕ) (slots : List ℕ) (i x : ℕ) → cut_page at slots (replicate 256 0) i x ≡ programmed at slots i x
unfolding cut_page programmed
page-whole at slots i x = rw (get_or-replicate {A = ℕ} 256 (i % 256) 0 0 (omega arith), or_zero_r (get_or slots (i % 256) 0))

pub ored-whole : (i x : ℕ) → x < 256 → ored (replicate 256 255) i x ≡ 255
ored-whole i x h = rw (get_or-replicate {A = ℕ} 256 (i % 256) 255 0 (omega arith)) (or_ff x h)

pub sector-whole : (size at i x : ℕ) → x < 256 → cut_sector size at (replicate 256 255) i x ≡ erased size at i x
unfolding cut_sector erased
sector-whole size at i x h = rw (ored-whole i x h)

-- a cut program clears bits only, and none that the whole program keeps
pub page-clears : (at : ℕ) (slots mask : List ℕ) (i x : ℕ) → bit_and (cut_page at slots mask i x) x ≡ cut_page at slots mask i x
unfolding cut_page
page-clears at slots mask i x = cond_ind (λ (y : ℕ). bit_and y x ≡ y) (eqb (i / 256) (at / 256)) (and-less x _) (and_self x)

pub page-keeps : (at : ℕ) (slots mask : List ℕ) (i x : ℕ) → bit_and (programmed at slots i x) (cut_page at slots mask i x) ≡ programmed at slots i x
unfolding cut_page programmed
page-keeps at slots mask i x = go (eqb (i / 256) (at / 256))
  where
    s : ℕ
    s = get_or slots (i % 256) 0

    m : ℕ
    m = get_or mask (i % 256) 0

    go : (b : Bool) → bit_and (cond b (bit_and x s) x) (cond b (bit_and x (bit_or s m)) x) ≡ cond b (bit_and x s) x
    go true = and-more x s m
    go false = and_self x

-- a cut erase sets bits only
pub ored-sets : (mask : List ℕ) (i x : ℕ) → bit_and x (ored mask i x) ≡ x
ored-sets mask i x = and-or x (get_or mask (i % 256) 0)

pub sector-sets : (size at : ℕ) (mask : List ℕ) (i x : ℕ) → bit_and x (cut_sector size at mask i x) ≡ x
unfolding cut_sector
sector-sets size at mask i x = cond_ind (λ (y : ℕ). bit_and x y ≡ x) (eqb (i / size) (at / size)) (ored-sets mask i x) (and_self x)
