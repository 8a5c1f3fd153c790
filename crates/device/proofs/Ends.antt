-- Power-up and power loss: power-up is a loss that completed the cycle, a second loss changes nothing more, and what a cut does to a byte.
-- Assumes nothing.
use mathlib.Core.Path.{◌≡◌, refl, sym, ap}
use mathlib.Core.Bool.{Bool, true, false, ◌&&◌, true≢false}
use mathlib.Core.List.{List}
use Prim.Native.Nat.{ℕ, ◌/◌, ◌%◌, ◌<◌}
use lib.Dec.{eqb, ltb}
use lib.ListN.{length, get_or, replicate}
use lib.Bits.{bit_and, and_self}
use Rattle.slices.specs.Changed.{map_at}
use Rattle.slices.proofs.Choices.{cond_ind, both}
use Rattle.slices.proofs.Maps.{map-agree, map_same, length-map}
use Rattle.memory.proofs.Cuts.{page-whole, ored-whole, sector-whole, page-clears, page-keeps, ored-sets, sector-sets}
use Rattle.memory.specs.Memory.{named, ored, replaced, cut_write}
use Rattle.memory.proofs.Writes.{unnamed-stays, unnamed-cut, write-sets}
use Rattle.parts.specs.declared.Figures.{Figures}
use Rattle.parts.specs.Parts.{figures_of}
use Rattle.device.specs.declared.Mode.{Mode}
use Rattle.device.specs.declared.Mode.TheVariants.{Standby, Busy, Deep}
use Rattle.device.specs.declared.cycle.Kind.{Kind}
use Rattle.device.specs.declared.cycle.Kind.TheVariants.{Idle, Page, Sector, All, Settings, PageWrite, PageErase, Subsector}
use Rattle.device.specs.declared.cycle.Cycle.{Cycle}
use Rattle.device.specs.declared.Device.{Device}
use Rattle.device.specs.Chip.{Chip, chip}
use Rattle.device.specs.Cycles.{uses_of, no_cycle, touched_in, touched, cut_in, cut}
use Rattle.device.specs.Locks.{no_locks}
use Rattle.device.specs.Device.{moded, remembering, locked, ended}
use Rattle.device.specs.Time.{after_cycle, finished, unlocked, powered_up, lost, waited_in, waited}

-- ---- the record afterwards

-- no cycle is remembered, and the chip is in standby with its latch reset
pub record Rested (d : Device) : Type 0 where
  pub standby : d.mode ≡ Standby
  pub latch : d.latch ≡ false
  pub cycle : d.cycle ≡ no_cycle

-- THEOREM: so it is after a completed cycle
pub over-rests : (d : Device) (told : Bool) → Rested (after_cycle d told)
unfolding after_cycle ended moded remembering
over-rests d told = record { standby = refl; latch = refl; cycle = refl }

-- THEOREM: and after a power-up and a loss, with all lock registers zero
pub powered-rests : (c : Chip) → Rested (powered_up c).device × ((powered_up c).device.locks ≡ no_locks)
unfolding powered_up finished unlocked locked after_cycle ended moded remembering
powered-rests c = (record { standby = refl; latch = refl; cycle = refl }, refl)

pub lost-rests : (c : Chip) (mask : List ℕ) (told : Bool) → Rested (lost c mask told).device × ((lost c mask told).device.locks ≡ no_locks)
unfolding lost unlocked locked after_cycle ended moded remembering
lost-rests c mask told = (record { standby = refl; latch = refl; cycle = refl }, refl)

-- ---- power-up and loss

-- the mask with which a loss completes a cycle: 00 for a program, FF for an erase; for the others none is looked at, but for a page write, which no one mask completes
abbrev pub whole_mask : Kind → List ℕ
whole_mask Idle = replicate 256 0
whole_mask Page = replicate 256 0
whole_mask Sector = replicate 256 255
whole_mask All = replicate 256 255
whole_mask Settings = replicate 256 0
whole_mask PageWrite = replicate 256 0
whole_mask PageErase = replicate 256 255
whole_mask Subsector = replicate 256 255

-- THEOREM: power-up, on an array of bytes and in any cycle but a page write, is the loss with that mask and yes
pub power-up-is-loss : (c : Chip) → (uses_of c.device.cycle.kind).named ≡ false → ((i : ℕ) → i < length c.array → get_or c.array i 0 < 256) → powered_up c ≡ lost c (whole_mask c.device.cycle.kind) true
unfolding powered_up finished lost touched cut
power-up-is-loss c other bytes =
    ap (chip (unlocked (after_cycle c.device true))) (map-agree _ _ c.array (λ i lt. go c.device.cycle.kind other i (get_or c.array i 0) (bytes i lt)))
  where
    f : Figures
    f = figures_of c.device.part

    r : Cycle
    r = c.device.cycle

    go : (k : Kind) → (uses_of k).named ≡ false → (i x : ℕ) → x < 256 → touched_in k f r.address r.slots r.named i x ≡ cut_in k f r.address r.slots r.named (whole_mask k) i x
    go Idle e i x h = refl
    go Page e i x h = sym (page-whole r.address r.slots i x)
    go Sector e i x h = sym (sector-whole f.sector_bytes r.address i x h)
    go All e i x h = sym (ored-whole i x h)
    go Settings e i x h = refl
    go PageWrite e i x h = absurd (true≢false e)
    go PageErase e i x h = sym (sector-whole 256 r.address i x h)
    go Subsector e i x h = sym (sector-whole f.subsector_bytes r.address i x h)

-- THEOREM: a second loss, with whatever mask and word, changes nothing more
pub loss-twice : (c : Chip) (m n : List ℕ) (x y : Bool) → lost (lost c m x) n y ≡ lost c m x
unfolding lost cut unlocked locked after_cycle ended moded remembering no_cycle
loss-twice c m n x y = ap (chip (unlocked (after_cycle c.device x))) (map_same _)

-- outside a cycle the array stays
pub touched_none : (f : Figures) (xs : List ℕ) → map_at (touched f no_cycle) xs ≡ xs
unfolding touched no_cycle
touched_none f xs = map_same xs

pub cut-none : (f : Figures) (mask xs : List ℕ) → map_at (cut f no_cycle mask) xs ≡ xs
unfolding cut no_cycle
cut-none f mask xs = map_same xs

-- ---- what a cut does to byte x at place i

-- THEOREM: a cut program only clears bits, and none that the whole program would keep
pub cut-clears : (f : Figures) (c : Cycle) (mask : List ℕ) (i x : ℕ) → c.kind ≡ Page → bit_and (cut f c mask i x) x ≡ cut f c mask i x
unfolding cut
cut-clears f c mask i x e = rw e (page-clears c.address c.slots mask i x)

pub cut_keeps : (f : Figures) (c : Cycle) (mask : List ℕ) (i x : ℕ) → c.kind ≡ Page → bit_and (touched f c i x) (cut f c mask i x) ≡ touched f c i x
unfolding cut touched
cut_keeps f c mask i x e = rw e (page-keeps c.address c.slots mask i x)

-- THEOREM: a cut of any other cycle, of an erase or a page write, only sets bits
pub cut-sets : (f : Figures) (c : Cycle) (mask : List ℕ) (i x : ℕ) → (c.kind ≡ Page → ⊥) → bit_and x (cut f c mask i x) ≡ x
unfolding cut
cut-sets f c mask i x n = go c.kind n
  where
    go : (k : Kind) → (k ≡ Page → ⊥) → bit_and x (cut_in k f c.address c.slots c.named mask i x) ≡ x
    go Idle n = and_self x
    go Page n = absurd (n refl)
    go Sector n = sector-sets f.sector_bytes c.address mask i x
    go All n = ored-sets mask i x
    go Settings n = and_self x
    go PageWrite n = write-sets c.address c.named mask i x
    go PageErase n = sector-sets 256 c.address mask i x
    go Subsector n = sector-sets f.subsector_bytes c.address mask i x

-- THEOREM: a page write, whole or cut, leaves every byte that is not named; a whole one gives each that is named its slot, a cut one itself or the mask
pub unnamed-kept : (f : Figures) (c : Cycle) (mask : List ℕ) (i x : ℕ) → c.kind ≡ PageWrite → eqb (i / 256) (c.address / 256) && named c.address c.named i ≡ false → (touched f c i x ≡ x) × (cut f c mask i x ≡ x)
unfolding touched cut
unnamed-kept f c mask i x e h = rw e (unnamed-stays c.address c.named c.slots i x h, unnamed-cut c.address c.named mask i x h)

pub named-changed : (f : Figures) (c : Cycle) (mask : List ℕ) (i x : ℕ) → c.kind ≡ PageWrite → eqb (i / 256) (c.address / 256) && named c.address c.named i ≡ true
    → (touched f c i x ≡ get_or c.slots (i % 256) 0) × (cut f c mask i x ≡ ored mask i x)
unfolding touched cut replaced cut_write
named-changed f c mask i x e h =
    let t = both (eqb (i / 256) (c.address / 256)) (named c.address c.named i) h in
    rw (e, t.0, t.1) (refl, refl)

-- ---- lengths

pub finished-length : (c : Chip) → length (finished c).array ≡ length c.array
unfolding finished
finished-length c = length-map _ c.array

pub powered-length : (c : Chip) → length (powered_up c).array ≡ length c.array
unfolding powered_up
powered-length c = finished-length c

pub lost-length : (c : Chip) (mask : List ℕ) (told : Bool) → length (lost c mask told).array ≡ length c.array
unfolding lost
lost-length c mask told = length-map _ c.array

pub waited-length : (c : Chip) (t : ℕ) → length (waited c t).array ≡ length c.array
unfolding waited
waited-length c t = go c.device.mode
  where
    go : (m : Mode) → length (waited_in m c t).array ≡ length c.array
    go Standby = refl
    go (Busy left) = cond_ind (λ (n : Chip). length n.array ≡ length c.array) (ltb t left) refl (finished-length c)
    go Deep = refl
