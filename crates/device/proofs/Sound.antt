-- What a sound record has, and which changes keep a record sound.
-- Assumes nothing.
use mathlib.Core.Path.{◌≡◌, refl, sym, ap, subst}
use mathlib.Core.Bool.{Bool, true, false, cond, not, ◌&&◌, ◌||◌, false≢true}
use mathlib.Core.List.{List}
use Prim.Native.Nat.{ℕ, ◌≤◌, ◌<◌, ◌-◌, ◌/◌}
use native.Mathlib.Nat.{le_trans}
use native.Mathlib.Omega.{arith}
use lib.Dec.{eqb, leb, ltb}
use lib.ListN.{length, replicate}
use borrow.Author.Tests.{leb-true, ltb-true, le-leb, lt-ltb, eqb-true, eq-eqb}
use Rattle.slices.specs.Bytes.{same_bytes}
use Rattle.slices.proofs.Choices.{both, cond_ind, cond-case}
use Rattle.slices.proofs.Sames.{same-is}
use Rattle.parts.specs.declared.Figures.{Figures}
use Rattle.parts.specs.Parts.{known_part, figures_of}
use Rattle.parts.proofs.Laws.{sane}
use Rattle.device.specs.declared.Mode.{Mode}
use Rattle.device.specs.declared.Mode.TheVariants.{Standby, Busy, Deep}
use Rattle.device.specs.declared.cycle.Kind.{Kind}
use Rattle.device.specs.declared.cycle.Kind.TheVariants.{Idle, Page, Sector, All, Settings, PageWrite, PageErase, Subsector}
use Rattle.device.specs.declared.cycle.Cycle.{Cycle}
use Rattle.device.specs.declared.Device.{Device}
use Rattle.device.specs.Chip.{Chip}
use Rattle.device.specs.Cycles.{uses_row, uses_of, no_slots, no_cycle, page_cycle, write_cycle, erase_cycle, all_cycle, settings_cycle, both_same, slots_sound, named_sound, cycle_sound}
use Rattle.device.specs.Locks.{registers, no_locks, lock_of, each_at_most, locks_sound}
use Rattle.device.specs.Device.{latch_at, moded, latched, settled, remembering, locked, zero_record, delivered, running, started, ended, ranged_of, mode_sound, sound, is_busy}
use Rattle.device.specs.Time.{after_cycle, finished, unlocked, powered_up, lost, waited_in, waited}
use Rattle.device.proofs.Registers.{at_most}

-- ---- what it has

-- two true tests
pub and-true : (s t : Bool) → s ≡ true → t ≡ true → s && t ≡ true
and-true s t h i = rw (h, i)

-- the nine parts of soundness
pub record Sound (d : Device) : Type 0 where
  pub known : known_part d.part ≡ true
  pub bp-fits : leb d.bp (figures_of d.part).highest_bp ≡ true
  pub program-fits : ranged_of d.program ≡ true
  pub sector-fits : ranged_of d.sector_erase ≡ true
  pub bulk-fits : ranged_of d.bulk_erase ≡ true
  pub status-fits : ranged_of d.write_status ≡ true
  pub mode-fits : mode_sound d.mode d.latch (figures_of d.part).sleeps ≡ true
  pub cycle-fits : cycle_sound d.cycle (figures_of d.part) (is_busy d.mode) ≡ true
  pub locks-fit : locks_sound (figures_of d.part) d.locks ≡ true

pub sound-has : (d : Device) → sound d ≡ true → Sound d
unfolding sound
sound-has d h =
    let p8 = both _ _ h in
    let p7 = both _ _ p8.0 in
    let p6 = both _ _ p7.0 in
    let p5 = both _ _ p6.0 in
    let p4 = both _ _ p5.0 in
    let p3 = both _ _ p4.0 in
    let p2 = both _ _ p3.0 in
    let p1 = both _ _ p2.0 in
    record { known = p1.0; bp-fits = p1.1; program-fits = p2.1; sector-fits = p3.1; bulk-fits = p4.1; status-fits = p5.1; mode-fits = p6.1; cycle-fits = p7.1; locks-fit = p8.1 }

pub sound-by : (d : Device) → Sound d → sound d ≡ true
unfolding sound
sound-by d s = rw (s.known, s.bp-fits, s.program-fits, s.sector-fits, s.bulk-fits, s.status-fits, s.mode-fits, s.cycle-fits, s.locks-fit)

-- the eight parts of a cycle's
pub record Whole (c : Cycle) (f : Figures) (busy : Bool) : Type 0 where
  pub remembered : both_same busy (uses_of c.kind).cycle ≡ true
  pub within : ltb c.address f.bytes ≡ true
  pub new-bp : leb c.bp f.highest_bp ≡ true
  pub address-used : (uses_of c.kind).address || eqb c.address 0 ≡ true
  pub slots-used : slots_sound c.slots (uses_of c.kind).slots ≡ true
  pub settings-used : (uses_of c.kind).settings || (eqb c.bp 0 && not c.srwd) ≡ true
  pub named-used : named_sound c.named (uses_of c.kind).named ≡ true
  pub of_part : not (uses_of c.kind).pe || f.pe ≡ true

pub cycle_has : (c : Cycle) (f : Figures) (busy : Bool) → cycle_sound c f busy ≡ true → Whole c f busy
unfolding cycle_sound
cycle_has c f busy h =
    let p7 = both _ _ h in
    let p6 = both _ _ p7.0 in
    let p5 = both _ _ p6.0 in
    let p4 = both _ _ p5.0 in
    let p3 = both _ _ p4.0 in
    let p2 = both _ _ p3.0 in
    let p1 = both _ _ p2.0 in
    record { remembered = p1.0; within = p1.1; new-bp = p2.1; address-used = p3.1; slots-used = p4.1; settings-used = p5.1; named-used = p6.1; of_part = p7.1 }

pub slots-long : (d : Device) → sound d ≡ true → length d.cycle.slots ≡ 256
unfolding slots_sound
slots-long d h = eqb-true _ _ (both _ _ (cycle_has _ _ _ (sound-has d h).cycle-fits).slots-used).0

pub locks-long : (d : Device) → sound d ≡ true → length d.locks ≡ registers
unfolding locks_sound
locks-long d h = eqb-true _ _ (both _ _ (sound-has d h).locks-fit).0

-- outside a cycle none is remembered
pub idle-cycle : (d : Device) → sound d ≡ true → is_busy d.mode ≡ false → d.cycle ≡ no_cycle
unfolding slots_sound named_sound no_cycle
idle-cycle d h e = go d.cycle.kind refl (cycle_has d.cycle (figures_of d.part) false (rw e at (sound-has d h).cycle-fits))
  where
    c : Cycle
    c = d.cycle

    unset : (w : Bool) → not w ≡ true → w ≡ false
    unset true q = absurd (false≢true q)
    unset false q = refl

    go : (k : Kind) → d.cycle.kind ≡ k → Whole d.cycle (figures_of d.part) false → d.cycle ≡ no_cycle
    go Idle q w =
        let u : uses_of c.kind ≡ uses_of Idle = ap uses_of q in
        let at : c.address ≡ 0 = eqb-true c.address 0 (rw u at w.address-used) in
        let slots : c.slots ≡ no_slots = same-is c.slots no_slots (both (eqb (length c.slots) 256) (same_bytes c.slots no_slots) (rw u at w.slots-used)).1 in
        let set = both (eqb c.bp 0) (not c.srwd) (rw u at w.settings-used) in
        let named : c.named ≡ 0 = eqb-true c.named 0 (rw u at w.named-used) in
        λ i. record { kind = q i; address = at i; slots = slots i; bp = eqb-true c.bp 0 set.0 i; srwd = unset c.srwd set.1 i; named = named i }
    go Page q w = absurd (false≢true (rw (ap uses_of q) at w.remembered))
    go Sector q w = absurd (false≢true (rw (ap uses_of q) at w.remembered))
    go All q w = absurd (false≢true (rw (ap uses_of q) at w.remembered))
    go Settings q w = absurd (false≢true (rw (ap uses_of q) at w.remembered))
    go PageWrite q w = absurd (false≢true (rw (ap uses_of q) at w.remembered))
    go PageErase q w = absurd (false≢true (rw (ap uses_of q) at w.remembered))
    go Subsector q w = absurd (false≢true (rw (ap uses_of q) at w.remembered))

-- ---- cycles that are sound

-- none, where nothing runs
pub none-sound : (p : ℕ) → cycle_sound no_cycle (figures_of p) false ≡ true
unfolding cycle_sound no_cycle slots_sound no_slots named_sound
none-sound p = rw (lt-ltb 0 (figures_of p).bytes (sane p).some, le-leb 0 (figures_of p).highest_bp (omega arith))

-- those that begin
pub page-sound : (p at : ℕ) (slots : List ℕ) → at < (figures_of p).bytes → length slots ≡ 256 → cycle_sound (page_cycle at slots) (figures_of p) true ≡ true
unfolding cycle_sound page_cycle slots_sound named_sound
page-sound p at slots h l = rw (lt-ltb at (figures_of p).bytes h, le-leb 0 (figures_of p).highest_bp (omega arith), eq-eqb (length slots) 256 l)

pub write-sound : (p at : ℕ) (slots : List ℕ) (n : ℕ) → (figures_of p).pe ≡ true → at < (figures_of p).bytes → length slots ≡ 256 → 1 ≤ n → n ≤ 256 → cycle_sound (write_cycle at slots n) (figures_of p) true ≡ true
unfolding cycle_sound write_cycle slots_sound named_sound
write-sound p at slots n pe h l s m =
    rw (lt-ltb at (figures_of p).bytes h, le-leb 0 (figures_of p).highest_bp (omega arith), eq-eqb (length slots) 256 l, le-leb 1 n s, le-leb n 256 m, pe)

-- an erase of an area that the part has
pub erase-sound : (k : Kind) (p at : ℕ) → uses_of k ≡ uses_row true true false false false (uses_of k).pe → not (uses_of k).pe || (figures_of p).pe ≡ true → at < (figures_of p).bytes → cycle_sound (erase_cycle k at) (figures_of p) true ≡ true
unfolding cycle_sound erase_cycle slots_sound no_slots named_sound
erase-sound k p at u pe h = rw (u, lt-ltb at (figures_of p).bytes h, le-leb 0 (figures_of p).highest_bp (omega arith)) pe

pub all_sound : (p : ℕ) → cycle_sound all_cycle (figures_of p) true ≡ true
unfolding cycle_sound all_cycle slots_sound no_slots named_sound
all_sound p = rw (lt-ltb 0 (figures_of p).bytes (sane p).some, le-leb 0 (figures_of p).highest_bp (omega arith))

pub settings-sound : (p : ℕ) (w : Bool) (b : ℕ) → leb b (figures_of p).highest_bp ≡ true → cycle_sound (settings_cycle w b) (figures_of p) true ≡ true
unfolding cycle_sound settings_cycle slots_sound no_slots named_sound
settings-sound p w b h = rw (lt-ltb 0 (figures_of p).bytes (sane p).some, h)

-- a lock register is at most 3
pub lock-few : (d : Device) (at : ℕ) → sound d ≡ true → lock_of (figures_of d.part) d.locks at ≤ 3
unfolding lock_of locks_sound
lock-few d at h =
    le_trans (at_most (cond (figures_of d.part).pe 3 0) d.locks (at / (figures_of d.part).sector_bytes) (both (eqb (length d.locks) registers) _ (sound-has d h).locks-fit).1)
    (cond_ind (λ (n : ℕ). n ≤ 3) (figures_of d.part).pe (omega arith) (omega arith))

-- ---- changes that keep a record sound

-- another latch and mode that fit each other and the part, as busy as before
pub moded-sound : (d : Device) (l : Bool) (m : Mode) → sound d ≡ true → is_busy m ≡ is_busy d.mode → mode_sound m l (figures_of d.part).sleeps ≡ true → sound (moded d l m) ≡ true
unfolding moded
moded-sound d l m h e fits =
    let s = sound-has d h in
    sound-by _ (record { known = s.known; bp-fits = s.bp-fits; program-fits = s.program-fits; sector-fits = s.sector-fits; bulk-fits = s.bulk-fits; status-fits = s.status-fits; mode-fits = fits; cycle-fits = rw e s.cycle-fits; locks-fit = s.locks-fit })

-- standby without a cycle, with any latch
pub standby-sound : (d : Device) (l : Bool) → sound d ≡ true → sound (moded (remembering d no_cycle) l Standby) ≡ true
unfolding moded remembering
standby-sound d l h =
    let s = sound-has d h in
    sound-by _ (record { known = s.known; bp-fits = s.bp-fits; program-fits = s.program-fits; sector-fits = s.sector-fits; bulk-fits = s.bulk-fits; status-fits = s.status-fits; mode-fits = refl; cycle-fits = none-sound d.part; locks-fit = s.locks-fit })

-- another latch, outside a cycle
pub latched-sound : (d : Device) (on : Bool) → sound d ≡ true → is_busy d.mode ≡ false → sound (latched d on) ≡ true
unfolding latched
latched-sound d on h idle =
    let s = sound-has d h in
    sound-by _ (record { known = s.known; bp-fits = s.bp-fits; program-fits = s.program-fits; sector-fits = s.sector-fits; bulk-fits = s.bulk-fits; status-fits = s.status-fits; mode-fits = go d.mode idle s.mode-fits; cycle-fits = s.cycle-fits; locks-fit = s.locks-fit })
  where
    go : (m : Mode) → is_busy m ≡ false → mode_sound m d.latch (figures_of d.part).sleeps ≡ true → mode_sound m on (figures_of d.part).sleeps ≡ true
    go Standby e f = refl
    go (Busy left) e f = absurd (false≢true (sym e))
    go Deep e f = f

same_self : (b : Bool) → both_same b b ≡ true
same_self true = refl
same_self false = refl

-- a started cycle, whenever the latch falls
pub started-sound : (d : Device) (c : Cycle) (t : ℕ) → sound d ≡ true → ranged_of t ≡ true → cycle_sound c (figures_of d.part) true ≡ true → sound (started d c t) ≡ true
unfolding started running moded remembering
started-sound d c t h fits whole =
    let s = sound-has d h in
    sound-by _ (record { known = s.known; bp-fits = s.bp-fits; program-fits = s.program-fits; sector-fits = s.sector-fits; bulk-fits = s.bulk-fits; status-fits = s.status-fits; mode-fits = and-true (ranged_of t) _ fits (same_self (latch_at t)); cycle-fits = whole; locks-fit = s.locks-fit })

-- the end of a cycle, however it ends
pub over-sound : (d : Device) (told : Bool) → sound d ≡ true → sound (after_cycle d told) ≡ true
unfolding after_cycle ended moded remembering settled
over-sound d told h = go ((uses_of d.cycle.kind).settings && told)
  where
    s : Sound d
    s = sound-has d h

    new : leb d.cycle.bp (figures_of d.part).highest_bp ≡ true
    new = (cycle_has d.cycle (figures_of d.part) (is_busy d.mode) (sound-has d h).cycle-fits).new-bp

    go : (b : Bool) → sound (ended (cond b (settled d d.cycle.srwd d.cycle.bp) d)) ≡ true
    go true = sound-by _ (record { known = s.known; bp-fits = new; program-fits = s.program-fits; sector-fits = s.sector-fits; bulk-fits = s.bulk-fits; status-fits = s.status-fits; mode-fits = refl; cycle-fits = none-sound d.part; locks-fit = s.locks-fit })
    go false = sound-by _ (record { known = s.known; bp-fits = s.bp-fits; program-fits = s.program-fits; sector-fits = s.sector-fits; bulk-fits = s.bulk-fits; status-fits = s.status-fits; mode-fits = refl; cycle-fits = none-sound d.part; locks-fit = s.locks-fit })

ranged-by : (x : ℕ) → 1 ≤ x → x ≤ 1000000 → ranged_of x ≡ true
ranged-by x h i = and-true (leb 1 x) (leb x 1000000) (le-leb 1 x h) (le-leb x 1000000 i)

pub ranged-most : (x : ℕ) → ranged_of x ≡ true → x ≤ 1000000
ranged-most x h = leb-true x 1000000 (both (leb 1 x) (leb x 1000000) h).1

-- fewer ticks than are left
fewer-sound : (d : Device) (left t : ℕ) → sound d ≡ true → d.mode ≡ Busy left → t < left → sound (running d (left - t)) ≡ true
unfolding running
fewer-sound d left t h e below =
    let fits = both (ranged_of left) _ (subst (λ (m : Mode). mode_sound m d.latch (figures_of d.part).sleeps ≡ true) e (sound-has d h).mode-fits) in
    let most : left ≤ 1000000 = ranged-most left fits.0 in
    let r : ranged_of (left - t) ≡ true = ranged-by (left - t) (omega arith) (omega arith) in
    moded-sound d (latch_at (left - t)) (Busy (left - t)) h (rw e) (and-true (ranged_of (left - t)) _ r (same_self (latch_at (left - t))))

-- ---- lock registers

-- all zero
pub none-locked : (f : Figures) → locks_sound f no_locks ≡ true
unfolding locks_sound no_locks
none-locked f = go f.pe
  where
    go : (pe : Bool) → each_at_most (cond pe 3 0) (replicate registers 0) ≡ true
    go true = refl
    go false = refl

-- others that are sound
pub locked-sound : (d : Device) (ls : List ℕ) → sound d ≡ true → locks_sound (figures_of d.part) ls ≡ true → sound (locked d ls) ≡ true
unfolding locked
locked-sound d ls h fits =
    let s = sound-has d h in
    sound-by _ (record { known = s.known; bp-fits = s.bp-fits; program-fits = s.program-fits; sector-fits = s.sector-fits; bulk-fits = s.bulk-fits; status-fits = s.status-fits; mode-fits = s.mode-fits; cycle-fits = s.cycle-fits; locks-fit = fits })

pub unlocked-sound : (d : Device) → sound d ≡ true → sound (unlocked d) ≡ true
unfolding unlocked
unlocked-sound d h = locked-sound d no_locks h (none-locked (figures_of d.part))

-- THEOREM: waiting, power-up and power loss keep a record sound
pub waited-sound : (c : Chip) (t : ℕ) → sound c.device ≡ true → sound (waited c t).device ≡ true
unfolding waited finished
waited-sound c t h = go c.device.mode refl
  where
    go : (m : Mode) → c.device.mode ≡ m → sound (waited_in m c t).device ≡ true
    go Standby e = h
    go (Busy left) e = cond-case (λ (n : Chip). sound n.device ≡ true) (ltb t left) (λ q. fewer-sound c.device left t h e (ltb-true t left q)) (λ q. over-sound c.device true h)
    go Deep e = h

pub finished-sound : (c : Chip) → sound c.device ≡ true → sound (finished c).device ≡ true
unfolding finished
finished-sound c h = over-sound c.device true h

pub powered-sound : (c : Chip) → sound c.device ≡ true → sound (powered_up c).device ≡ true
unfolding powered_up
powered-sound c h = unlocked-sound (finished c).device (finished-sound c h)

pub lost-sound : (c : Chip) (mask : List ℕ) (told : Bool) → sound c.device ≡ true → sound (lost c mask told).device ≡ true
unfolding lost
lost-sound c mask told h = unlocked-sound (after_cycle c.device told) (over-sound c.device told h)

-- delivery of a known part with durations in range
pub delivered-sound : (p a b c w : ℕ) → known_part p ≡ true → ranged_of a ≡ true → ranged_of b ≡ true → ranged_of c ≡ true → ranged_of w ≡ true → sound (delivered p a b c w) ≡ true
unfolding delivered
delivered-sound p a b c w k ha hb hc hw = sound-by (delivered p a b c w) (record { known = k; bp-fits = le-leb 0 (figures_of p).highest_bp (omega arith); program-fits = ha; sector-fits = hb; bulk-fits = hc; status-fits = hw; mode-fits = refl; cycle-fits = none-sound p; locks-fit = none-locked (figures_of p) })

-- the all-zero record is not sound
pub zero-unsound : sound zero_record ≡ false
unfolding sound zero_record delivered figures_of cycle_sound no_cycle slots_sound no_slots named_sound locks_sound no_locks
zero-unsound = refl
