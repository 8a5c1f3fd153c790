-- Wish 8, proved of the calls themselves, power losses among them: with SRWD set and W low, BP and SRWD stay, and no byte of a protected sector changes.
-- Assumes nothing.
use mathlib.Core.Path.{◌≡◌, refl, sym, ap, ◌∙◌}
use mathlib.Core.Bool.{Bool, true, false, ◌&&◌, ◌||◌, true≢false, false≢true}
use mathlib.Core.List.{List, [], ◌∷◌}
use Prim.Native.Nat.{ℕ, ◌-◌, ◌/◌, ◌<◌}
use native.Mathlib.Omega.{arith}
use borrow.Author.Tests.{eqb-true, leb-true, ltb-false, not-true}
use lib.Dec.{eqb, leb, ltb}
use lib.ListN.{length, get_or, replicate}
use Rattle.slices.proofs.Choices.{cond_ind, zero-ind, both}
use Rattle.slices.proofs.Maps.{get_or-map}
use Rattle.parts.specs.declared.Figures.{Figures}
use Rattle.parts.specs.Parts.{figures_of}
use Rattle.parts.specs.Protected.{protected_of}
use Rattle.parts.proofs.Laws.{Sane, sane, sector-within}
use Rattle.device.specs.declared.Mode.{Mode}
use Rattle.device.specs.declared.Mode.TheVariants.{Standby, Busy, Deep}
use Rattle.device.specs.declared.Device.{Device}
use Rattle.device.specs.declared.cycle.Kind.{Kind}
use Rattle.device.specs.declared.cycle.Kind.TheVariants.{Idle, Page, Sector, All, Settings, PageWrite, PageErase, Subsector}
use Rattle.device.specs.Chip.{chip}
use Rattle.device.specs.Locks.{stops, lock_of, any_stops}
use Rattle.device.specs.Cycles.{uses_of, no_cycle, page_cycle, write_cycle, erase_cycle, all_cycle, settings_cycle, both_same, touched_in, touched, cut_in, cut}
use Rattle.device.specs.Device.{is_busy, moded, locked, remembering, running, started, ended, sound}
use Rattle.device.specs.Device as record_is
use Rattle.device.specs.Time.{after_cycle, finished, unlocked, powered_up, lost, waited_in, waited, time_number, mask_number, wait_call, power_up_call, loss_call}
use Rattle.device.proofs.Sound.{sound-has, cycle_has}
use Rattle.chip.specs.declared.table.Turn.{Turn}
use Rattle.chip.specs.declared.table.Turn.TheVariants.{Keep, Enable, Disable, Start, Sleep, Wake, Lock}
use Rattle.chip.specs.Table.{row_of, row_in, address_of}
use Rattle.chip.specs.Answers.{in_protected, protected_at, protected_any, by_area, guarded_in, guarded, writes_settings}
use Rattle.chip.specs.Change.{cycle_of, turned}
use Rattle.chip.specs.Outcome.{Outcome, outcome_of, transacted}
use Rattle.chip.specs.Events.{Chip, Good, Event, sends, waits, starts, loses, every, sent, after, run}
use Rattle.chip.specs.Protection.{Armed, w_low, is_protected, Kept, HardwareProtects}
use Rattle.device.proofs.Registers.{neither, none-stops}
use Rattle.chip.proofs.Areas.{area-less, cycle-area, area-spares, cut-area-spares}
use Rattle.chip.proofs.Rules.{outcome-ind, settings-stay, array-stays}
use Rattle.chip.proofs.Records.{SameSettings, over-settings, off-settings}
use Rattle.chip.proofs.Events.{every_append, after-length, after-part, after-good, refused-nothing, taken-as-event}

-- ---- a cycle that is not guarded

-- two places of one sector: both are protected, or neither is
same-sector : (f : Figures) (bp i at : ℕ) → i / f.sector_bytes ≡ at / f.sector_bytes → in_protected f bp i ≡ in_protected f bp at
unfolding in_protected
same-sector f bp i at e = ap (λ (s : ℕ). leb (f.sectors - protected_of f.sectors bp) s) e

-- with BP 0 no byte is protected
pub none-protected : {f : Figures} → Sane f → (i : ℕ) → i < f.bytes → in_protected f 0 i ≡ true → ⊥
unfolding in_protected protected_of
none-protected {f} s i lt p = omega (arith, sector-within s i lt, leb-true (f.sectors - 0) (i / f.sector_bytes) p)

-- two places of one sector: both are protected, by BP or by a lock register, or neither is
same-protected : (f : Figures) (d : Device) (i at : ℕ) → i / f.sector_bytes ≡ at / f.sector_bytes → protected_at f d i ≡ protected_at f d at
unfolding protected_at in_protected lock_of
same-protected f d i at e = ap (λ (s : ℕ). leb (f.sectors - protected_of f.sectors d.bp) s || stops (get_or d.locks s 0)) e

-- where a byte is protected, something is
some-protected : {f : Figures} → Sane f → (d : Device) (i : ℕ) → i < f.bytes → protected_at f d i ≡ true → protected_any d ≡ false → ⊥
unfolding protected_at protected_any lock_of
some-protected {f} s d i lt p e = go (neither (ltb 0 d.bp) (any_stops d.locks) e)
  where
    either : (a b : Bool) → a || b ≡ true → b ≡ false → a ≡ true
    either true b h k = refl
    either false b h k = absurd (true≢false (sym h ∙ k))

    go : (ltb 0 d.bp ≡ false) × (any_stops d.locks ≡ false) → ⊥
    go h =
        let z : d.bp ≡ 0 = omega (arith, ltb-false 0 d.bp h.0) in
        none-protected s i lt (rw z at (either (in_protected f d.bp i) (stops (get_or d.locks (i / f.sector_bytes) 0)) p (none-stops d.locks (i / f.sector_bytes) h.1)))

-- a byte that is protected, by BP or by a lock register: a cycle that 17 lets pass does not write in its sector
spares : {f : Figures} → Sane f → (d : Device) (at i : ℕ) → i < f.bytes → protected_at f d i ≡ true → (k : Kind) → guarded_in k f d at ≡ false → by_area k (eqb (i / f.sector_bytes) (at / f.sector_bytes)) true ≡ false
spares {f} s d at i lt p k = area-less k (λ free. apart free (eqb (i / f.sector_bytes) (at / f.sector_bytes)) refl) (λ free. absurd (some-protected s d i lt p free))
  where
    apart : protected_at f d at ≡ false → (b : Bool) → eqb (i / f.sector_bytes) (at / f.sector_bytes) ≡ b → b ≡ false
    apart free true e = absurd (true≢false (sym p ∙ (same-protected f d i at (eqb-true _ _ e) ∙ free)))
    apart free false e = refl

-- THEOREM: a completed cycle that 17 lets pass leaves every protected byte; so does a cut one, whatever the mask
pub kind-spares : {f : Figures} → Sane f → (d : Device) (at : ℕ) (slots : List ℕ) (n i : ℕ) → i < f.bytes → protected_at f d i ≡ true → (k : Kind) (x : ℕ) → guarded_in k f d at ≡ false → touched_in k f at slots n i x ≡ x
kind-spares s d at slots n i lt p k x free = area-spares s at slots n i k x (spares s d at i lt p k free)

pub cut-spares : {f : Figures} → Sane f → (d : Device) (at : ℕ) (slots : List ℕ) (n i : ℕ) → i < f.bytes → protected_at f d i ≡ true → (mask : List ℕ) (k : Kind) (x : ℕ) → guarded_in k f d at ≡ false → cut_in k f at slots n mask i x ≡ x
cut-spares s d at slots n i lt p mask k x free = cut-area-spares s at slots n i mask k x (spares s d at i lt p k free)

-- what of BP's protection a kind of cycle would write in
abbrev bp_guards : Kind → Figures → ℕ → ℕ → Bool
bp_guards k f bp at = by_area k (in_protected f bp at) (ltb 0 bp)

-- a cycle that is not guarded, by BP or by a lock register, is not by BP
unguarded : (k : Kind) (f : Figures) (d : Device) (at : ℕ) → guarded_in k f d at ≡ false → bp_guards k f d.bp at ≡ false
unfolding protected_at protected_any
unguarded k f d at = area-less k (λ h. (neither _ _ h).0) (λ h. (neither _ _ h).0)

-- a protected byte i: a cycle that BP does not guard does not write in its sector
spares-protected : {f : Figures} → Sane f → (bp at i : ℕ) → i < f.bytes → in_protected f bp i ≡ true → (k : Kind) → bp_guards k f bp at ≡ false → by_area k (eqb (i / f.sector_bytes) (at / f.sector_bytes)) true ≡ false
spares-protected {f} s bp at i lt p k = area-less k (λ free. apart free (eqb (i / f.sector_bytes) (at / f.sector_bytes)) refl) (λ free. absurd (nowhere free))
  where
    apart : in_protected f bp at ≡ false → (b : Bool) → eqb (i / f.sector_bytes) (at / f.sector_bytes) ≡ b → b ≡ false
    apart free true e = absurd (true≢false (sym p ∙ (same-sector f bp i at (eqb-true _ _ e) ∙ free)))
    apart free false e = refl

    nowhere : ltb 0 bp ≡ false → ⊥
    nowhere free = let z : bp ≡ 0 = omega (arith, ltb-false 0 bp free) in none-protected s i lt (rw z at p)

-- ---- the chip on the way: the remembered cycle is one that 17 and 18 let pass

-- it is no settings write, and BP does not guard it
abbrev Passing : Device → Type 0
Passing d = ((uses_of d.cycle.kind).settings ≡ false) × (bp_guards d.cycle.kind (figures_of d.part) d.bp d.cycle.address ≡ false)

-- no cycle is
none_passes : (d : Device) → (uses_of d.cycle.kind).cycle ≡ false → Passing d
none_passes d = go d.cycle.kind
  where
    go : (k : Kind) → (uses_of k).cycle ≡ false → ((uses_of k).settings ≡ false) × (bp_guards k (figures_of d.part) d.bp d.cycle.address ≡ false)
    go Idle e = (refl, refl)
    go Page e = absurd (true≢false e)
    go Sector e = absurd (true≢false e)
    go All e = absurd (true≢false e)
    go Settings e = absurd (true≢false e)
    go PageWrite e = absurd (true≢false e)
    go PageErase e = absurd (true≢false e)
    go Subsector e = absurd (true≢false e)

-- in standby none is remembered
rest-passes : (d : Device) → sound d ≡ true → d.mode ≡ Standby → Passing d
rest-passes d s m =
    let w : both_same (is_busy d.mode) (uses_of d.cycle.kind).cycle ≡ true = (cycle_has d.cycle (figures_of d.part) (is_busy d.mode) (sound-has d s).cycle-fits).remembered in
    none_passes d (not-true (uses_of d.cycle.kind).cycle (rw m at w))

-- the cycle that an instruction starts writes the settings where its kind does
cycle-writes : (k : Kind) (f : Figures) (at : ℕ) (sent : List ℕ) → (uses_of (cycle_of k f at sent).kind).settings ≡ (uses_of k).settings
unfolding cycle_of no_cycle page_cycle write_cycle erase_cycle all_cycle settings_cycle
cycle-writes Idle f at sent = refl
cycle-writes Page f at sent = refl
cycle-writes Sector f at sent = refl
cycle-writes All f at sent = refl
cycle-writes Settings f at sent = refl
cycle-writes PageWrite f at sent = refl
cycle-writes PageErase f at sent = refl
cycle-writes Subsector f at sent = refl

frozen-low : (b s w : Bool) → (b && s ≡ true → w ≡ true) → s ≡ true → w ≡ false → b ≡ false
frozen-low true s w h e l = absurd (false≢true (sym l ∙ h e))
frozen-low false s w h e l = refl

-- an instruction that 17 and 18 let pass, with SRWD set and W low
turn-passes : (t : Turn) (d : Device) (at : ℕ) (sent : List ℕ) (w : Bool) → d.srwd ≡ true → w ≡ false → guarded t (figures_of d.part) d at ≡ false → (writes_settings t && d.srwd ≡ true → w ≡ true)
    → Passing d → Passing (turned t (figures_of d.part) d at sent)
unfolding turned started running moded remembering locked record_is.latched
turn-passes Keep d at sent w s l g u a = a
turn-passes Enable d at sent w s l g u a = a
turn-passes Disable d at sent w s l g u a = a
turn-passes (Start k) d at sent w s l g u a =
    let f = figures_of d.part in
    (cycle-writes k f at sent ∙ frozen-low (uses_of k).settings d.srwd w u s l, cycle-area k f at sent (in_protected f d.bp) (ltb 0 d.bp) ∙ unguarded k f d at g)
turn-passes Sleep d at sent w s l g u a = a
turn-passes Wake d at sent w s l g u a = a
turn-passes Lock d at sent w s l g u a = a

-- with SRWD set and W low no write of the status register is executed
pub frozen-unwritten : (d : Device) (array sent : List ℕ) (pulses : ℕ) (w : Bool) (response : List ℕ) → d.srwd ≡ true → w ≡ false → get_or sent 0 0 ≡ 0x01 → (transacted d array sent pulses w response).answer.number ≡ 0 → ⊥
unfolding outcome_of row_of
frozen-unwritten d array sent pulses w response s l c =
    outcome-ind d array sent pulses w response (λ (o : Outcome). o.answer.number ≡ 0 → ⊥) (λ a z. a z) (λ h b z. b z) (λ h t z. false≢true (sym l ∙ t.unfrozen (rw (c, s))))

-- ---- what becomes of the chip

-- settings and protected bytes stay, and the remembered cycle is one that passes
record Spared (was is : Chip) : Type 0 where
  settings : SameSettings was.device is.device
  bytes : (i : ℕ) → i < length was.array → is_protected was.device i ≡ true → get_or is.array i 0 ≡ get_or was.array i 0
  passes : Passing is.device

spared-none : (c : Chip) → Passing c.device → Spared c c
spared-none c a = record { settings = record { bp = refl; srwd = refl }; bytes = λ i lt p. refl; passes = a }

-- a transaction with SRWD set and W low
sent-spares : (c : Chip) (bytes : List ℕ) (p : ℕ) (w : Bool) → c.device.srwd ≡ true → w ≡ false → Passing c.device → Spared c (after (sends bytes p w) c)
unfolding sent outcome_of
sent-spares c bytes p w s l a =
    let r : List ℕ = replicate (length bytes) 0 in
    let d = c.device in
    record {
      settings = settings-stay d c.array bytes p w r;
      bytes = λ i lt h. ap (λ (xs : List ℕ). get_or xs i 0) (array-stays d c.array bytes p w r);
      passes = outcome-ind d c.array bytes p w r (λ (o : Outcome). Passing o.device) (λ h. a) (λ h b. a) (λ h t. turn-passes (row_in d bytes).turn d (address_of (figures_of d.part) bytes) bytes w s l t.free t.unfrozen a);
    }

-- after the end of a cycle there is none
over-passes : (d : Device) (told : Bool) → Passing (after_cycle d told)
unfolding after_cycle ended moded remembering no_cycle
over-passes d told = (refl, refl)

off-passes : (d : Device) (told : Bool) → Passing (unlocked (after_cycle d told))
unfolding unlocked locked after_cycle ended moded remembering no_cycle
off-passes d told = (refl, refl)

module _ (c : Chip) (g : Good c) (a : Passing c.device) where
  -- a cycle that is completed
  finished-spares : Spared c (finished c)
  unfolding finished touched
  finished-spares =
      let d = c.device in
      record {
        settings = over-settings d true a.0;
        bytes = λ i lt h. get_or-map (touched (figures_of d.part) d.cycle) c.array i 0 lt ∙ area-spares (sane d.part) d.cycle.address d.cycle.slots d.cycle.named i d.cycle.kind (get_or c.array i 0) (spares-protected (sane d.part) d.bp d.cycle.address i (rw g.whole at lt) h d.cycle.kind a.1);
        passes = over-passes d true;
      }

  -- by power-up
  powered-spares : Spared c (powered_up c)
  unfolding powered_up finished
  powered-spares = record { settings = off-settings c.device true a.0; bytes = finished-spares.bytes; passes = off-passes c.device true }

  -- one that is cut
  lost-spares : (mask : List ℕ) (told : Bool) → Spared c (lost c mask told)
  unfolding lost cut
  lost-spares mask told =
      let d = c.device in
      record {
        settings = off-settings d told a.0;
        bytes = λ i lt h. get_or-map (cut (figures_of d.part) d.cycle mask) c.array i 0 lt ∙ cut-area-spares (sane d.part) d.cycle.address d.cycle.slots d.cycle.named i mask d.cycle.kind (get_or c.array i 0) (spares-protected (sane d.part) d.bp d.cycle.address i (rw g.whole at lt) h d.cycle.kind a.1);
        passes = off-passes d told;
      }

  -- one that goes on
  running-spares : (t : ℕ) → Spared c (chip (running c.device t) c.array)
  unfolding running moded
  running-spares t =
      let d = c.device in
      record {
        settings = record { bp = refl; srwd = refl };
        bytes = λ i lt h. refl;
        passes = a;
      }

  waited-spares : (t : ℕ) → Spared c (waited c t)
  unfolding waited
  waited-spares t = go c.device.mode
    where
      go : (m : Mode) → Spared c (waited_in m c t)
      go Standby = spared-none c a
      go (Busy left) = cond_ind (Spared c) (ltb t left) (running-spares (left - t)) finished-spares
      go Deep = spared-none c a

-- ---- one event

event-spares : (e : Event) (c : Chip) → w_low e ≡ true → Good c → c.device.srwd ≡ true → Passing c.device → Spared c (after e c)
unfolding wait_call power_up_call loss_call
event-spares (sends bytes p w) c l g s a = sent-spares c bytes p w s (not-true w l) a
event-spares (waits t) c l g s a = zero-ind (Spared c) (time_number c.device (length c.array) 0) (waited-spares c g a t) (spared-none c a)
event-spares starts c l g s a = zero-ind (Spared c) (time_number c.device (length c.array) 0) (powered-spares c g a) (spared-none c a)
event-spares (loses mask told) c l g s a = zero-ind (Spared c) (time_number c.device (length c.array) (mask_number (length mask))) (lost-spares c g a mask told) (spared-none c a)

kept-one : (e : Event) (c : Chip) → Spared c (after e c) → Kept c (after e c)
kept-one e c k = record { bp = k.settings.bp; srwd = k.settings.srwd; bytes = k.bytes; part = after-part e c; long = after-length e c }

-- ---- one after the other

pub kept-none : (c : Chip) → Kept c c
kept-none c = record { bp = refl; srwd = refl; bytes = λ i lt p. refl; part = refl; long = refl }

-- the same bytes are protected as before
pub still-protected : {was is : Chip} → Kept was is → (i : ℕ) → is_protected is.device i ≡ is_protected was.device i
still-protected k i = rw (k.part, k.bp)

pub kept_then : {a b c : Chip} → Kept a b → Kept b c → Kept a c
kept_then p q = record {
  bp = q.bp ∙ p.bp;
  srwd = q.srwd ∙ p.srwd;
  bytes = λ i lt h. q.bytes i (rw p.long lt) (still-protected p i ∙ h) ∙ p.bytes i lt h;
  part = q.part ∙ p.part;
  long = q.long ∙ p.long;
}

kept-all : (es : List Event) (c : Chip) → every w_low es ≡ true → Good c → c.device.srwd ≡ true → Passing c.device → Kept c (run es c)
kept-all [] c l g s a = kept-none c
kept-all (e ∷ es) c l g s a =
    let h = both (w_low e) (every w_low es) l in
    let k = event-spares e c h.0 g s a in
    kept_then (kept-one e c k) (kept-all es (after e c) h.1 (after-good e c g) (k.settings.srwd ∙ s) k.passes)

from-armed : (es : List Event) (c : Chip) → every w_low es ≡ true → Armed c → Kept c (run es c)
from-armed es c l a = kept-all es c l a.good a.srwd (rest-passes c.device a.good.sound a.standby)

-- ---- the theorem

pub hardware-protects : HardwareProtects
hardware-protects = record {
  ends = λ c a es l. from-armed es c l a;
  each = λ c a es later l. from-armed es c (both (every w_low es) (every w_low later) (sym (every_append w_low es later) ∙ l)).0 a;
  refused = λ c bytes p w r h. let e = refused-nothing c bytes p w r h in rw (e.0, e.1);
  taken = taken-as-event;
}
