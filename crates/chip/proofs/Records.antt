-- What instructions, waiting, power-up and power loss do to a record: a sound one stays sound, and who keeps settings, part and durations.
-- Assumes nothing.
use mathlib.Core.Path.{◌≡◌, refl, sym, ◌∙◌}
use mathlib.Core.Bool.{Bool, true, false, cond, ◌&&◌, false≢true}
use mathlib.Core.Logic.{◌⊎◌, inl, inr}
use mathlib.Core.List.{List, [], ◌∷◌}
use Prim.Native.Nat.{ℕ, zero, suc, ◌+◌, ◌*◌, ◌-◌, ◌/◌, ◌%◌, ◌≤◌, ◌<◌, min}
use native.Mathlib.Nat.{mod-lt}
use native.Mathlib.Omega.{arith}
use borrow.Author.Tests.{le-leb}
use lib.Dec.{eqb, leb, ltb, lit≤}
use lib.ListN.{length, get_or, set, drop, length-set, length-drop, length-replicate}
use Rattle.memory.specs.Memory.{blank, filled}
use Rattle.memory.proofs.Laws.{filled-length}
use Rattle.parts.specs.declared.Figures.{Figures}
use Rattle.parts.specs.Parts.{figures_of}
use Rattle.parts.proofs.Laws.{figures-ind, sane}
use Rattle.slices.proofs.Choices.{cond_ind, zero-ind, both}
use Rattle.device.specs.declared.Mode.{Mode}
use Rattle.device.specs.declared.Mode.TheVariants.{Standby, Busy, Deep}
use Rattle.device.specs.declared.Device.{Device}
use Rattle.device.specs.declared.cycle.Kind.{Kind}
use Rattle.device.specs.declared.cycle.Kind.TheVariants.{Idle, Page, Sector, All, Settings, PageWrite, PageErase, Subsector}
use Rattle.device.specs.declared.cycle.Cycle.{Cycle}
use Rattle.device.specs.Chip.{Chip}
use Rattle.device.specs.Locks.{registers, each_at_most, locks_sound, relocked}
use Rattle.device.specs.Cycles.{uses_of, page_cycle, write_cycle, erase_cycle, all_cycle, cycle_sound, duration_of}
use Rattle.device.specs.Device.{is_busy, moded, locked, settled, remembering, running, started, ended, latch_at, ranged_of, sound}
use Rattle.device.specs.Device as record_is
use Rattle.device.specs.Time.{after_cycle, finished, unlocked, powered_up, lost, waited_in, waited, time_number, mask_number, wait_call, power_up_call, loss_call}
use Rattle.device.proofs.Sound.{and-true, sound-has, page-sound, write-sound, erase-sound, all_sound, settings-sound, moded-sound, latched-sound, locked-sound, started-sound, waited-sound, powered-sound, lost-sound}
use Rattle.chip.specs.declared.table.Turn.{Turn}
use Rattle.chip.specs.declared.table.Turn.TheVariants.{Keep, Enable, Disable, Start, Sleep, Wake, Lock}
use Rattle.chip.specs.Table.{row_of, address_of}
use Rattle.chip.specs.Change.{srwd_in, bp_in, cycle_of, turned}
use Rattle.chip.proofs.Rows.{rows-ind}

-- no instruction starts a cycle of no kind, only WRSR one that writes the settings, and only one of an M25PE part a kind of such parts; a page write has some data
abbrev pub KindLaw : Kind → Figures → ℕ → ℕ → Type 0
KindLaw Idle f code least = ⊥
KindLaw Page f code least = Unit {0}
KindLaw Sector f code least = Unit {0}
KindLaw All f code least = Unit {0}
KindLaw Settings f code least = code ≡ 0x01
KindLaw PageWrite f code least = (f.pe ≡ true) × (5 ≤ least)
KindLaw PageErase f code least = f.pe ≡ true
KindLaw Subsector f code least = f.pe ≡ true

-- what a row's change of the record needs of the row: no instruction changes latch, mode or lock registers while busy, a cycle is of a kind, only a part that sleeps goes to deep power-down, only an M25PE part has lock registers written, by E5
abbrev pub TurnLaw : Turn → Figures → ℕ → ℕ → Bool → Type 0
TurnLaw Keep f code least busy = Unit {0}
TurnLaw Enable f code least busy = busy ≡ false
TurnLaw Disable f code least busy = busy ≡ false
TurnLaw (Start k) f code least busy = KindLaw k f code least
TurnLaw Sleep f code least busy = (busy ≡ false) × (f.sleeps ≡ true)
TurnLaw Wake f code least busy = busy ≡ false
TurnLaw Lock f code least busy = (busy ≡ false) × (f.pe ≡ true) × (code ≡ 0xE5)

pub turn-law : (f : Figures) (code : ℕ) → TurnLaw (row_of f code).turn f code (row_of f code).least (row_of f code).busy
turn-law f =
    rows-ind (λ code r. TurnLaw r.turn f code r.least r.busy) f refl refl (λ e. tt) tt refl tt tt tt tt tt (λ e. (refl, e)) (λ e. refl) (λ e. refl)
    (λ e. (e, lit≤ tt)) (λ e. e) (λ e. e) (λ e. (refl, e, refl)) (λ e. tt) (λ code. tt)

-- ---- the cycle that is started

-- BP of a settings byte does not exceed the part's highest
bp-fits : (p b : ℕ) → leb (bp_in (figures_of p) b) (figures_of p).highest_bp ≡ true
unfolding bp_in
bp-fits p b =
    figures-ind (λ (f : Figures). leb (bp_in f b) f.highest_bp ≡ true) (λ f h. h)
    (le-leb (b / 4 % 4) 3 (omega arith))
    (le-leb (b / 4 % 4) 3 (omega arith))
    (le-leb (b / 4 % 8) 7 (omega arith))
    (le-leb (b / 4 % 8) 7 (omega arith))
    (le-leb (b / 4 % 8) 7 (omega arith))
    (le-leb (b / 4 % 8) 7 (omega arith))
    p

-- an address lies within the part
pub address-within : (p : ℕ) (sent : List ℕ) → address_of (figures_of p) sent < (figures_of p).bytes
unfolding address_of
address-within p sent = mod-lt (get_or sent 1 0 * 65536 + get_or sent 2 0 * 256 + get_or sent 3 0) (sane p).some

-- a cycle's duration is in range
duration-fits : (k : Kind) (d : Device) (f : Figures) (code least : ℕ) → KindLaw k f code least → sound d ≡ true → ranged_of (duration_of k d) ≡ true
duration-fits Idle d f code least l s = absurd l
duration-fits Page d f code least l s = (sound-has d s).program-fits
duration-fits Sector d f code least l s = (sound-has d s).sector-fits
duration-fits All d f code least l s = (sound-has d s).bulk-fits
duration-fits Settings d f code least l s = (sound-has d s).status-fits
duration-fits PageWrite d f code least l s = (sound-has d s).program-fits
duration-fits PageErase d f code least l s = (sound-has d s).program-fits
duration-fits Subsector d f code least l s = (sound-has d s).sector-fits

-- a program and a page write have 256 slots
slots-are : (at : ℕ) (bytes : List ℕ) → length (filled blank at bytes) ≡ 256
unfolding blank
slots-are at bytes = filled-length blank at bytes ∙ length-replicate {A = ℕ} 256 255

cycle-fits : (k : Kind) (p code least : ℕ) (sent : List ℕ) → KindLaw k (figures_of p) code least → least ≤ length sent → cycle_sound (cycle_of k (figures_of p) (address_of (figures_of p) sent) sent) (figures_of p) true ≡ true
unfolding cycle_of
cycle-fits Idle p code least sent l h = absurd l
cycle-fits Page p code least sent l h = page-sound p _ _ (address-within p sent) (slots-are _ (drop 4 sent))
cycle-fits Sector p code least sent l h = erase-sound Sector p _ refl refl (address-within p sent)
cycle-fits All p code least sent l h = all_sound p
cycle-fits Settings p code least sent l h = settings-sound p (srwd_in (get_or sent 1 0)) _ (bp-fits p (get_or sent 1 0))
cycle-fits PageWrite p code least sent l h =
    let n = length-drop 4 sent in
    let m : 5 ≤ least = l.1 in
    write-sound p _ _ (min 256 (length (drop 4 sent))) l.0 (address-within p sent) (slots-are _ (drop 4 sent)) (omega arith) (omega arith)
cycle-fits PageErase p code least sent l h = erase-sound PageErase p _ refl l (address-within p sent)
cycle-fits Subsector p code least sent l h = erase-sound Subsector p _ refl l (address-within p sent)

-- ---- the lock register that is written

-- each at most m, one of them replaced by what is at most m
set-most : (m : ℕ) (ls : List ℕ) (i v : ℕ) → each_at_most m ls ≡ true → v ≤ m → each_at_most m (set ls i v) ≡ true
set-most m [] i v h l = refl
set-most m (r ∷ rs) zero v h l = and-true (leb v m) (each_at_most m rs) (le-leb v m l) (both (leb r m) (each_at_most m rs) h).1
set-most m (r ∷ rs) (suc i) v h l = let p = both (leb r m) (each_at_most m rs) h in and-true (leb r m) (each_at_most m (set rs i v)) p.0 (set-most m rs i v p.1 l)

-- a write of one keeps them sound
relocked-fits : (f : Figures) (ls : List ℕ) (at b : ℕ) → f.pe ≡ true → locks_sound f ls ≡ true → locks_sound f (relocked f ls at b) ≡ true
unfolding locks_sound relocked
relocked-fits f ls at b pe h =
    let p = both (eqb (length ls) registers) (each_at_most (cond f.pe 3 0) ls) h in
    let e : each_at_most 3 ls ≡ true = rw pe at p.1 in
    rw (length-set ls (at / f.sector_bytes) (b % 4), pe) (and-true (eqb (length ls) registers) _ p.0 (set-most 3 ls (at / f.sector_bytes) (b % 4) e (omega arith)))

-- ---- soundness

rest-if : (a b : Bool) → (a ≡ true → b ≡ true) → b ≡ false → a ≡ false
rest-if true b h e = sym (h refl) ∙ e
rest-if false b h e = refl

-- a sound record stays sound by what its row does to it
pub turned-sound : (t : Turn) (d : Device) (sent : List ℕ) (code least : ℕ) (busy : Bool) → TurnLaw t (figures_of d.part) code least busy → least ≤ length sent → (is_busy d.mode ≡ true → busy ≡ true) → sound d ≡ true
    → sound (turned t (figures_of d.part) d (address_of (figures_of d.part) sent) sent) ≡ true
unfolding turned locked
turned-sound Keep d sent code least busy t n h s = s
turned-sound Enable d sent code least busy t n h s = latched-sound d true s (rest-if (is_busy d.mode) busy h t)
turned-sound Disable d sent code least busy t n h s = latched-sound d false s (rest-if (is_busy d.mode) busy h t)
turned-sound (Start k) d sent code least busy t n h s = started-sound d _ (duration_of k d) s (duration-fits k d (figures_of d.part) code least t s) (cycle-fits k d.part code least sent t n)
turned-sound Sleep d sent code least busy t n h s = moded-sound d d.latch Deep s (sym (rest-if (is_busy d.mode) busy h t.0)) t.1
turned-sound Wake d sent code least busy t n h s = moded-sound d d.latch Standby s (sym (rest-if (is_busy d.mode) busy h t)) refl
turned-sound Lock d sent code least busy t n h s =
    let ls = relocked (figures_of d.part) d.locks (address_of (figures_of d.part) sent) (get_or sent 4 0) in
    latched-sound (locked d ls) false (locked-sound d ls s (relocked-fits (figures_of d.part) d.locks _ _ t.1 (sound-has d s).locks-fit)) (rest-if (is_busy d.mode) busy h t.0)

-- ---- what a record keeps

-- the part and the durations
pub record SameMake (d e : Device) : Type 0 where
  pub part : e.part ≡ d.part
  pub program : e.program ≡ d.program
  pub sector : e.sector_erase ≡ d.sector_erase
  pub bulk : e.bulk_erase ≡ d.bulk_erase
  pub status : e.write_status ≡ d.write_status

-- BP and SRWD
pub record SameSettings (d e : Device) : Type 0 where
  pub bp : e.bp ≡ d.bp
  pub srwd : e.srwd ≡ d.srwd

-- a record with another latch and mode
same-make : (d : Device) (l : Bool) (m : Mode) → SameMake d (moded d l m)
unfolding moded
same-make d l m = record { part = refl; program = refl; sector = refl; bulk = refl; status = refl }

started-make : (d : Device) (c : Cycle) (t : ℕ) → SameMake d (started d c t)
unfolding started running moded remembering
started-make d c t = record { part = refl; program = refl; sector = refl; bulk = refl; status = refl }

pub turned-make : (t : Turn) (f : Figures) (d : Device) (at : ℕ) (sent : List ℕ) → SameMake d (turned t f d at sent)
unfolding turned moded locked record_is.latched
turned-make Keep f d at sent = same-make d d.latch d.mode
turned-make Enable f d at sent = same-make d true d.mode
turned-make Disable f d at sent = same-make d false d.mode
turned-make (Start k) f d at sent = started-make d _ (duration_of k d)
turned-make Sleep f d at sent = same-make d d.latch Deep
turned-make Wake f d at sent = same-make d d.latch Standby
turned-make Lock f d at sent = record { part = refl; program = refl; sector = refl; bulk = refl; status = refl }

-- no instruction changes BP or SRWD: a write of them changes them at its end
pub turned-settings : (t : Turn) (f : Figures) (d : Device) (at : ℕ) (sent : List ℕ) → SameSettings d (turned t f d at sent)
unfolding turned started running moded remembering locked record_is.latched
turned-settings Keep f d at sent = record { bp = refl; srwd = refl }
turned-settings Enable f d at sent = record { bp = refl; srwd = refl }
turned-settings Disable f d at sent = record { bp = refl; srwd = refl }
turned-settings (Start k) f d at sent = record { bp = refl; srwd = refl }
turned-settings Sleep f d at sent = record { bp = refl; srwd = refl }
turned-settings Wake f d at sent = record { bp = refl; srwd = refl }
turned-settings Lock f d at sent = record { bp = refl; srwd = refl }

starts-writes : (k : Kind) (f : Figures) (at : ℕ) (sent : List ℕ) (code least : ℕ) → KindLaw k f code least → (uses_of (cycle_of k f at sent).kind).settings ≡ true → code ≡ 0x01
unfolding cycle_of page_cycle write_cycle erase_cycle all_cycle
starts-writes Idle f at sent code least l e = absurd l
starts-writes Page f at sent code least l e = absurd (false≢true e)
starts-writes Sector f at sent code least l e = absurd (false≢true e)
starts-writes All f at sent code least l e = absurd (false≢true e)
starts-writes Settings f at sent code least l e = l
starts-writes PageWrite f at sent code least l e = absurd (false≢true e)
starts-writes PageErase f at sent code least l e = absurd (false≢true e)
starts-writes Subsector f at sent code least l e = absurd (false≢true e)

-- a settings write is remembered only if one was before, or if WRSR starts it
pub turned-writes : (t : Turn) (f : Figures) (d : Device) (at : ℕ) (sent : List ℕ) (code least : ℕ) (busy : Bool) → TurnLaw t f code least busy
    → (uses_of (turned t f d at sent).cycle.kind).settings ≡ true → ((uses_of d.cycle.kind).settings ≡ true) ⊎ (code ≡ 0x01)
unfolding turned started running moded remembering locked record_is.latched
turned-writes Keep f d at sent code least busy l e = inl e
turned-writes Enable f d at sent code least busy l e = inl e
turned-writes Disable f d at sent code least busy l e = inl e
turned-writes (Start k) f d at sent code least busy l e = inr (starts-writes k f at sent code least l e)
turned-writes Sleep f d at sent code least busy l e = inl e
turned-writes Wake f d at sent code least busy l e = inl e
turned-writes Lock f d at sent code least busy l e = inl e

-- ---- waiting, power-up and power loss

-- a sound record stays sound
pub wait-sound : (c : Chip) (t : ℕ) → sound c.device ≡ true → sound (wait_call c t).chip.device ≡ true
unfolding wait_call
wait-sound c t s = zero-ind (λ (n : Chip). sound n.device ≡ true) (time_number c.device (length c.array) 0) (waited-sound c t s) s

pub power-up-sound : (c : Chip) → sound c.device ≡ true → sound (power_up_call c).chip.device ≡ true
unfolding power_up_call
power-up-sound c s = zero-ind (λ (n : Chip). sound n.device ≡ true) (time_number c.device (length c.array) 0) (powered-sound c s) s

pub loss-sound : (c : Chip) (mask : List ℕ) (told : Bool) → sound c.device ≡ true → sound (loss_call c mask told).chip.device ≡ true
unfolding loss_call
loss-sound c mask told s = zero-ind (λ (n : Chip). sound n.device ≡ true) (time_number c.device (length c.array) (mask_number (length mask))) (lost-sound c mask told s) s

-- the part and the durations stay
over-make : (d : Device) (told : Bool) → SameMake d (after_cycle d told)
unfolding after_cycle ended moded remembering settled
over-make d told = go ((uses_of d.cycle.kind).settings && told)
  where
    go : (b : Bool) → SameMake d (ended (cond b (settled d d.cycle.srwd d.cycle.bp) d))
    go true = record { part = refl; program = refl; sector = refl; bulk = refl; status = refl }
    go false = record { part = refl; program = refl; sector = refl; bulk = refl; status = refl }

-- with all lock registers zero, too
off-make : (d : Device) (told : Bool) → SameMake d (unlocked (after_cycle d told))
unfolding unlocked locked
off-make d told = let m = over-make d told in record { part = m.part; program = m.program; sector = m.sector; bulk = m.bulk; status = m.status }

stays-make : (d : Device) → SameMake d d
stays-make d = record { part = refl; program = refl; sector = refl; bulk = refl; status = refl }

waited-make : (m : Mode) (c : Chip) (t : ℕ) → SameMake c.device (waited_in m c t).device
unfolding running finished
waited-make Standby c t = stays-make c.device
waited-make (Busy left) c t = cond_ind (λ (n : Chip). SameMake c.device n.device) (ltb t left) (same-make c.device (latch_at (left - t)) (Busy (left - t))) (over-make c.device true)
waited-make Deep c t = stays-make c.device

pub wait-make : (c : Chip) (t : ℕ) → SameMake c.device (wait_call c t).chip.device
unfolding wait_call waited
wait-make c t = zero-ind (λ (n : Chip). SameMake c.device n.device) (time_number c.device (length c.array) 0) (waited-make c.device.mode c t) (stays-make c.device)

pub power-up-make : (c : Chip) → SameMake c.device (power_up_call c).chip.device
unfolding power_up_call powered_up finished
power-up-make c = zero-ind (λ (n : Chip). SameMake c.device n.device) (time_number c.device (length c.array) 0) (off-make c.device true) (stays-make c.device)

pub loss-make : (c : Chip) (mask : List ℕ) (told : Bool) → SameMake c.device (loss_call c mask told).chip.device
unfolding loss_call lost
loss-make c mask told = zero-ind (λ (n : Chip). SameMake c.device n.device) (time_number c.device (length c.array) (mask_number (length mask))) (off-make c.device told) (stays-make c.device)

-- BP and SRWD stay, unless a settings write comes to its end
pub over-settings : (d : Device) (told : Bool) → (uses_of d.cycle.kind).settings ≡ false → SameSettings d (after_cycle d told)
unfolding after_cycle ended moded remembering
over-settings d told e = rw e (record { bp = refl; srwd = refl })

pub off-settings : (d : Device) (told : Bool) → (uses_of d.cycle.kind).settings ≡ false → SameSettings d (unlocked (after_cycle d told))
unfolding unlocked locked
off-settings d told e = let m = over-settings d told e in record { bp = m.bp; srwd = m.srwd }

stays-settings : (d : Device) → SameSettings d d
stays-settings d = record { bp = refl; srwd = refl }

waited-settings : (m : Mode) (c : Chip) (t : ℕ) → (uses_of c.device.cycle.kind).settings ≡ false → SameSettings c.device (waited_in m c t).device
unfolding running moded finished
waited-settings Standby c t e = stays-settings c.device
waited-settings (Busy left) c t e = cond_ind (λ (n : Chip). SameSettings c.device n.device) (ltb t left) (record { bp = refl; srwd = refl }) (over-settings c.device true e)
waited-settings Deep c t e = stays-settings c.device

pub wait-settings : (c : Chip) (t : ℕ) → (uses_of c.device.cycle.kind).settings ≡ false → SameSettings c.device (wait_call c t).chip.device
unfolding wait_call waited
wait-settings c t e = zero-ind (λ (n : Chip). SameSettings c.device n.device) (time_number c.device (length c.array) 0) (waited-settings c.device.mode c t e) (stays-settings c.device)

pub power-up-settings : (c : Chip) → (uses_of c.device.cycle.kind).settings ≡ false → SameSettings c.device (power_up_call c).chip.device
unfolding power_up_call powered_up finished
power-up-settings c e = zero-ind (λ (n : Chip). SameSettings c.device n.device) (time_number c.device (length c.array) 0) (off-settings c.device true e) (stays-settings c.device)

pub loss-settings : (c : Chip) (mask : List ℕ) (told : Bool) → (uses_of c.device.cycle.kind).settings ≡ false → SameSettings c.device (loss_call c mask told).chip.device
unfolding loss_call lost
loss-settings c mask told e = zero-ind (λ (n : Chip). SameSettings c.device n.device) (time_number c.device (length c.array) (mask_number (length mask))) (off-settings c.device told e) (stays-settings c.device)
