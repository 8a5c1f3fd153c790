-- Lock registers: which calls change one, and what a sector is worth that is write-locked and frozen.
-- Assumes nothing.
use mathlib.Core.Path.{◌≡◌, refl, sym, ap, ◌∙◌}
use mathlib.Core.Bool.{Bool, true, false, cond, ◌&&◌, true≢false, false≢true}
use mathlib.Core.Logic.{◌⊎◌, inl, inr}
use mathlib.Core.List.{List, [], ◌∷◌}
use Prim.Native.Nat.{ℕ, ◌-◌, ◌/◌, ◌<◌}
use borrow.Author.Tests.{eqb-true}
use lib.Dec.{eqb, ltb}
use lib.ListN.{length, get_or, replicate}
use Rattle.slices.proofs.Choices.{cond_ind, zero-ind, both}
use Rattle.slices.proofs.Maps.{get_or-map}
use Rattle.parts.specs.declared.Figures.{Figures}
use Rattle.parts.specs.Parts.{figures_of}
use Rattle.parts.proofs.Laws.{sane}
use Rattle.device.specs.declared.Mode.{Mode}
use Rattle.device.specs.declared.Mode.TheVariants.{Standby, Busy, Deep}
use Rattle.device.specs.declared.Device.{Device}
use Rattle.device.specs.declared.cycle.Kind.{Kind}
use Rattle.device.specs.Chip.{chip}
use Rattle.device.specs.Locks.{no_locks, stops, freezes, lock_of, any_stops}
use Rattle.device.specs.Cycles.{uses_of, no_cycle, touched}
use Rattle.device.specs.Device.{is_busy, moded, settled, locked, remembering, running, started, ended, sound}
use Rattle.device.specs.Device as record_is
use Rattle.device.specs.Time.{after_cycle, finished, unlocked, powered_up, lost, waited_in, waited, time_number, wait_call, power_up_call, loss_call}
use Rattle.device.proofs.Registers.{neither, none-stops, relocked-other}
use Rattle.device.proofs.Sound.{idle-cycle}
use Rattle.chip.specs.declared.table.Turn.{Turn}
use Rattle.chip.specs.declared.table.Turn.TheVariants.{Keep, Enable, Disable, Start, Sleep, Wake, Lock}
use Rattle.chip.specs.Table.{row_in, address_of}
use Rattle.chip.specs.Answers.{in_protected, protected_at, protected_any, by_area, guarded_in, guarded, frozen}
use Rattle.chip.specs.Change.{turned}
use Rattle.chip.specs.Outcome.{Outcome, outcome_of, transacted}
use Rattle.chip.specs.Events.{Chip, Event, sends, waits, starts, loses, every, goes_on, sent, after, run}
use Rattle.chip.specs.Locked.{register, Locked, Held, LockHolds}
use Rattle.chip.proofs.Areas.{area-less, cycle-area, area-spares}
use Rattle.chip.proofs.Records.{TurnLaw, turn-law}
use Rattle.chip.proofs.Rules.{outcome-ind, array-stays, executed-one}
use Rattle.chip.proofs.Events.{every_append, after-length, after-part}

-- ---- which calls change a lock register

turned-locks : (t : Turn) (f : Figures) (d : Device) (at : ℕ) (sent : List ℕ) (code least : ℕ) (busy : Bool) → TurnLaw t f code least busy → ((turned t f d at sent).locks ≡ d.locks) ⊎ (code ≡ 0xE5)
unfolding turned started running moded remembering record_is.latched
turned-locks Keep f d at sent code least busy l = inl refl
turned-locks Enable f d at sent code least busy l = inl refl
turned-locks Disable f d at sent code least busy l = inl refl
turned-locks (Start k) f d at sent code least busy l = inl refl
turned-locks Sleep f d at sent code least busy l = inl refl
turned-locks Wake f d at sent code least busy l = inl refl
turned-locks Lock f d at sent code least busy l = inr l.2

-- THEOREM: of the transactions, only an executed E5 changes lock registers
pub only-e5-locks : (d : Device) (array sent : List ℕ) (pulses : ℕ) (w : Bool) (response : List ℕ)
    → ((transacted d array sent pulses w response).device.locks ≡ d.locks) ⊎ ((get_or sent 0 0 ≡ 0xE5) × ((transacted d array sent pulses w response).answer.number ≡ 0))
unfolding outcome_of
only-e5-locks d array sent pulses w response =
    outcome-ind d array sent pulses w response (λ (o : Outcome). (o.device.locks ≡ d.locks) ⊎ ((get_or sent 0 0 ≡ 0xE5) × (o.answer.number ≡ 0))) (λ a. inl refl) (λ h b. inl refl)
    (λ h t. executed-one (turned-locks (row_in d sent).turn (figures_of d.part) d (address_of (figures_of d.part) sent) sent (get_or sent 0 0) (row_in d sent).least (row_in d sent).busy (turn-law (figures_of d.part) (get_or sent 0 0))))

over-locks : (d : Device) (told : Bool) → (after_cycle d told).locks ≡ d.locks
unfolding after_cycle ended moded remembering settled
over-locks d told = go ((uses_of d.cycle.kind).settings && told)
  where
    go : (b : Bool) → (ended (cond b (settled d d.cycle.srwd d.cycle.bp) d)).locks ≡ d.locks
    go true = refl
    go false = refl

-- THEOREM: no wait changes one
pub wait-locks : (c : Chip) (t : ℕ) → (wait_call c t).chip.device.locks ≡ c.device.locks
unfolding wait_call waited running moded finished
wait-locks c t = zero-ind (λ (n : Chip). n.device.locks ≡ c.device.locks) (time_number c.device (length c.array) 0) (go c.device.mode) refl
  where
    go : (m : Mode) → (waited_in m c t).device.locks ≡ c.device.locks
    go Standby = refl
    go (Busy left) = cond_ind (λ (n : Chip). n.device.locks ≡ c.device.locks) (ltb t left) refl (over-locks c.device true)
    go Deep = refl

-- THEOREM: power-up and loss make all of them zero, unless they are refused
pub power-up-unlocks : (c : Chip) → (power_up_call c).answer ≡ 0 → (power_up_call c).chip.device.locks ≡ no_locks
unfolding power_up_call powered_up unlocked locked
power-up-unlocks c e = rw e

pub loss-unlocks : (c : Chip) (mask : List ℕ) (told : Bool) → (loss_call c mask told).answer ≡ 0 → (loss_call c mask told).chip.device.locks ≡ no_locks
unfolding loss_call lost unlocked locked
loss-unlocks c mask told e = rw e

-- ---- a frozen register

turned-frozen : (t : Turn) (f : Figures) (d : Device) (at : ℕ) (sent : List ℕ) (s : ℕ) → frozen t f d at ≡ false → freezes (get_or d.locks s 0) ≡ true → get_or (turned t f d at sent).locks s 0 ≡ get_or d.locks s 0
unfolding turned started running moded remembering locked record_is.latched lock_of
turned-frozen Keep f d at sent s e h = refl
turned-frozen Enable f d at sent s e h = refl
turned-frozen Disable f d at sent s e h = refl
turned-frozen (Start k) f d at sent s e h = refl
turned-frozen Sleep f d at sent s e h = refl
turned-frozen Wake f d at sent s e h = refl
turned-frozen Lock f d at sent s e h = relocked-other f d.locks at (get_or sent 4 0) s (λ q. true≢false (sym h ∙ (ap (λ (n : ℕ). freezes (get_or d.locks n 0)) q ∙ e)))

-- THEOREM: a frozen register stays over any transaction and any wait
pub frozen-stays : (e : Event) (c : Chip) (s : ℕ) → goes_on e ≡ true → freezes (register c s) ≡ true → register (after e c) s ≡ register c s
unfolding sent outcome_of
frozen-stays (sends bytes p w) c s g h =
    let d = c.device in
    outcome-ind d c.array bytes p w (replicate (length bytes) 0) (λ (o : Outcome). get_or o.device.locks s 0 ≡ get_or d.locks s 0) (λ a. refl) (λ a b. refl)
    (λ a t. turned-frozen (row_in d bytes).turn (figures_of d.part) d (address_of (figures_of d.part) bytes) bytes s t.unlocked h)
frozen-stays (waits t) c s g h = ap (λ (ls : List ℕ). get_or ls s 0) (wait-locks c t)
frozen-stays starts c s g h = absurd (false≢true g)
frozen-stays (loses mask told) c s g h = absurd (false≢true g)

-- ---- a sector that is write-locked and frozen

-- the remembered cycle does not write in sector s
abbrev Away : ℕ → Device → Type 0
Away s d = by_area d.cycle.kind (eqb s (d.cycle.address / (figures_of d.part).sector_bytes)) true ≡ false

-- a cycle that is not guarded does not, where the register of s stops it
kept-away : (k : Kind) (f : Figures) (d : Device) (at s : ℕ) → stops (get_or d.locks s 0) ≡ true → guarded_in k f d at ≡ false → by_area k (eqb s (at / f.sector_bytes)) true ≡ false
unfolding protected_at protected_any lock_of
kept-away k f d at s h = area-less k (λ e. apart (neither (in_protected f d.bp at) _ e).1 (eqb s (at / f.sector_bytes)) refl) (λ e. absurd (true≢false (sym h ∙ none-stops d.locks s (neither (ltb 0 d.bp) (any_stops d.locks) e).1)))
  where
    apart : stops (get_or d.locks (at / f.sector_bytes) 0) ≡ false → (b : Bool) → eqb s (at / f.sector_bytes) ≡ b → b ≡ false
    apart e true q = absurd (true≢false (sym h ∙ (ap (λ (n : ℕ). stops (get_or d.locks n 0)) (eqb-true s (at / f.sector_bytes) q) ∙ e)))
    apart e false q = refl

turned-away : (t : Turn) (d : Device) (at : ℕ) (sent : List ℕ) (s : ℕ) → stops (get_or d.locks s 0) ≡ true → guarded t (figures_of d.part) d at ≡ false → Away s d → Away s (turned t (figures_of d.part) d at sent)
unfolding turned started running moded remembering locked record_is.latched
turned-away Keep d at sent s h g a = a
turned-away Enable d at sent s h g a = a
turned-away Disable d at sent s h g a = a
turned-away (Start k) d at sent s h g a =
    let f = figures_of d.part in
    cycle-area k f at sent (λ n. eqb s (n / f.sector_bytes)) true ∙ kept-away k f d at s h g
turned-away Sleep d at sent s h g a = a
turned-away Wake d at sent s h g a = a
turned-away Lock d at sent s h g a = a

-- a byte of sector s, and a cycle that does not write there
module _ (c : Chip) (s : ℕ) (a : Away s c.device) where
  finished-away : Away s (finished c).device
  unfolding finished after_cycle ended moded remembering no_cycle
  finished-away = refl

  finished-bytes : (i : ℕ) → i < length c.array → i / (figures_of c.device.part).sector_bytes ≡ s → get_or (finished c).array i 0 ≡ get_or c.array i 0
  unfolding finished touched
  finished-bytes i lt e =
      let d = c.device in
      get_or-map (touched (figures_of d.part) d.cycle) c.array i 0 lt
      ∙ area-spares (sane d.part) d.cycle.address d.cycle.slots d.cycle.named i d.cycle.kind (get_or c.array i 0) (rw e a)

finished-locks : (c : Chip) → (finished c).device.locks ≡ c.device.locks
unfolding finished
finished-locks c = over-locks c.device true

-- what one event does
record Spared (s : ℕ) (was is : Chip) : Type 0 where
  held : Held s was is
  away : Away s is.device

stays : (s : ℕ) (c : Chip) → Away s c.device → Spared s c c
stays s c a = record { held = record { register = refl; bytes = λ i lt e. refl }; away = a }

still-running : (c : Chip) (t s : ℕ) → Away s c.device → Spared s c (chip (running c.device t) c.array)
unfolding running moded
still-running c t s a = record { held = record { register = refl; bytes = λ i lt e. refl }; away = a }

spared-wait : (c : Chip) (t s : ℕ) → Away s c.device → Spared s c (after (waits t) c)
unfolding wait_call waited
spared-wait c t s a = zero-ind (Spared s c) (time_number c.device (length c.array) 0) (go c.device.mode) (stays s c a)
  where
    over : Spared s c (finished c)
    over = record { held = record { register = ap (λ (ls : List ℕ). get_or ls s 0) (finished-locks c); bytes = finished-bytes c s a }; away = finished-away c s a }

    go : (m : Mode) → Spared s c (waited_in m c t)
    go Standby = stays s c a
    go (Busy left) = cond_ind (Spared s c) (ltb t left) (still-running c (left - t) s a) over
    go Deep = stays s c a

spared-event : (e : Event) (c : Chip) (s : ℕ) → goes_on e ≡ true → stops (register c s) ≡ true → freezes (register c s) ≡ true → Away s c.device → Spared s c (after e c)
unfolding sent outcome_of
spared-event (sends bytes p w) c s g h f a =
    let d = c.device in
    let r : List ℕ = replicate (length bytes) 0 in
    record {
      held = record { register = frozen-stays (sends bytes p w) c s refl f; bytes = λ i lt e. ap (λ (xs : List ℕ). get_or xs i 0) (array-stays d c.array bytes p w r) };
      away = outcome-ind d c.array bytes p w r (λ (o : Outcome). Away s o.device) (λ x. a) (λ x b. a) (λ x t. turned-away (row_in d bytes).turn d (address_of (figures_of d.part) bytes) bytes s h t.free a);
    }
spared-event (waits t) c s g h f a = spared-wait c t s a
spared-event starts c s g h f a = absurd (false≢true g)
spared-event (loses mask told) c s g h f a = absurd (false≢true g)

held_then : {s : ℕ} {a b c : Chip} → b.device.part ≡ a.device.part → length b.array ≡ length a.array → Held s a b → Held s b c → Held s a c
held_then p l x y = record { register = y.register ∙ x.register; bytes = λ i lt e. y.bytes i (rw l lt) (rw p e) ∙ x.bytes i lt e }

held_all : (es : List Event) (c : Chip) (s : ℕ) → every goes_on es ≡ true → stops (register c s) ≡ true → freezes (register c s) ≡ true → Away s c.device → Held s c (run es c)
held_all [] c s g h f a = record { register = refl; bytes = λ i lt e. refl }
held_all (e ∷ es) c s g h f a =
    let t = both (goes_on e) (every goes_on es) g in
    let k = spared-event e c s t.0 h f a in
    let r = k.held.register in
    held_then (after-part e c) (after-length e c) k.held (held_all es (after e c) s t.1 (ap stops r ∙ h) (ap freezes r ∙ f) k.away)

-- in standby no cycle is remembered
from-rest : (c : Chip) (s : ℕ) → Locked c s → Away s c.device
unfolding no_cycle
from-rest c s k = rw (idle-cycle c.device k.good.sound (rw k.standby))

from-locked : (c : Chip) (s : ℕ) → Locked c s → (es : List Event) → every goes_on es ≡ true → Held s c (run es c)
from-locked c s k es g = held_all es c s g k.write_locked k.locked_down (from-rest c s k)

-- THEOREM: what a lock is worth
pub lock-holds : LockHolds
lock-holds = record {
  ends = from-locked;
  each = λ c s k es later g. from-locked c s k es (both (every goes_on es) (every goes_on later) (sym (every_append goes_on es later) ∙ g)).0;
}
