-- Time and power over the calls: waits however cut up are one wait; before the last tick nothing of array and settings changes, whatever is sent; power-up is a loss that completed the cycle; a second loss changes nothing more; what a cut page write leaves.
-- Assumes nothing.
use mathlib.Core.Path.{◌≡◌, refl, sym, ap, ◌∙◌}
use mathlib.Core.Bool.{Bool, true, false, ◌&&◌, false≢true}
use mathlib.Core.List.{List, [], ◌∷◌, map}
use Prim.Native.Nat.{ℕ, ◌+◌, ◌-◌, ◌/◌, ◌<◌}
use native.Mathlib.Omega.{arith}
use borrow.Author.Tests.{eq-eqb, lt-ltb}
use lib.Dec.{eqb}
use lib.ListN.{length, get_or, replicate}
use Rattle.slices.proofs.Choices.{zero-ind}
use Rattle.slices.proofs.Maps.{get_or-map}
use Rattle.memory.specs.Memory.{named}
use Rattle.parts.specs.Parts.{figures_of}
use Rattle.device.specs.declared.Mode.TheVariants.{Busy}
use Rattle.device.specs.declared.cycle.Kind.{Kind}
use Rattle.device.specs.declared.cycle.Kind.TheVariants.{Idle, Page, Sector, All, Settings, PageWrite, PageErase, Subsector}
use Rattle.device.specs.declared.Device.{Device}
use Rattle.device.specs.Chip.{chip}
use Rattle.device.specs.Cycles.{uses_of, cut}
use Rattle.device.specs.Device.{is_busy, running, moded}
use Rattle.device.specs.Time.{powered_up, lost, waited, time_number, mask_number, Timed, wait_call, power_up_call, loss_call}
use Rattle.device.proofs.Timed.{time-next}
use Rattle.device.proofs.Waiting.{Early, ticks, waits-add, wait-none}
use Rattle.device.proofs.Ends.{whole_mask, power-up-is-loss, loss-twice, unnamed-kept}
use Rattle.chip.specs.Events.{Chip, Good, Event, sends, waits, starts, loses, every, goes_on, sent, after, run}
use Rattle.chip.proofs.Busy.{busy-stays}
use Rattle.chip.proofs.Events.{after-good}
use Rattle.chip.proofs.Rules.{Bytes}

-- ---- a call that is not refused

pub wait-done : (c : Chip) → Good c → (t : ℕ) → wait_call c t ≡ record { answer = 0; chip = waited c t }
unfolding wait_call
wait-done c g t = rw (time-next c.device (length c.array) 0 g.sound g.whole)

pub power-up-done : (c : Chip) → Good c → power_up_call c ≡ record { answer = 0; chip = powered_up c }
unfolding power_up_call
power-up-done c g = rw (time-next c.device (length c.array) 0 g.sound g.whole)

pub loss-done : (c : Chip) → Good c → (mask : List ℕ) (told : Bool) → length mask ≡ 256 → loss_call c mask told ≡ record { answer = 0; chip = lost c mask told }
unfolding loss_call
loss-done c g mask told l = rw (eq-eqb (length mask) 256 l, time-next c.device (length c.array) 0 g.sound g.whole)

-- ---- waits

-- THEOREM: a wait cut up into several is the one wait of their sum
pub waits-whole : (ts : List ℕ) (c : Chip) → Good c → run (map waits ts) c ≡ after (waits (ticks ts)) c
waits-whole [] c g = sym (ap (λ (o : Timed). o.chip) (wait-done c g 0) ∙ wait-none c g.sound)
waits-whole (t ∷ ts) c g =
    waits-whole ts (after (waits t) c) (after-good (waits t) c g)
    ∙ (ap (λ (o : Timed). o.chip) (wait-done (after (waits t) c) (after-good (waits t) c g) (ticks ts))
    ∙ (ap (λ (n : Chip). waited n (ticks ts)) (ap (λ (o : Timed). o.chip) (wait-done c g t)) ∙ (waits-add c t (ticks ts) ∙ sym (ap (λ (o : Timed). o.chip) (wait-done c g (t + ticks ts))))))

-- ---- before the last tick

-- the ticks that go by
abbrev pub spent : List Event → ℕ
spent [] = 0
spent (sends bytes p w ∷ es) = spent es
spent (waits t ∷ es) = t + spent es
spent (starts ∷ es) = spent es
spent (loses mask told ∷ es) = spent es

early-then : {a b c : Chip} → Early a b → Early b c → Early a c
early-then p q = record { array = q.array ∙ p.array; bp = q.bp ∙ p.bp; srwd = q.srwd ∙ p.srwd; cycle = q.cycle ∙ p.cycle; locks = q.locks ∙ p.locks }

-- a transaction in a cycle leaves the chip as it was
send-stays : (c : Chip) (n : ℕ) → c.device.mode ≡ Busy n → (bytes : List ℕ) (p : ℕ) (w : Bool) → after (sends bytes p w) c ≡ c
unfolding sent
send-stays c n m bytes p w = let s = busy-stays c.device c.array bytes p w (replicate (length bytes) 0) (ap is_busy m) in rw (s.0, s.1)

-- a wait that does not reach the last tick leaves so many ticks
fewer : (c : Chip) (n t : ℕ) → c.device.mode ≡ Busy n → t < n → waited c t ≡ chip (running c.device (n - t)) c.array
unfolding waited
fewer c n t m lt = rw (m, lt-ltb t n lt)

ran : (c : Chip) (n : ℕ) → Early c (chip (running c.device n) c.array)
unfolding running moded
ran c n = record { array = refl; bp = refl; srwd = refl; cycle = refl; locks = refl }

ran-mode : (d : Device) (n : ℕ) → (running d n).mode ≡ Busy n
unfolding running moded
ran-mode d n = refl

-- THEOREM: over any list of transactions and waits that does not reach a cycle's last tick, array, settings, remembered cycle and lock registers stay
pub not-before : (es : List Event) (c : Chip) (n : ℕ) → c.device.mode ≡ Busy n → every goes_on es ≡ true → spent es < n → Early c (run es c)
unfolding wait_call
not-before [] c n m e lt = record { array = refl; bp = refl; srwd = refl; cycle = refl; locks = refl }
not-before (sends bytes p w ∷ es) c n m e lt = rw (send-stays c n m bytes p w) (not-before es c n m e lt)
not-before (waits t ∷ es) c n m e lt =
    zero-ind (λ (x : Chip). Early c (run es x)) (time_number c.device (length c.array) 0)
    (rw (fewer c n t m (omega arith)) (early-then (ran c (n - t)) (not-before es (chip (running c.device (n - t)) c.array) (n - t) (ran-mode c.device (n - t)) e (omega arith))))
    (not-before es c n m e (omega arith))
not-before (starts ∷ es) c n m e lt = absurd (false≢true e)
not-before (loses mask told ∷ es) c n m e lt = absurd (false≢true e)

-- ---- power-up and power loss

mask-whole : (k : Kind) → mask_number (length (whole_mask k)) ≡ 0
mask-whole Idle = refl
mask-whole Page = refl
mask-whole Sector = refl
mask-whole All = refl
mask-whole Settings = refl
mask-whole PageWrite = refl
mask-whole PageErase = refl
mask-whole Subsector = refl

-- THEOREM: power-up, on an array of bytes and in any cycle but a page write, is the loss that completed the cycle: mask 00 for a program, FF for an erase, and yes
pub power-up-is-a-loss : (c : Chip) → (uses_of c.device.cycle.kind).named ≡ false → Bytes c.array → power_up_call c ≡ loss_call c (whole_mask c.device.cycle.kind) true
unfolding power_up_call loss_call
power-up-is-a-loss c e b = rw (mask-whole c.device.cycle.kind, power-up-is-loss c e b)

lost-again : (c : Chip) (m n : List ℕ) (x y : Bool) → (loss_call (lost c m x) n y).chip ≡ lost c m x
unfolding loss_call
lost-again c m n x y = zero-ind (λ (d : Chip). d ≡ lost c m x) (time_number (lost c m x).device (length (lost c m x).array) (mask_number (length n))) (loss-twice c m n x y) refl

-- THEOREM: a second loss, with whatever mask and word, changes nothing more
pub second-loss : (c : Chip) → Good c → (m n : List ℕ) (x y : Bool) → length m ≡ 256 → run (loses m x ∷ loses n y ∷ []) c ≡ run (loses m x ∷ []) c
second-loss c g m n x y l =
    let e : after (loses m x) c ≡ lost c m x = ap (λ (o : Timed). o.chip) (loss-done c g m x l) in
    ap (after (loses n y)) e ∙ (lost-again c m n x y ∙ sym e)

-- ---- a page write that is cut

-- THEOREM: it leaves every byte that is not named, of its page and of every other, whatever mask and word
pub cut-write-leaves : (c : Chip) (mask : List ℕ) (told : Bool) (i : ℕ) → c.device.cycle.kind ≡ PageWrite → i < length c.array
    → eqb (i / 256) (c.device.cycle.address / 256) && named c.device.cycle.address c.device.cycle.named i ≡ false → get_or (loss_call c mask told).chip.array i 0 ≡ get_or c.array i 0
unfolding loss_call lost
cut-write-leaves c mask told i k lt n =
    zero-ind (λ (x : Chip). get_or x.array i 0 ≡ get_or c.array i 0) (time_number c.device (length c.array) (mask_number (length mask)))
    (get_or-map (cut (figures_of c.device.part) c.device.cycle mask) c.array i 0 lt ∙ (unnamed-kept (figures_of c.device.part) c.device.cycle mask i (get_or c.array i 0) k n).1) refl
