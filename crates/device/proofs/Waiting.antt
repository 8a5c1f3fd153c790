-- Waiting: when a cycle's latch falls, when its effect comes, and that waits add up.
-- Assumes nothing.
use mathlib.Core.Path.{◌≡◌, refl, sym, ap, subst, ◌∙◌}
use mathlib.Core.Bool.{Bool, true, false, cond, ◌&&◌, false≢true}
use mathlib.Core.List.{List, [], ◌∷◌}
use Prim.Native.Nat.{ℕ, ◌+◌, ◌-◌, ◌≤◌, ◌<◌}
use native.Mathlib.Omega.{arith}
use lib.Dec.{leb, ltb}
use borrow.Author.Tests.{leb-true, leb-false, ltb-true, ltb-false, lt-ltb, le-ltb}
use Rattle.slices.specs.Changed.{map_at}
use Rattle.slices.proofs.Choices.{both}
use Rattle.parts.specs.Parts.{figures_of}
use Rattle.device.specs.declared.Mode.{Mode}
use Rattle.device.specs.declared.Mode.TheVariants.{Standby, Busy, Deep}
use Rattle.device.specs.declared.Device.{Device}
use Rattle.device.specs.Chip.{Chip, chip}
use Rattle.device.specs.Cycles.{uses_of, both_same, touched, cut}
use Rattle.device.specs.Device.{latch_at, moded, latched, settled, remembering, running, ended, ranged_of, mode_sound, sound, is_busy}
use Rattle.device.specs.Time.{after_cycle, finished, unlocked, lost, waited_in, waited}
use Rattle.device.proofs.Sound.{sound-has, waited-sound}

-- ---- when the latch falls

same_true : (a b : Bool) → both_same a b ≡ true → a ≡ b
same_true true b h = sym h
same_true false true h = absurd (false≢true h)
same_true false false h = refl

-- a sound busy record has ticks left in range, and their latch
busy-fits : (d : Device) (left : ℕ) → sound d ≡ true → d.mode ≡ Busy left → (ranged_of left ≡ true) × (both_same d.latch (latch_at left) ≡ true)
busy-fits d left h e =
    both (ranged_of left) (both_same d.latch (latch_at left)) (subst (λ (m : Mode). mode_sound m d.latch (figures_of d.part).sleeps ≡ true) e (sound-has d h).mode-fits)

-- it has its latch set exactly if more than one tick is left
pub busy-latch : (d : Device) (left : ℕ) → sound d ≡ true → d.mode ≡ Busy left → d.latch ≡ ltb 1 left
unfolding latch_at
busy-latch d left h e = same_true d.latch (ltb 1 left) (busy-fits d left h e).1

-- so it is in a cycle, as one that was started
pub as-running : (d : Device) (left : ℕ) → sound d ≡ true → d.mode ≡ Busy left → d ≡ running d left
unfolding running moded latch_at
as-running d left h e =
    let x : ◌≡◌ {A = Device} (record { part = d.part; bp = d.bp; srwd = d.srwd; latch = d.latch; mode = d.mode; program = d.program; sector_erase = d.sector_erase; bulk_erase = d.bulk_erase; write_status = d.write_status; cycle = d.cycle; locks = d.locks }) (running d left) = rw (busy-latch d left h e, e) in
    x

-- ---- when the effect comes

-- a wait shorter than the cycle leaves it busy, with the latch set exactly if more than one tick is then left; the array stays
pub cycle-goes-on : (d : Device) (a : List ℕ) (t w : ℕ) → w < t → waited (chip (running d t) a) w ≡ chip (moded d (ltb 1 (t - w)) (Busy (t - w))) a
unfolding waited running moded latch_at
cycle-goes-on d a t w h = rw (lt-ltb w t h)

-- the ticks left do not matter to the end
pub over-running : (d : Device) (t : ℕ) (told : Bool) → after_cycle (running d t) told ≡ after_cycle d told
unfolding after_cycle ended moded remembering running settled
over-running d t told = go ((uses_of d.cycle.kind).settings && told)
  where
    go : (b : Bool) → ended (cond b (settled (running d t) d.cycle.srwd d.cycle.bp) (running d t)) ≡ ended (cond b (settled d d.cycle.srwd d.cycle.bp) d)
    go true = refl
    go false = refl

pub finished-running : (d : Device) (a : List ℕ) (t : ℕ) → finished (chip (running d t) a) ≡ finished (chip d a)
unfolding finished running moded
finished-running d a t = ap (λ (n : Device). chip n (map_at (touched (figures_of d.part) d.cycle) a)) (over-running d t true)

-- a wait as long as the cycle completes it, whenever the latch falls
pub cycle-ends : (d : Device) (a : List ℕ) (t w : ℕ) → t ≤ w → waited (chip (running d t) a) w ≡ finished (chip d a)
unfolding waited running moded
cycle-ends d a t w h = rw (le-ltb w t h) (finished-running d a t)

-- whether t ticks reach the last one of a cycle
abbrev pub ends_in : Mode → ℕ → Bool
ends_in Standby t = false
ends_in (Busy left) t = leb left t
ends_in Deep t = false

-- what does not change before the last tick
pub record Early (was is : Chip) : Type 0 where
  pub array : is.array ≡ was.array
  pub bp : is.device.bp ≡ was.device.bp
  pub srwd : is.device.srwd ≡ was.device.srwd
  pub cycle : is.device.cycle ≡ was.device.cycle
  pub locks : is.device.locks ≡ was.device.locks

-- THEOREM: a wait that does not reach the last tick changes nothing of the array, the settings, the remembered cycle and the lock registers
pub waited-early : (c : Chip) (t : ℕ) → ends_in c.device.mode t ≡ false → Early c (waited c t)
unfolding waited running moded
waited-early c t h = go c.device.mode h
  where
    go : (m : Mode) → ends_in m t ≡ false → Early c (waited_in m c t)
    go Standby e = record { array = refl; bp = refl; srwd = refl; cycle = refl; locks = refl }
    go (Busy left) e = rw (lt-ltb t left (leb-false left t e)) (record { array = refl; bp = refl; srwd = refl; cycle = refl; locks = refl })
    go Deep e = record { array = refl; bp = refl; srwd = refl; cycle = refl; locks = refl }

-- ---- what does not depend on the latch

-- where the end of a cycle leads, or a power-up or a loss outside one
pub over-unread : (d : Device) (l told : Bool) → after_cycle (latched d l) told ≡ after_cycle d told
unfolding after_cycle ended moded remembering latched settled
over-unread d l told = go ((uses_of d.cycle.kind).settings && told)
  where
    go : (b : Bool) → ended (cond b (settled (latched d l) d.cycle.srwd d.cycle.bp) (latched d l)) ≡ ended (cond b (settled d d.cycle.srwd d.cycle.bp) d)
    go true = refl
    go false = refl

pub finish-unread : (d : Device) (a : List ℕ) (l : Bool) → finished (chip (latched d l) a) ≡ finished (chip d a)
unfolding finished latched
finish-unread d a l = ap (λ (n : Device). chip n (map_at (touched (figures_of d.part) d.cycle) a)) (over-unread d l true)

pub loss-unread : (d : Device) (a mask : List ℕ) (l told : Bool) → lost (chip (latched d l) a) mask told ≡ lost (chip d a) mask told
unfolding lost latched
loss-unread d a mask l told = ap (λ (n : Device). chip (unlocked n) (map_at (cut (figures_of d.part) d.cycle mask) a)) (over-unread d l told)

-- where a wait leads in a cycle does not depend on the latch before it
pub wait-unread : (d : Device) (a : List ℕ) (l : Bool) (t : ℕ) → is_busy d.mode ≡ true → waited (chip (latched d l) a) t ≡ waited (chip d a) t
unfolding waited latched running moded
wait-unread d a l t h = go d.mode h
  where
    go : (m : Mode) → is_busy m ≡ true → waited_in m (chip (latched d l) a) t ≡ waited_in m (chip d a) t
    go Standby e = absurd (false≢true e)
    go (Busy left) e = ap (cond (ltb t left) (chip (running d (left - t)) a)) (finish-unread d a l)
    go Deep e = absurd (false≢true e)

-- ---- waits add up

-- the end of a cycle is the end of it
pub finished-idle : (c : Chip) → is_busy (finished c).device.mode ≡ false
unfolding finished after_cycle ended moded
finished-idle c = refl

-- outside a cycle a wait changes nothing
pub wait-idle : (c : Chip) (t : ℕ) → is_busy c.device.mode ≡ false → waited c t ≡ c
unfolding waited
wait-idle c t h = go c.device.mode h
  where
    go : (m : Mode) → is_busy m ≡ false → waited_in m c t ≡ c
    go Standby e = refl
    go (Busy left) e = absurd (false≢true (sym e))
    go Deep e = refl

-- waiting 0 ticks changes nothing
pub wait-none : (c : Chip) → sound c.device ≡ true → waited c 0 ≡ c
unfolding waited
wait-none c s = go c.device.mode refl
  where
    go : (m : Mode) → c.device.mode ≡ m → waited_in m c 0 ≡ c
    go Standby e = refl
    go (Busy left) e =
        let some : 1 ≤ left = leb-true 1 left (both (leb 1 left) (leb left 1000000) (busy-fits c.device left s e).0).0 in
        let all : left - 0 ≡ left = omega arith in
        rw (lt-ltb 0 left some, all) (ap (λ (d : Device). chip d c.array) (sym (as-running c.device left s e)))
    go Deep e = refl

-- THEOREM: waiting a ticks and then b is waiting a + b
pub waits-add : (c : Chip) (a b : ℕ) → waited (waited c a) b ≡ waited c (a + b)
unfolding waited running moded
waits-add c a b = go c.device.mode refl
  where
    d : Device
    d = c.device

    xs : List ℕ
    xs = c.array

    on : (left : ℕ) → a < left → (k : Bool) → ltb (a + b) left ≡ k → waited (chip (running d (left - a)) xs) b ≡ cond k (chip (running d (left - (a + b))) xs) (finished c)
    on left h true e =
        let k : a + b < left = ltb-true (a + b) left e in
        let m : b < left - a = omega arith in
        let n : left - a - b ≡ left - (a + b) = omega arith in
        rw (lt-ltb b (left - a) m, n)
    on left h false e =
        let k : left ≤ a + b = ltb-false (a + b) left e in
        cycle-ends d xs (left - a) b (omega arith)

    first : (left : ℕ) (k : Bool) → ltb a left ≡ k → waited (cond k (chip (running d (left - a)) xs) (finished c)) b ≡ cond (ltb (a + b) left) (chip (running d (left - (a + b))) xs) (finished c)
    first left true e = on left (ltb-true a left e) (ltb (a + b) left) refl
    first left false e =
        let k : left ≤ a = ltb-false a left e in
        let m : left ≤ a + b = omega arith in
        rw (le-ltb (a + b) left m) (wait-idle (finished c) b (finished-idle c))

    go : (m : Mode) → c.device.mode ≡ m → waited (waited_in m c a) b ≡ waited_in m c (a + b)
    go Standby e = rw e
    go (Busy left) e = first left (ltb a left) refl
    go Deep e = rw e

-- the sum of the ticks of several waits
abbrev pub ticks : List ℕ → ℕ
ticks [] = 0
ticks (t ∷ ts) = t + ticks ts

-- several waits, one after the other
abbrev pub waited_all : Chip → List ℕ → Chip
waited_all c [] = c
waited_all c (t ∷ ts) = waited_all (waited c t) ts

-- THEOREM: however a wait is cut up, it is one wait
pub wait-whole : (c : Chip) (ts : List ℕ) → sound c.device ≡ true → waited_all c ts ≡ waited c (ticks ts)
wait-whole c [] s = sym (wait-none c s)
wait-whole c (t ∷ ts) s = wait-whole (waited c t) ts (waited-sound c t s) ∙ waits-add c t (ticks ts)
