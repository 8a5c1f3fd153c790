-- Document 02, Wishes 9 and 11: how a cycle ends, on its last tick, at power-up, or cut by a power loss; and what the calls answer and leave.
use Rattle.std.specs.Prelude.{◌≡◌, Bool, true, cond, not, ◌&&◌, List, ℕ, ◌-◌, eqb, ltb, length}
use Rattle.slices.specs.Changed.{map_at}
use Rattle.slices.specs.Chosen.{on_zero}
use Rattle.parts.specs.Parts.{figures_of}
use Rattle.device.specs.declared.Mode.{Mode}
use Rattle.device.specs.declared.Mode.TheVariants.{Standby, Busy, Deep}
use Rattle.device.specs.declared.Device.{Device}
use Rattle.device.specs.declared.Checked.{Checked}
use Rattle.device.specs.Chip.{Chip, chip}
use Rattle.device.specs.Locks.{no_locks}
use Rattle.device.specs.Cycles.{uses_of, touched, cut}
use Rattle.device.specs.Device.{settled, running, ended, locked, sound}

-- ---- the end of a cycle: `told` is the yes, true, or no, false, of a power loss

-- the record when its cycle is over: a settings write counts on yes; then standby, latch reset, no cycle remembered
unfoldable pub after_cycle : Device → Bool → Device
after_cycle d told = ended (cond ((uses_of d.cycle.kind).settings && told) (settled d d.cycle.srwd d.cycle.bp) d)

-- a cycle completed, on its last tick or at power-up; outside a cycle only standby, latch reset. The lock registers stay
unfoldable pub finished : Chip → Chip
finished c = chip (after_cycle c.device true) (map_at (touched (figures_of c.device.part) c.device.cycle) c.array)

-- the record once power was off: all lock registers zero, in a cycle or not
unfoldable pub unlocked : Device → Device
unlocked d = locked d no_locks

-- power-up: a cycle is completed, then the lock registers are zero
unfoldable pub powered_up : Chip → Chip
powered_up c = chip (unlocked (finished c).device) (finished c).array

-- a power loss, with a mask and a yes or no; outside a cycle only standby, latch reset, all lock registers zero
unfoldable pub lost : Chip → List ℕ → Bool → Chip
lost c mask told = chip (unlocked (after_cycle c.device told)) (map_at (cut (figures_of c.device.part) c.device.cycle mask) c.array)

-- waiting in a mode: fewer ticks than are left fall off, with the latch that belongs to the ticks left; else the cycle is completed; without a cycle nothing changes
abbrev pub waited_in : Mode → Chip → ℕ → Chip
waited_in Standby c t = c
waited_in (Busy left) c t = cond (ltb t left) (chip (running c.device (left - t)) c.array) (finished c)
waited_in Deep c t = c

-- t ticks later
unfoldable pub waited : Chip → ℕ → Chip
waited c t = waited_in c.device.mode c t

-- ---- the calls

-- 6 where the record is not sound, 2 where the array is not of the part's length, else the next number
unfoldable pub time_number : Device → ℕ → ℕ → ℕ
time_number d array next =
    cond (not (sound d)) 6
    (cond (not (eqb array (figures_of d.part).bytes)) 2
    next)

-- 41 where a mask is not of 256 bytes, else 0
abbrev pub mask_number : ℕ → ℕ
mask_number mask = cond (not (eqb mask 256)) 41 0

-- what a call answers, and the chip that it leaves
pub record Timed : Type 0 where
  pub answer : ℕ
  pub chip : Chip

-- only an answer of 0 changes anything
abbrev pub timed : ℕ → Chip → Chip → Timed
timed number next was = record { answer = number; chip = on_zero number next was }

-- waiting t ticks
unfoldable pub wait_call : Chip → ℕ → Timed
wait_call c t = timed (time_number c.device (length c.array) 0) (waited c t) c

-- power-up
unfoldable pub power_up_call : Chip → Timed
power_up_call c = timed (time_number c.device (length c.array) 0) (powered_up c) c

-- a power loss
unfoldable pub loss_call : Chip → List ℕ → Bool → Timed
loss_call c mask told = timed (time_number c.device (length c.array) (mask_number (length mask))) (lost c mask told) c

-- an answer, a record handed back and an array as it then is that are those of a call
pub record Handed (o : Timed) (r : Checked) (array' : List ℕ) : Type 0 where
  pub answer : r.answer ≡ o.answer
  pub device : r.device ≡ o.chip.device
  pub memory : array' ≡ o.chip.array

-- ---- a wait foreseen

-- the record t ticks later, whatever bytes stand in an array
abbrev pub Rested : Device → ℕ → Device → Type 0
Rested d t r = (xs : List ℕ) → r ≡ (waited (chip d xs) t).device

-- answer and next record of a wait, whatever bytes stand in an array of this length
pub record WaitForeseen (d : Device) (array t : ℕ) (r : Checked) : Type 0 where
  pub answer : (xs : List ℕ) → length xs ≡ array → r.answer ≡ (wait_call (chip d xs) t).answer
  pub device : (xs : List ℕ) → length xs ≡ array → r.device ≡ (wait_call (chip d xs) t).chip.device
