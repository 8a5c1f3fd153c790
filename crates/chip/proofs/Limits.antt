-- The limits of hardware protection, computed: W high once, SRWD not set, or a settings write under way at the start, undoes it.
-- Assumes nothing.
use mathlib.Core.Path.{◌≡◌, refl, sym, ap}
use mathlib.Core.Bool.{true, false, false≢true}
use mathlib.Core.List.{List}
use Prim.Native.Nat.{ℕ}
use native.Mathlib.Omega.{arith}
use lib.ListN.{length, get_or, length-replicate}
use Rattle.slices.specs.Changed.{map_at}
use Rattle.memory.specs.Memory.{blank, filled, programmed}
use Rattle.parts.specs.Parts.{figures_of}
use Rattle.parts.specs.Protected.{protected_of}
use Rattle.device.specs.Locks.{no_locks, lock_of, locks_sound}
use Rattle.device.specs.Cycles.{no_slots, no_cycle, page_cycle, settings_cycle, slots_sound, named_sound, cycle_sound, touched, cut}
use Rattle.device.specs.Device.{is_busy, sound, moded, latched, locked, settled, remembering, running, started, ended, latch_at}
use Rattle.device.specs.Time.{after_cycle, finished, unlocked, powered_up, lost, waited, time_number, wait_call, power_up_call, loss_call}
use Rattle.chip.specs.Table.{row_of, address_of}
use Rattle.chip.specs.Answers.{host_number, in_protected, protected_at, protected_any, as_needed, chip_number, decided, verdict_of}
use Rattle.chip.specs.Change.{cycle_of, bp_in, turned}
use Rattle.chip.specs.Outcome.{outcome_of, transacted}
use Rattle.chip.specs.Events.{Chip, Event, waits, sent, run}
use Rattle.chip.specs.Protection.{is_protected, Kept, start, attempt, begun, ending, tried, Limits}

-- byte 3,072 is protected and FF at the start: where it is 00 at the end, it was not kept
undone : (c : Chip) (es : List Event) → length c.array ≡ 4096 → is_protected c.device 3072 ≡ true → get_or c.array 3072 0 ≡ 0xFF → (tried es c).byte ≡ 0x00 → Kept c (run es c) → ⊥
undone c es l p f z k =
    let e : get_or (run es c).array 3072 0 ≡ get_or c.array 3072 0 = k.bytes 3072 (omega arith) p in
    omega arith

-- the array of a bench part
long : length begun.array ≡ 4096
unfolding figures_of
long = length-replicate {A = ℕ} 4096 0xFF

pub limits : Limits
unfolding sent transacted map_at blank filled programmed figures_of protected_of wait_call power_up_call loss_call time_number waited finished unlocked powered_up lost after_cycle sound locks_sound no_locks lock_of moded latched locked settled remembering running started ended latch_at no_slots no_cycle page_cycle settings_cycle slots_sound named_sound cycle_sound row_of address_of host_number in_protected protected_at protected_any as_needed chip_number decided verdict_of cycle_of touched cut bp_in turned outcome_of
limits = record {
  armed = record { good = record { sound = refl; whole = long }; standby = refl; srwd = refl };
  low = refl;
  high-once = refl;
  reset = refl;
  begun-good = record { sound = refl; whole = long };
  begun-unarmed = λ a. false≢true (sym (ap is_busy a.standby));
  last-tick = refl;
  powered = refl;
  lost-told = refl;
  lost-not = refl;
  high-undoes = undone (start true) (attempt true) long refl refl refl;
  reset-undoes = undone (start false) (attempt false) long refl refl refl;
  begun-undoes = undone begun (ending (waits 2)) long refl refl refl;
}
