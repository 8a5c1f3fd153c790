-- The stories of `PeCalls`, computed by the checker; those beside all 524,288 bytes by the law of `map_at`.
-- Assumes nothing.
use Rattle.std.specs.Prelude.{◌≡◌, refl, Bool, true, false, ◌&&◌, List, [], ◌∷◌, ◌++◌, ℕ, eqb, length, get_or, replicate}
use Rattle.std.specs.Int.Count.{ones_in, ones}
use Rattle.slices.specs.Changed.{map_at, window, sum_at}
use Rattle.memory.specs.Memory as memory-is
use Rattle.memory.specs.Missing.{missing_at, missing, page_of}
use Rattle.parts.specs.Parts.{figures_of}
use Rattle.parts.specs.Protected.{protected_of}
use Rattle.device.specs.Locks.{lock_of, locks_sound, no_locks, relocked}
use Rattle.device.specs.declared.Mode.TheVariants.{Busy}
use Rattle.device.specs.declared.Device.{Device}
use Rattle.device.specs.Device.{sound, status_byte, moded, latched, settled, remembering, running, started, ended, latch_at, locked}
use Rattle.device.specs.Time.{after_cycle, finished, lost, waited, time_number, wait_call, power_up_call, loss_call, powered_up, unlocked}
use Rattle.chip.specs.Table.{row_of, address_of}
use Rattle.chip.specs.Answers.{host_number, in_protected, as_needed, chip_number, decided, verdict_of, protected_any, protected_at}
use Rattle.chip.specs.Line.{by_row, heard, heard_row, driven, lined, driving_at, first_of, count_of}
use Rattle.device.specs.Cycles.{no_slots, no_cycle, page_cycle, write_cycle, erase_cycle, all_cycle, settings_cycle, slots_sound, cycle_sound, touched, cut, named_sound}
use Rattle.chip.specs.Change.{cycle_of, missing_of, bp_in, turned}
use Rattle.chip.specs.Outcome.{Outcome, outcome_of, transacted, bare}
use Rattle.chip.specs.Events.{Chip, Event, Reply, left, sent}
use Rattle.chip.specs.Events as chip
use Rattle.chip.specs.Worked.{Step, tells, waits, starts, loses, holds, gave, sees, told, answers, misses, reads, status}
use Rattle.told.specs.Pe.{held, unset}
use Rattle.told.specs.PeAnswers.{usual, still, locked_at}
use Rattle.told.specs.PeCycles.{round, some_bits, two_ends}
use Rattle.std.proofs.lemmas.List.{length-replicate, get_or-replicate}
use Prim.Native.Nat.{◌<◌}
use mathlib.Core.Path.{◌∙◌}
use Rattle.device.specs.Chip.{chip}
use Rattle.told.specs.PeCalls.{Stories, shows, mid_write}
use Rattle.told.proofs.WholeCalls.{seen-so}

-- ---- a page write at 0000FE, beside any 524,288 bytes that are all A0

abbrev writing : Device
writing = held 6 0 false true (Busy 3) round (replicate 8 3)

module _ (xs : List ℕ) (long : length xs ≡ 524288) (even : (i : ℕ) → i < 524288 → get_or xs i 0 ≡ 0xA0) where
  powers-any : sees (starts ∷ holds 0x0FE 0x11 ∷ holds 0x0FF 0x22 ∷ holds 0x000 0x33 ∷ holds 0x001 0xA0 ∷ holds 0x100 0xA0 ∷ []) (chip writing xs) ≡ true
  unfolding shows sees sent window sum_at memory-is.blank memory-is.filled memory-is.programmed memory-is.replaced memory-is.named memory-is.erased memory-is.cut_page memory-is.cut_write memory-is.cut_sector figures_of protected_of time_number wait_call power_up_call loss_call after_cycle finished lost waited sound status_byte moded latched settled remembering running started ended latch_at row_of address_of host_number in_protected as_needed chip_number decided verdict_of by_row heard heard_row driven lined driving_at first_of count_of no_slots no_cycle page_cycle write_cycle erase_cycle all_cycle settings_cycle slots_sound cycle_sound cycle_of touched cut missing_of missing missing_at page_of memory-is.reached memory-is.landed ones ones_in bp_in turned outcome_of transacted named_sound locks_sound no_locks protected_at protected_any lock_of relocked unlocked locked powered_up
  powers-any = rw long (seen-so xs long even (touched (figures_of 6) round) (powered_up (chip writing xs)).device (holds 0x0FE 0x11 ∷ holds 0x0FF 0x22 ∷ holds 0x000 0x33 ∷ holds 0x001 0xA0 ∷ holds 0x100 0xA0 ∷ []) refl)

  loses-any : sees (tells (chip.loses some_bits true) (bare 0) [] ∷ holds 0x0FE 0xA1 ∷ holds 0x0FF 0xA2 ∷ holds 0x000 0xA4 ∷ holds 0x001 0xA0 ∷ holds 0x100 0xA0 ∷ []) (chip writing xs) ≡ true
  unfolding shows sees sent window sum_at memory-is.blank memory-is.filled memory-is.programmed memory-is.replaced memory-is.named memory-is.erased memory-is.cut_page memory-is.cut_write memory-is.cut_sector figures_of protected_of time_number wait_call power_up_call loss_call after_cycle finished lost waited sound status_byte moded latched settled remembering running started ended latch_at row_of address_of host_number in_protected as_needed chip_number decided verdict_of by_row heard heard_row driven lined driving_at first_of count_of no_slots no_cycle page_cycle write_cycle erase_cycle all_cycle settings_cycle slots_sound cycle_sound cycle_of touched cut missing_of missing missing_at page_of memory-is.reached memory-is.landed ones ones_in bp_in turned outcome_of transacted named_sound locks_sound no_locks protected_at protected_any lock_of relocked unlocked locked powered_up
  loses-any = rw long (seen-so xs long even (cut (figures_of 6) round some_bits) (lost (chip writing xs) some_bits true).device (holds 0x0FE 0xA1 ∷ holds 0x0FF 0xA2 ∷ holds 0x000 0xA4 ∷ holds 0x001 0xA0 ∷ holds 0x100 0xA0 ∷ []) refl)

  records-any : (wait_call (chip writing xs) 3).chip.device ∷ (loss_call (chip writing xs) some_bits true).chip.device ∷ [] ≡ still 0 false false (replicate 8 3) ∷ still 0 false false unset ∷ []
  unfolding shows sees sent window sum_at memory-is.blank memory-is.filled memory-is.programmed memory-is.replaced memory-is.named memory-is.erased memory-is.cut_page memory-is.cut_write memory-is.cut_sector figures_of protected_of time_number wait_call power_up_call loss_call after_cycle finished lost waited sound status_byte moded latched settled remembering running started ended latch_at row_of address_of host_number in_protected as_needed chip_number decided verdict_of by_row heard heard_row driven lined driving_at first_of count_of no_slots no_cycle page_cycle write_cycle erase_cycle all_cycle settings_cycle slots_sound cycle_sound cycle_of touched cut missing_of missing missing_at page_of memory-is.reached memory-is.landed ones ones_in bp_in turned outcome_of transacted named_sound locks_sound no_locks protected_at protected_any lock_of relocked unlocked locked powered_up
  records-any = rw long refl

-- and so beside so many bytes A0: `n` keeps the checker from writing them out
module _ (n : ℕ) (all : n ≡ 524288) where
  bytes : List ℕ
  bytes = replicate n 0xA0

  long : length bytes ≡ 524288
  unfolding bytes
  long = length-replicate {A = ℕ} n 0xA0 ∙ all

  even : (i : ℕ) → i < 524288 → get_or bytes i 0 ≡ 0xA0
  unfolding bytes
  even i h = get_or-replicate {A = ℕ} n i 0xA0 0 (rw all h)

  powers : sees (starts ∷ holds 0x0FE 0x11 ∷ holds 0x0FF 0x22 ∷ holds 0x000 0x33 ∷ holds 0x001 0xA0 ∷ holds 0x100 0xA0 ∷ []) (chip writing (replicate n 0xA0)) ≡ true
  unfolding bytes
  powers = powers-any bytes long even

  loses-power : sees (tells (chip.loses some_bits true) (bare 0) [] ∷ holds 0x0FE 0xA1 ∷ holds 0x0FF 0xA2 ∷ holds 0x000 0xA4 ∷ holds 0x001 0xA0 ∷ holds 0x100 0xA0 ∷ []) (chip writing (replicate n 0xA0)) ≡ true
  unfolding bytes
  loses-power = loses-any bytes long even

  records : (wait_call (chip writing (replicate n 0xA0)) 3).chip.device ∷ (loss_call (chip writing (replicate n 0xA0)) some_bits true).chip.device ∷ [] ≡ still 0 false false (replicate 8 3) ∷ still 0 false false unset ∷ []
  unfolding bytes
  records = records-any bytes long even

-- computed by the checker
pub stories : Stories
unfolding shows sees sent map_at window sum_at memory-is.blank memory-is.filled memory-is.programmed memory-is.replaced memory-is.named memory-is.erased memory-is.cut_page memory-is.cut_write memory-is.cut_sector figures_of protected_of time_number wait_call power_up_call loss_call after_cycle finished lost waited sound status_byte moded latched settled remembering running started ended latch_at row_of address_of host_number in_protected as_needed chip_number decided verdict_of by_row heard heard_row driven lined driving_at first_of count_of no_slots no_cycle page_cycle write_cycle erase_cycle all_cycle settings_cycle slots_sound cycle_sound cycle_of touched cut missing_of missing missing_at page_of memory-is.reached memory-is.landed ones ones_in bp_in turned outcome_of transacted named_sound locks_sound no_locks protected_at protected_any lock_of relocked unlocked locked powered_up
stories = record {
  rdid = refl;
  rdp = refl;
  dp = refl;
  wrsr = refl;
  pw = refl;
  pp = refl;
  pw-equal = refl;
  pw-wraps = refl;
  pw-257 = refl;
  pw-255 = refl;
  pw-round = refl;
  pw-not = refl;
  pw-protected = refl;
  pe = refl;
  sse = refl;
  se = refl;
  busy = refl;
  wrlr = refl;
  frozen = refl;
  wrlr-not = refl;
  wrlr-reset = refl;
  wrlr-low = refl;
  locked = refl;
  pw-cut = refl;
  pw-power-up = refl;
  erase-cut = refl;
  cleared = refl;
  kept = refl;
  whole-power-up = powers 524288 refl;
  whole-loss = loses-power 524288 refl;
  whole-records = records 524288 refl;
}
