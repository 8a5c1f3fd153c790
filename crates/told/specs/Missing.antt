-- The bits missing told a second time, and computed: bit by bit, slot by slot, page by page, by kind of cycle, and in whole calls on the bench part.
use Rattle.std.specs.Prelude.{◌≡◌, refl, true, false, List, [], ◌∷◌, ◌++◌, map, ℕ, replicate}
use Rattle.std.specs.Int.Count.{ones_in, ones}
use Rattle.slices.specs.Changed.{map_at, window, sum_at}
use Rattle.memory.specs.Memory as memory-is
use Rattle.memory.specs.Missing.{unmet, missing_at, missing, page_of}
use Rattle.parts.specs.Parts.{figures_of}
use Rattle.parts.specs.Protected.{protected_of}
use Rattle.device.specs.Locks.{lock_of, locks_sound, no_locks}
use Rattle.device.specs.declared.cycle.Kind.TheVariants.{Idle, Settings, Page, Sector, All, PageWrite, PageErase, Subsector}
use Rattle.device.specs.Cycles.{no_slots, no_cycle, page_cycle, erase_cycle, all_cycle, settings_cycle, slots_sound, cycle_sound, touched, cut, named_sound}
use Rattle.device.specs.Device.{sound, status_byte, moded, latched, settled, remembering, running, started, ended, latch_at, locked}
use Rattle.device.specs.Time.{after_cycle, finished, lost, waited, time_number, wait_call, power_up_call, loss_call, powered_up, unlocked}
use Rattle.chip.specs.declared.table.Turn.{Turn}
use Rattle.chip.specs.declared.table.Turn.TheVariants.{Keep, Enable, Disable, Start, Sleep, Wake, Lock}
use Rattle.chip.specs.Table.{row_of, address_of}
use Rattle.chip.specs.Answers.{host_number, in_protected, as_needed, chip_number, decided, verdict_of, protected_any, protected_at}
use Rattle.chip.specs.Line.{by_row, heard, heard_row, driven, lined, driving_at, first_of, count_of}
use Rattle.chip.specs.Change.{cycle_of, missing_of, bp_in, turned}
use Rattle.chip.specs.Outcome.{outcome_of, transacted}
use Rattle.chip.specs.Events.{waits, starts, loses, sent, missed}
use Rattle.chip.specs.Events as chip
use Rattle.chip.specs.Worked.{holds, sees, fresh, usual, told, answers, misses, reads}
use Rattle.chip.specs.Worked as worked
use Rattle.told.specs.Cycles.{full}

-- bytes of one value, then one other
abbrev pub before_last : ℕ → ℕ → ℕ → List ℕ
before_last n a b = replicate n a ++ (b ∷ [])

-- an array of a page all 11, a page all 22, and 33 twice
abbrev pub three_pages : List ℕ
three_pages = replicate 256 0x11 ++ (replicate 256 0x22 ++ (0x33 ∷ 0x33 ∷ []))

-- for an instruction whose bytes 4 and 5 are FF and 0F, addressed at 000100, on that array
abbrev pub by_turn : Turn → ℕ
by_turn t = missing_of t 0x100 (0x02 ∷ 0x00 ∷ 0x01 ∷ 0x00 ∷ 0xFF ∷ 0x0F ∷ []) three_pages

-- what is told
pub record Missing : Type 0 where
  -- each bit counts once, where it is 1 in the slot and 0 in the byte
  pub ones-of : map (λ (s : ℕ). unmet s 0x00) (0x01 ∷ 0x02 ∷ 0x04 ∷ 0x08 ∷ 0x10 ∷ 0x20 ∷ 0x40 ∷ 0x80 ∷ []) ≡ replicate 8 1
  pub ones-under : map (λ (x : ℕ). unmet 0xFF x) (0xFE ∷ 0xFD ∷ 0xFB ∷ 0xF7 ∷ 0xEF ∷ 0xDF ∷ 0xBF ∷ 0x7F ∷ []) ≡ replicate 8 1
  -- FF over 00, FF over FF, 00 over FF, 00 over 00, AA over F0, 0F over A0
  pub bits : unmet 0xFF 0x00 ∷ unmet 0xFF 0xFF ∷ unmet 0x00 0xFF ∷ unmet 0x00 0x00 ∷ unmet 0xAA 0xF0 ∷ unmet 0x0F 0xA0 ∷ [] ≡ 8 ∷ 0 ∷ 0 ∷ 0 ∷ 2 ∷ 4 ∷ []
  -- no data: none
  pub none : missing 0 [] (replicate 256 0x00) ≡ 0
  -- one byte at each end of the page, and in it, at an address of a later page: slots that no data reached count nothing
  pub one : map (λ (at : ℕ). missing at (0xFF ∷ []) (replicate 256 0x00)) (0x0000 ∷ 0x00FF ∷ 0x0180 ∷ 0x12FF ∷ []) ≡ 8 ∷ 8 ∷ 8 ∷ 8 ∷ []
  -- the last slot's byte, then the first's: 7F wants seven bits of 00 and none of FF, 0F four and none
  pub wraps : missing 0x02FF (0x7F ∷ 0x0F ∷ []) (before_last 255 0x00 0x00) ∷ missing 0x02FF (0x7F ∷ 0x0F ∷ []) (before_last 255 0xFF 0x00) ∷ missing 0x02FF (0x7F ∷ 0x0F ∷ []) (before_last 255 0x00 0xFF) ∷ [] ≡ 11 ∷ 7 ∷ 4 ∷ []
  -- 255, 256 and 257 bytes FF over 00: all slots but one, all, all
  pub many : map (λ (n : ℕ). missing 0x10 (replicate n 0xFF) (replicate 256 0x00)) (255 ∷ 256 ∷ 257 ∷ []) ≡ 2040 ∷ 2048 ∷ 2048 ∷ []
  -- the last byte of a slot decides: 257 bytes, the first slot's FF, then 00, or 00, then FF
  pub last_none : missing 0 (before_last 256 0xFF 0x00) (replicate 256 0x00) ≡ 2040
  pub last-all : missing 0 (before_last 256 0x00 0xFF) (replicate 256 0x00) ≡ 8
  -- a page that is there in part, or not at all
  pub short : missing 0 (replicate 256 0xFF) (0x00 ∷ 0x0F ∷ []) ∷ missing 0 (replicate 256 0xFF) [] ∷ [] ≡ 12 ∷ 0 ∷ []
  -- the page of an address
  pub pages : map (λ (at : ℕ). page_of at three_pages) (0x000 ∷ 0x0FF ∷ 0x100 ∷ 0x1FF ∷ 0x200 ∷ 0x2FF ∷ 0x300 ∷ []) ≡ replicate 256 0x11 ∷ replicate 256 0x11 ∷ replicate 256 0x22 ∷ replicate 256 0x22 ∷ (0x33 ∷ 0x33 ∷ []) ∷ (0x33 ∷ 0x33 ∷ []) ∷ [] ∷ []
  -- a program alone: FF over 22 and 0F over 22 want six bits and three
  pub program : by_turn (Start Page) ≡ 9
  pub others : map by_turn (Keep ∷ Enable ∷ Disable ∷ Start Settings ∷ Start Sector ∷ Start All ∷ Start Idle ∷ Start PageWrite ∷ Start PageErase ∷ Start Subsector ∷ Sleep ∷ Wake ∷ Lock ∷ []) ≡ replicate 13 0
  -- whole calls: bits missing, none in the cycle nor where the program is ignored (15, 16, 17), none of any other instruction, none after an erase
  pub calls : sees
      (answers (0x02 ∷ 0x00 ∷ 0x0C ∷ 0x10 ∷ 0x00 ∷ 0x0F ∷ []) 0 ∷ answers (0x02 ∷ 0x00 ∷ 0x0C ∷ 0x10 ∷ 0xFF ∷ []) 12 ∷ worked.waits 3
      ∷ answers (0x02 ∷ 0x00 ∷ 0x0C ∷ 0x10 ∷ 0xFF ∷ []) 16 ∷ answers (0x06 ∷ []) 0 ∷ told true 1 (0x02 ∷ 0x00 ∷ 0x0C ∷ 0x10 ∷ 0xFF ∷ []) 15
      ∷ misses (0x02 ∷ 0x00 ∷ 0x0C ∷ 0x10 ∷ 0xFF ∷ 0xFF ∷ []) 12 ∷ worked.waits 3 ∷ answers (0x06 ∷ []) 0 ∷ answers (0x01 ∷ 0x04 ∷ []) 0 ∷ worked.waits 2
      ∷ answers (0x06 ∷ []) 0 ∷ answers (0x02 ∷ 0x00 ∷ 0x0C ∷ 0x10 ∷ 0xFF ∷ []) 17 ∷ reads (0x03 ∷ 0x00 ∷ 0x0C ∷ 0x10 ∷ 0xFF ∷ 0xFF ∷ []) 4 (0x00 ∷ 0x0F ∷ [])
      ∷ answers (0x01 ∷ 0x00 ∷ []) 0 ∷ worked.waits 2 ∷ answers (0x06 ∷ []) 0 ∷ answers (0xD8 ∷ 0x00 ∷ 0x0C ∷ 0x10 ∷ []) 0 ∷ worked.waits 5
      ∷ answers (0x06 ∷ []) 0 ∷ answers (0x02 ∷ 0x00 ∷ 0x0C ∷ 0x10 ∷ 0xFF ∷ 0xFF ∷ []) 0 ∷ holds 0xC10 0xFF ∷ worked.waits 3 ∷ holds 0xC10 0xFF ∷ []) (fresh usual) ≡ true
  -- counted at the transaction, against the array as it is then: of a program that a loss undid, nothing; of one that it cut, what is left; of one that it completed, all
  pub after-loss : sees
      (answers (0x02 ∷ 0x00 ∷ 0x00 ∷ 0x10 ∷ 0x00 ∷ []) 0 ∷ worked.loses 0xFF true ∷ answers (0x06 ∷ []) 0 ∷ answers (0x02 ∷ 0x00 ∷ 0x00 ∷ 0x10 ∷ 0xFF ∷ []) 0 ∷ worked.waits 3
      ∷ answers (0x06 ∷ []) 0 ∷ answers (0x02 ∷ 0x00 ∷ 0x00 ∷ 0x10 ∷ 0x00 ∷ []) 0 ∷ worked.loses 0x3C true ∷ answers (0x06 ∷ []) 0 ∷ misses (0x02 ∷ 0x00 ∷ 0x00 ∷ 0x10 ∷ 0xFF ∷ []) 4 ∷ worked.waits 3
      ∷ answers (0x06 ∷ []) 0 ∷ answers (0x02 ∷ 0x00 ∷ 0x00 ∷ 0x10 ∷ 0x00 ∷ []) 0 ∷ worked.loses 0x00 false ∷ answers (0x06 ∷ []) 0 ∷ misses (0x02 ∷ 0x00 ∷ 0x00 ∷ 0x10 ∷ 0xFF ∷ []) 8 ∷ []) (fresh usual) ≡ true
  -- summed over events: 4 of the program, none while it runs, and 8 of the second one after the wait; then 8 again after a power loss
  pub summed : missed
      (chip.sends (0x02 ∷ 0x00 ∷ 0x00 ∷ 0x00 ∷ 0x0F ∷ []) 0 true ∷ chip.sends (0x02 ∷ 0x00 ∷ 0x00 ∷ 0x01 ∷ 0xFF ∷ []) 0 true ∷ waits 3
      ∷ chip.sends (0x06 ∷ []) 0 true ∷ chip.sends (0x02 ∷ 0x00 ∷ 0x00 ∷ 0x01 ∷ 0xFF ∷ []) 0 true ∷ starts
      ∷ loses (full 0xFF) true ∷ chip.sends (0x06 ∷ []) 0 true ∷ chip.sends (0x02 ∷ 0x00 ∷ 0x00 ∷ 0x01 ∷ 0xFF ∷ []) 0 true ∷ loses (full 0xFF) false ∷ [])
      (record { device = usual; array = replicate 4096 0x00 }) ≡ 20

-- computed by the checker
pub is-missing : Missing
unfolding sees sent map_at window sum_at memory-is.blank memory-is.filled memory-is.programmed memory-is.erased memory-is.cut_page memory-is.cut_sector memory-is.reached memory-is.landed ones ones_in missing_at missing page_of figures_of protected_of time_number wait_call power_up_call loss_call after_cycle finished lost waited sound status_byte moded latched settled remembering running started ended latch_at row_of address_of host_number in_protected as_needed chip_number decided verdict_of by_row heard heard_row driven lined driving_at first_of count_of no_slots no_cycle page_cycle erase_cycle all_cycle settings_cycle slots_sound cycle_sound cycle_of touched cut missing_of bp_in turned outcome_of transacted named_sound locks_sound no_locks protected_at protected_any lock_of unlocked locked powered_up
is-missing = record {
  ones-of = refl;
  ones-under = refl;
  bits = refl;
  none = refl;
  one = refl;
  wraps = refl;
  many = refl;
  last_none = refl;
  last-all = refl;
  short = refl;
  pages = refl;
  program = refl;
  others = refl;
  calls = refl;
  after-loss = refl;
  summed = refl;
}
