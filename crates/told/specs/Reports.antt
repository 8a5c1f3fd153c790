-- Reports told a second time, and computed: which transactions count where, the sectors, sums at the limit of 64 bits, their bytes, and the numbers in their order.
use Rattle.std.specs.Prelude.{◌≡◌, refl, true, false, cond, List, [], ◌∷◌, ◌++◌, map, ℕ, eqb, replicate}
use Rattle.std.specs.Int.Count.{ones_in, ones}
use Rattle.slices.specs.Changed.{map_at, window, stored, sum_at}
use Rattle.memory.specs.Memory as memory-is
use Rattle.memory.specs.Missing.{missing_at, missing, page_of}
use Rattle.parts.specs.Parts.{figures_of}
use Rattle.parts.specs.Protected.{protected_of}
use Rattle.device.specs.Locks.{lock_of, locks_sound, no_locks}
use Rattle.device.specs.Chip.{chip}
use Rattle.device.specs.Cycles.{no_slots, no_cycle, page_cycle, erase_cycle, all_cycle, settings_cycle, slots_sound, cycle_sound, touched, named_sound}
use Rattle.device.specs.Device.{sound, latch_at, moded, latched, settled, remembering, running, started, ended}
use Rattle.device.specs.Time.{after_cycle, finished, waited, time_number, wait_call}
use Rattle.device.specs.Packing.{front_of, pack_of, fields_of, formed, unpack_answer, unpack_of}
use Rattle.chip.specs.declared.Answer.{Answer}
use Rattle.chip.specs.Table.{row_of, address_of, sector_in}
use Rattle.chip.specs.Answers.{host_number, in_protected, as_needed, chip_number, decided, verdict_of, protected_any, protected_at}
use Rattle.chip.specs.Line.{by_row, heard, heard_row, driven, lined, driving_at, first_of, count_of}
use Rattle.chip.specs.Change.{cycle_of, missing_of, bp_in, turned}
use Rattle.chip.specs.Outcome.{bare, outcome_of, transacted}
use Rattle.chip.specs.Events.{sent}
use Rattle.chip.specs.Worked.{bench, usual}
use Rattle.batch.specs.Items.{first_in, items_from, good_item, event_in, events_of}
use Rattle.report.specs.Totals.{Dealt, total_of, exceeds, added_to}
use Rattle.report.specs.Report.{dealt_by, report_number, reported}
use Rattle.report.specs.Theorems.{sum_below}
use Rattle.m25p.specs.Report.{report_c}
use Rattle.told.specs.CCalls.{set_up}
use Rattle.told.specs.TimeCalls.{all_3c}
use Rattle.told.specs.Batches.{some, cut, day}

-- ---- a day

abbrev pub deal : List ℕ → Answer → Dealt
deal bytes a = record { sent = bytes; answer = a }

-- an answer 0, with what was driven from where, and the bits missing
abbrev pub good : ℕ → ℕ → ℕ → Answer
good f n m = record { number = 0; first = f; count = n; missing = m }

-- the transactions of the batches' day, without its two waits
abbrev pub nine : List Dealt
nine =
    deal (0x06 ∷ []) (good 0 0 0)
    ∷ deal (0x02 ∷ 0 ∷ 0 ∷ 0x10 ∷ 0xFF ∷ 0x0F ∷ []) (good 0 0 6)
    ∷ deal (0x05 ∷ 0 ∷ []) (good 1 1 0)
    ∷ deal [] (bare 11)
    ∷ deal (0x03 ∷ 0 ∷ 0 ∷ 0x10 ∷ 0 ∷ 0 ∷ []) (good 4 2 0)
    ∷ deal (0x02 ∷ 0 ∷ 0 ∷ 0x11 ∷ 0xFF ∷ []) (bare 16)
    ∷ deal (0x06 ∷ []) (bare 15)
    ∷ deal (0x06 ∷ []) (good 0 0 0)
    ∷ deal (0x02 ∷ 0 ∷ 0 ∷ 0x11 ∷ 0xFF ∷ []) (good 0 0 6)
    ∷ []

pub record Day : Type 0 where
  pub dealt : dealt_by (events_of day) (chip (bench 0 false false) all_3c) ≡ nine
  -- executed: 02 twice, 03, 05, 06 twice; answers: 0 six times, 11, 15 and 16; three driven bytes; two page programs in sector 0
  pub counted : map (total_of (figures_of 0) nine) (2 ∷ 3 ∷ 5 ∷ 6 ∷ 256 ∷ 267 ∷ 271 ∷ 272 ∷ 288 ∷ 289 ∷ []) ≡ 2 ∷ 1 ∷ 1 ∷ 2 ∷ 6 ∷ 1 ∷ 1 ∷ 1 ∷ 3 ∷ 2 ∷ []
  -- and no more: 6 executed, 9 answers, 3 bytes and 2 programs
  pub all : sum_below 353 (total_of (figures_of 0) nine) ≡ 20
  -- a Page Write of the M25PE40 is executed, and no page program; one that is ignored is in the answers alone
  pub page_write : map (total_of (figures_of 6) (deal (0x0A ∷ 0 ∷ 0 ∷ 0 ∷ 0xFF ∷ []) (good 0 0 0) ∷ [])) (2 ∷ 10 ∷ 256 ∷ 289 ∷ []) ≡ 0 ∷ 1 ∷ 1 ∷ 0 ∷ []
  pub ignored : map (total_of (figures_of 0) (deal (0x02 ∷ 0 ∷ 0 ∷ 0 ∷ 0xFF ∷ []) (bare 17) ∷ [])) (2 ∷ 256 ∷ 273 ∷ 289 ∷ []) ≡ 0 ∷ 0 ∷ 1 ∷ 0 ∷ []

pub a-day : Day
unfolding map_at window stored sum_at memory-is.blank memory-is.filled memory-is.programmed memory-is.reached memory-is.landed figures_of protected_of sound latch_at moded latched settled remembering running started ended row_of address_of sector_in host_number in_protected as_needed chip_number decided verdict_of by_row heard heard_row driven lined driving_at first_of count_of no_slots no_cycle page_cycle erase_cycle all_cycle settings_cycle slots_sound cycle_sound touched cycle_of missing_of missing missing_at page_of ones ones_in bp_in turned outcome_of transacted named_sound locks_sound no_locks protected_at protected_any lock_of after_cycle finished waited time_number wait_call sent first_in items_from good_item event_in
a-day = record { dealt = refl; counted = refl; all = refl; page_write = refl; ignored = refl }

-- ---- the sectors

-- the sector of an address on a part
abbrev pub sector : ℕ → ℕ → ℕ → ℕ → ℕ
sector part a b c = sector_in (figures_of part) (0x02 ∷ a ∷ b ∷ c ∷ [])

pub record Sectors : Type 0 where
  -- 4 of 1,024 bytes, 4 of 32,768, 8 of 65,536, 64 of 65,536, 64 of 262,144; the M25PE40's are the M25P40's
  pub lasts : sector 0 0 0x0F 0xFF ∷ sector 1 1 0xFF 0xFF ∷ sector 2 7 0xFF 0xFF ∷ sector 3 0x3F 0xFF 0xFF ∷ sector 4 0xFF 0xFF 0xFF ∷ sector 5 1 0xFF 0xFF ∷ sector 6 7 0xFF 0xFF ∷ [] ≡ 3 ∷ 3 ∷ 7 ∷ 63 ∷ 63 ∷ 3 ∷ 7 ∷ []
  pub seconds : sector 0 0 4 0 ∷ sector 1 0 0x80 0 ∷ sector 2 1 0 0 ∷ sector 3 1 0 0 ∷ sector 4 4 0 0 ∷ sector 5 0 0x80 0 ∷ sector 6 1 0 0 ∷ [] ≡ 1 ∷ 1 ∷ 1 ∷ 1 ∷ 1 ∷ 1 ∷ 1 ∷ []
  -- a byte before
  pub firsts : sector 0 0 3 0xFF ∷ sector 1 0 0x7F 0xFF ∷ sector 2 0 0xFF 0xFF ∷ sector 3 0 0xFF 0xFF ∷ sector 4 3 0xFF 0xFF ∷ sector 5 0 0x7F 0xFF ∷ sector 6 0 0xFF 0xFF ∷ [] ≡ 0 ∷ 0 ∷ 0 ∷ 0 ∷ 0 ∷ 0 ∷ 0 ∷ []
  -- bits above the part's size do not count
  pub above : sector 0 0 0x10 0 ∷ sector 0 0xFF 0xFF 0xFF ∷ sector 2 8 0 0 ∷ sector 2 0xFF 0 0 ∷ sector 3 0x41 0 0 ∷ [] ≡ 0 ∷ 3 ∷ 0 ∷ 7 ∷ 1 ∷ []

pub sectors : Sectors
unfolding figures_of address_of sector_in
sectors = record { lasts = refl; seconds = refl; firsts = refl; above = refl }

-- ---- sums

-- n more for number k alone
abbrev pub at : ℕ → ℕ → ℕ → ℕ
at k n i = cond (eqb i k) n 0

pub record Sums : Type 0 where
  -- at 2^64 - 1 nothing may be added, and nothing is; up to it is good
  pub limits : exceeds (at 0 0) (replicate 8 0xFF) ∷ exceeds (at 0 1) (replicate 8 0xFF) ∷ exceeds (at 0 1) (0xFE ∷ replicate 7 0xFF) ∷ exceeds (at 0 2) (0xFE ∷ replicate 7 0xFF) ∷ exceeds (at 1 1) (replicate 8 0xFF) ∷ [] ≡ false ∷ true ∷ false ∷ true ∷ false ∷ []
  -- the last number too, and none behind it
  pub last : exceeds (at 352 18446744073709551615) [] ∷ exceeds (at 352 18446744073709551616) [] ∷ exceeds (at 353 18446744073709551616) [] ∷ [] ≡ false ∷ true ∷ false ∷ []
  -- little-endian, with the carry into the next byte; what lies behind stays
  pub bytes : added_to 2 (at 1 0x0201) (replicate 8 7 ++ (0xFF ∷ 0xFF ∷ 0 ∷ 0 ∷ 0 ∷ 0 ∷ 0 ∷ 0x80 ∷ 0xAA ∷ 0xBB ∷ [])) ≡ replicate 8 7 ++ (0 ∷ 2 ∷ 1 ∷ 0 ∷ 0 ∷ 0 ∷ 0 ∷ 0x80 ∷ 0xAA ∷ 0xBB ∷ [])
  pub full : added_to 1 (at 0 1) (0xFE ∷ replicate 7 0xFF) ≡ replicate 8 0xFF

pub sums : Sums
unfolding map_at exceeds added_to
sums = record { limits = refl; last = refl; bytes = refl; full = refl }

-- ---- the numbers

pub record Numbers : Type 0 where
  -- in order, each with all that come after it: 6 (BP 4 is too high for the bench part), 2, 9, 10, 71
  pub order : report_number (bench 4 false true) [] cut 0 0 [] ∷ report_number usual [] cut 0 0 [] ∷ report_number usual all_3c cut 0 0 [] ∷ report_number usual all_3c some 0 0 [] ∷ report_number usual all_3c some 5 3 (replicate 2824 0xFF) ∷ [] ≡ 6 ∷ 2 ∷ 9 ∷ 10 ∷ 71 ∷ []
  -- 10 for each buffer that is one byte short
  pub short : report_number usual all_3c some 4 3 (replicate 2824 0xFF) ∷ report_number usual all_3c some 5 2 (replicate 2824 0xFF) ∷ report_number usual all_3c some 5 3 (replicate 2823 0xFF) ∷ [] ≡ 10 ∷ 10 ∷ 10 ∷ []
  -- over C 8 and 6 of the packing come first
  pub packed : report_c (replicate 303 0xFF) [] cut 0 0 [] ∷ report_c (replicate 304 0xFF) [] cut 0 0 [] ∷ report_c set_up [] cut 0 0 [] ∷ report_c set_up all_3c cut 0 0 [] ∷ report_c set_up all_3c some 5 3 (replicate 2823 0xFF) ∷ report_c set_up all_3c some 5 3 (replicate 2824 0xFF) ∷ [] ≡ 8 ∷ 6 ∷ 2 ∷ 9 ∷ 10 ∷ 71 ∷ []
  -- refused, all is as it came
  pub refused : reported 71 usual all_3c day (0xAA ∷ []) (0xBB ∷ []) (0xCC ∷ []) ≡ record { chip = chip usual all_3c; responses = 0xAA ∷ []; answers = 0xBB ∷ []; totals = 0xCC ∷ [] }

pub numbers : Numbers
unfolding map_at window sum_at figures_of protected_of sound latch_at moded latched no_slots no_cycle slots_sound cycle_sound named_sound locks_sound no_locks first_in items_from good_item event_in row_of address_of sector_in host_number in_protected as_needed chip_number decided verdict_of by_row heard heard_row driven lined driving_at first_of count_of cycle_of missing_of turned outcome_of transacted protected_at protected_any lock_of waited time_number wait_call sent exceeds report_number reported report_c front_of pack_of fields_of formed unpack_answer unpack_of
numbers = record { order = refl; short = refl; packed = refl; refused = refl }

-- a batch without items adds nothing to full totals: 0
pub full : report_number usual all_3c [] 0 0 (replicate 2824 0xFF) ≡ 0
unfolding figures_of sound latch_at no_slots no_cycle slots_sound cycle_sound named_sound locks_sound no_locks items_from exceeds report_number
full = refl
