-- The M25PE40's cycles told a second time, and computed: the record after each instruction with the cycle that it then remembers, and what page write, page erase and subsector erase do to a byte, completed or cut by a power loss. Lengths are handed over as numbers.
use Rattle.std.specs.Prelude.{◌≡◌, refl, Bool, true, false, List, [], ◌∷◌, ◌++◌, map, ℕ, replicate}
use Rattle.std.specs.Int.Count.{ones_in, ones}
use Rattle.slices.specs.Changed.{map_at, window, sum_at}
use Rattle.memory.specs.Memory as memory-is
use Rattle.memory.specs.Missing.{missing_at, missing, page_of}
use Rattle.parts.specs.Parts.{figures_of}
use Rattle.parts.specs.Protected.{protected_of}
use Rattle.device.specs.Locks.{lock_of, locks_sound, relocked}
use Rattle.device.specs.declared.Mode.{Mode}
use Rattle.device.specs.declared.Mode.TheVariants.{Standby, Busy, Deep}
use Rattle.device.specs.declared.Device.{Device}
use Rattle.device.specs.declared.cycle.Cycle.{Cycle}
use Rattle.device.specs.Cycles.{no_slots, no_cycle, page_cycle, write_cycle, erase_cycle, all_cycle, settings_cycle, slots_sound, cycle_sound, touched, cut, named_sound}
use Rattle.device.specs.Device.{sound, status_byte, moded, latched, remembering, running, started, latch_at, locked}
use Rattle.chip.specs.Table.{row_of, address_of}
use Rattle.chip.specs.Answers.{host_number, in_protected, as_needed, chip_number, decided, verdict_of, protected_any, protected_at}
use Rattle.chip.specs.Line.{by_row, heard, heard_row, driven, lined, driving_at, first_of, count_of}
use Rattle.chip.specs.Change.{cycle_of, missing_of, bp_in, turned}
use Rattle.chip.specs.Outcome.{outcome_of}
use Rattle.told.specs.Cycles.{full, row, none, programming, erasing_sector, erasing_all, writing, replacing, erasing_page, erasing_subsector, completes, cuts}
use Rattle.told.specs.Effects.{outcome, after}
use Rattle.told.specs.Pe.{held, unset}
use Rattle.told.specs.PePacking.{mixed}
use Rattle.told.specs.PeAnswers.{seventeen, usual, still}

-- ---- what is remembered

-- BP 1, SRWD 1, latch set, with mixed lock registers, of which sector 3's is 00: in standby
abbrev pub rested : Device
rested = held 6 1 true true Standby none mixed

-- the same with so many ticks left of a cycle
abbrev pub begun : ℕ → Cycle → Device
begun t c = held 6 1 true true (Busy t) c mixed

-- with durations of one tick, by latch, mode and cycle
abbrev pub brisk : Bool → Mode → Cycle → Device
brisk l m c = record { part = 6; bp = 0; srwd = false; latch = l; mode = m; program = 1; sector_erase = 1; bulk_erase = 1; write_status = 1; cycle = c; locks = unset }

-- a page write: the three address bytes, and the data
abbrev pub page_write : ℕ → ℕ → ℕ → List ℕ → List ℕ
page_write a b c bytes = 0x0A ∷ a ∷ b ∷ c ∷ bytes

-- the record after each instruction; BP, SRWD and lock registers stay as they were
pub record Started : Type 0 where
  -- PW: the address as it was sent, FF where no data went, as many named as were sent; three ticks
  pub pw : after rested (page_write 0x03 0x00 0x10 (0x0F ∷ 0xA5 ∷ [])) ≡ begun 3 (replacing 0x030010 (replicate 16 0xFF ++ (0x0F ∷ 0xA5 ∷ replicate 238 0xFF)) 2)
  -- it wraps at the page's end
  pub pw-wraps : after rested (page_write 0x03 0x01 0xFE (0x11 ∷ 0x22 ∷ 0x33 ∷ [])) ≡ begun 3 (replacing 0x0301FE (0x33 ∷ (replicate 253 0xFF ++ (0x11 ∷ 0x22 ∷ []))) 3)
  -- a byte FF is named too
  pub pw-FF : after rested (page_write 0x03 0x00 0x10 (0xFF ∷ [])) ≡ begun 3 (replacing 0x030010 (full 0xFF) 1)
  -- 255, 256, 257, 512 and 513 data bytes: the last 256 count, at most 256 are named, and the address is the one sent
  pub pw-255 : after rested (page_write 0x03 0x00 0x01 (replicate 255 0x00)) ≡ begun 3 (replacing 0x030001 (0xFF ∷ replicate 255 0x00) 255)
  pub pw-256 : after rested (page_write 0x03 0x00 0x01 (replicate 255 0x00 ++ (0x77 ∷ []))) ≡ begun 3 (replacing 0x030001 (0x77 ∷ replicate 255 0x00) 256)
  pub pw-257 : after rested (page_write 0x03 0x00 0x80 (0x11 ∷ (replicate 255 0x33 ++ (0x22 ∷ [])))) ≡ begun 3 (replacing 0x030080 (replicate 128 0x33 ++ (0x22 ∷ replicate 127 0x33)) 256)
  pub pw-512 : after rested (page_write 0x03 0x00 0x80 (replicate 256 0x11 ++ replicate 256 0x22)) ≡ begun 3 (replacing 0x030080 (full 0x22) 256)
  pub pw-513 : after rested (page_write 0x03 0x00 0xFF (replicate 256 0x11 ++ (replicate 256 0x22 ++ (0x33 ∷ [])))) ≡ begun 3 (replacing 0x0300FF (row 0x22 0x22 0x22 0x33) 256)
  -- bits 23 to 19 of the address do not matter
  pub pw-round : after usual (page_write 0x08 0x00 0x10 (0x99 ∷ [])) ≡ held 6 0 false true (Busy 3) (replacing 0x000010 (replicate 16 0xFF ++ (0x99 ∷ replicate 239 0xFF)) 1) unset
  pub pw-last : after usual (page_write 0xFF 0xFF 0xFF (0x77 ∷ [])) ≡ held 6 0 false true (Busy 3) (replacing 0x07FFFF (row 0xFF 0xFF 0xFF 0x77) 1) unset
  -- PP names nothing; PE three ticks, SSE and SE five, BE nine, WRSR two
  pub pp : after rested (0x02 ∷ 0x03 ∷ 0x01 ∷ 0xFF ∷ 0x11 ∷ 0x22 ∷ []) ≡ begun 3 (programming 0x0301FF (row 0x22 0xFF 0xFF 0x11))
  pub pe : after rested (0xDB ∷ 0x03 ∷ 0x01 ∷ 0x80 ∷ []) ≡ begun 3 (erasing_page 0x030180)
  pub pe-last : after usual (0xDB ∷ 0xFF ∷ 0xFF ∷ 0xFF ∷ []) ≡ held 6 0 false true (Busy 3) (erasing_page 0x07FFFF) unset
  pub sse : after rested (0x20 ∷ 0x03 ∷ 0x1A ∷ 0xBC ∷ []) ≡ begun 5 (erasing_subsector 0x031ABC)
  pub sse-last : after usual (0x20 ∷ 0xFF ∷ 0xFF ∷ 0xFF ∷ []) ≡ held 6 0 false true (Busy 5) (erasing_subsector 0x07FFFF) unset
  pub se : after rested (0xD8 ∷ 0x03 ∷ 0x1A ∷ 0xBC ∷ []) ≡ begun 5 (erasing_sector 0x031ABC)
  pub be : after (still 0 true true (replicate 8 2)) (0xC7 ∷ []) ≡ held 6 0 true true (Busy 9) erasing_all (replicate 8 2)
  pub wrsr : after rested (0x01 ∷ 0x7F ∷ []) ≡ begun 2 (writing false 7)
  -- cycles of one tick: the latch is reset at once
  pub one_tick : map (after (brisk true Standby none)) ((0x0A ∷ 0 ∷ 0 ∷ 0xFF ∷ 0x11 ∷ []) ∷ (0xDB ∷ 0 ∷ 1 ∷ 2 ∷ []) ∷ (0x20 ∷ 0 ∷ 1 ∷ 2 ∷ []) ∷ []) ≡ map (brisk false (Busy 1)) (replacing 0xFF (row 0xFF 0xFF 0xFF 0x11) 1 ∷ erasing_page 0x102 ∷ erasing_subsector 0x102 ∷ [])
  -- DP and RDP keep the latch; RDP in standby changes nothing, and neither do RDLR and the other readings
  pub dp : after rested (0xB9 ∷ []) ∷ after (held 6 1 true false Standby none mixed) (0xB9 ∷ []) ∷ [] ≡ held 6 1 true true Deep none mixed ∷ held 6 1 true false Deep none mixed ∷ []
  pub rdp : after (held 6 1 true true Deep none mixed) (0xAB ∷ []) ∷ after (held 6 1 true false Deep none mixed) (0xAB ∷ []) ∷ after rested (0xAB ∷ []) ∷ [] ≡ rested ∷ held 6 1 true false Standby none mixed ∷ rested ∷ []
  pub not-released : after (held 6 1 true true Deep none mixed) (0xAB ∷ 0 ∷ []) ≡ held 6 1 true true Deep none mixed
  pub readings : map (after rested) ((0x9F ∷ 0 ∷ []) ∷ (0x05 ∷ 0 ∷ []) ∷ (0xE8 ∷ 0 ∷ 0 ∷ 0 ∷ 0 ∷ []) ∷ (0x03 ∷ 0 ∷ 0 ∷ 0 ∷ 0 ∷ []) ∷ (0x0B ∷ 0 ∷ 0 ∷ 0 ∷ 0 ∷ 0 ∷ []) ∷ []) ≡ replicate 5 rested
  -- ignored: the record stays, latch, cycle and lock registers; the seventeen in a page write, and what is protected
  pub ignored-busy : map (after (begun 2 (replacing 0x030010 (full 0x11) 256))) seventeen ≡ replicate 17 (begun 2 (replacing 0x030010 (full 0x11) 256))
  pub ignored : map (after (still 7 true true (replicate 8 3))) ((0x0A ∷ 0 ∷ 0 ∷ 0 ∷ 1 ∷ []) ∷ (0xDB ∷ 0 ∷ 0 ∷ 0 ∷ []) ∷ (0x20 ∷ 0 ∷ 0 ∷ 0 ∷ []) ∷ (0xC7 ∷ []) ∷ []) ≡ replicate 4 (still 7 true true (replicate 8 3))
  -- no instruction changes a byte at once, and bits are missing for PP alone: 55 over 00 wants four
  pub at_once : map (λ (sent : List ℕ). (outcome usual (replicate 5 0x00) sent).array) seventeen ≡ replicate 17 (replicate 5 0x00)
  pub missing-bits : map (λ (sent : List ℕ). (outcome usual (replicate 5 0x00) sent).answer.missing) seventeen ≡ replicate 10 0 ++ (4 ∷ replicate 6 0)
  -- 0F A5 over F0 FF: by PP four, by PW none
  pub missing-none : (outcome usual (replicate 16 0xFF ++ (0xF0 ∷ 0xFF ∷ [])) (0x02 ∷ 0 ∷ 0 ∷ 0x10 ∷ 0x0F ∷ 0xA5 ∷ [])).answer.missing ∷ (outcome usual (replicate 16 0xFF ++ (0xF0 ∷ 0xFF ∷ [])) (0x0A ∷ 0 ∷ 0 ∷ 0x10 ∷ 0x0F ∷ 0xA5 ∷ [])).answer.missing ∷ [] ≡ 4 ∷ 0 ∷ []

-- computed by the checker
pub is-started : Started
unfolding map_at window sum_at memory-is.blank memory-is.filled memory-is.reached memory-is.landed ones ones_in missing_at missing page_of missing_of figures_of protected_of sound status_byte moded latched remembering running started latch_at locked row_of address_of host_number in_protected as_needed chip_number decided verdict_of by_row heard heard_row driven lined driving_at first_of count_of no_slots no_cycle page_cycle write_cycle erase_cycle all_cycle settings_cycle slots_sound cycle_sound cycle_of bp_in turned outcome_of named_sound locks_sound protected_at protected_any lock_of relocked
is-started = record {
  pw = refl;
  pw-wraps = refl;
  pw-FF = refl;
  pw-255 = refl;
  pw-256 = refl;
  pw-257 = refl;
  pw-512 = refl;
  pw-513 = refl;
  pw-round = refl;
  pw-last = refl;
  pp = refl;
  pe = refl;
  pe-last = refl;
  sse = refl;
  sse-last = refl;
  se = refl;
  be = refl;
  wrsr = refl;
  one_tick = refl;
  dp = refl;
  rdp = refl;
  not-released = refl;
  readings = refl;
  ignored-busy = refl;
  ignored = refl;
  at_once = refl;
  missing-bits = refl;
  missing-none = refl;
}

-- ---- a byte, completed

-- a page write of so many bytes named from 000180 on, every slot C3
abbrev pub from_middle : ℕ → Cycle
from_middle n = replacing 0x180 (full 0xC3) n

-- places of its page, and one in the page on either side
abbrev pub about : List ℕ
about = 0x0FF ∷ 0x100 ∷ 0x101 ∷ 0x17F ∷ 0x180 ∷ 0x181 ∷ 0x1FF ∷ 0x200 ∷ []

-- what a completed cycle does to bytes 3C
pub record Completed : Type 0 where
  -- PW: a named byte becomes its slot, both ways: 0F over 3C, FF, 00 and F0; one that is not named stays
  pub both_ways : map (touched (figures_of 6) (replacing 0x180 (full 0x0F) 1) 0x180) (0x3C ∷ 0xFF ∷ 0x00 ∷ 0xF0 ∷ []) ≡ 0x0F ∷ 0x0F ∷ 0x0F ∷ 0x0F ∷ []
  pub not_named : map (touched (figures_of 6) (replacing 0x180 (full 0x0F) 1) 0x181) (0x3C ∷ 0xFF ∷ 0x00 ∷ 0xF0 ∷ []) ≡ 0x3C ∷ 0xFF ∷ 0x00 ∷ 0xF0 ∷ []
  -- 1, 2, 128, 129, 130, 255 and 256 named from the middle of the page on, wrapping at its end; other pages stay
  pub named : map (λ (n : ℕ). completes 6 (from_middle n) about) (1 ∷ 2 ∷ 128 ∷ 129 ∷ 130 ∷ 255 ∷ 256 ∷ []) ≡
      (0x3C ∷ 0x3C ∷ 0x3C ∷ 0x3C ∷ 0xC3 ∷ 0x3C ∷ 0x3C ∷ 0x3C ∷ [])
      ∷ (0x3C ∷ 0x3C ∷ 0x3C ∷ 0x3C ∷ 0xC3 ∷ 0xC3 ∷ 0x3C ∷ 0x3C ∷ [])
      ∷ (0x3C ∷ 0x3C ∷ 0x3C ∷ 0x3C ∷ 0xC3 ∷ 0xC3 ∷ 0xC3 ∷ 0x3C ∷ [])
      ∷ (0x3C ∷ 0xC3 ∷ 0x3C ∷ 0x3C ∷ 0xC3 ∷ 0xC3 ∷ 0xC3 ∷ 0x3C ∷ [])
      ∷ (0x3C ∷ 0xC3 ∷ 0xC3 ∷ 0x3C ∷ 0xC3 ∷ 0xC3 ∷ 0xC3 ∷ 0x3C ∷ [])
      ∷ (0x3C ∷ 0xC3 ∷ 0xC3 ∷ 0x3C ∷ 0xC3 ∷ 0xC3 ∷ 0xC3 ∷ 0x3C ∷ [])
      ∷ (0x3C ∷ 0xC3 ∷ 0xC3 ∷ 0xC3 ∷ 0xC3 ∷ 0xC3 ∷ 0xC3 ∷ 0x3C ∷ [])
      ∷ []
  -- the slot is the one at the byte's offset in the page: 11 22 33 from 0001FE on, with 00 in the slots that are not named
  pub slots : completes 6 (replacing 0x1FE (0x33 ∷ (replicate 253 0x00 ++ (0x11 ∷ 0x22 ∷ []))) 3) (0x0FE ∷ 0x0FF ∷ 0x100 ∷ 0x101 ∷ 0x1FD ∷ 0x1FE ∷ 0x1FF ∷ 0x200 ∷ 0x2FE ∷ []) ≡ 0x3C ∷ 0x3C ∷ 0x33 ∷ 0x3C ∷ 0x3C ∷ 0x11 ∷ 0x22 ∷ 0x3C ∷ 0x3C ∷ []
  -- all but the byte before the address; the last page of the part
  pub but-one : completes 6 (replacing 0x101 (full 0xC3) 255) about ≡ 0x3C ∷ 0x3C ∷ 0xC3 ∷ 0xC3 ∷ 0xC3 ∷ 0xC3 ∷ 0xC3 ∷ 0x3C ∷ []
  pub last-page : completes 6 (replacing 0x07FFFF (row 0x11 0x22 0x33 0x44) 2) (0x07FEFF ∷ 0x07FF00 ∷ 0x07FF01 ∷ 0x07FFFE ∷ 0x07FFFF ∷ 0x000000 ∷ []) ≡ 0x3C ∷ 0x11 ∷ 0x3C ∷ 0x3C ∷ 0x44 ∷ 0x3C ∷ []
  -- PE: FF in the page, whatever address of it was sent; the first page, and the last
  pub page : map (λ (a : ℕ). completes 6 (erasing_page a) (0x0FF ∷ 0x100 ∷ 0x180 ∷ 0x1FF ∷ 0x200 ∷ [])) (0x100 ∷ 0x180 ∷ 0x1FF ∷ []) ≡ replicate 3 (0x3C ∷ 0xFF ∷ 0xFF ∷ 0xFF ∷ 0x3C ∷ [])
  pub page-ends : completes 6 (erasing_page 0) (0 ∷ 0xFF ∷ 0x100 ∷ 0x07FFFF ∷ []) ∷ completes 6 (erasing_page 0x07FFFF) (0x07FFFF ∷ 0x07FF00 ∷ 0x07FEFF ∷ 0 ∷ []) ∷ [] ≡ replicate 2 (0xFF ∷ 0xFF ∷ 0x3C ∷ 0x3C ∷ [])
  -- SSE: FF in the 4,096 bytes of the subsector; the first, the last, and the last of a sector
  pub subsector : map (λ (a : ℕ). completes 6 (erasing_subsector a) (0x0FFF ∷ 0x1000 ∷ 0x1100 ∷ 0x1FFF ∷ 0x2000 ∷ [])) (0x1000 ∷ 0x1ABC ∷ 0x1FFF ∷ []) ≡ replicate 3 (0x3C ∷ 0xFF ∷ 0xFF ∷ 0xFF ∷ 0x3C ∷ [])
  pub subsector-ends : completes 6 (erasing_subsector 0) (0 ∷ 0x0FFF ∷ 0x1000 ∷ 0x07FFFF ∷ []) ∷ completes 6 (erasing_subsector 0x07FFFF) (0x07FFFF ∷ 0x07F000 ∷ 0x07EFFF ∷ 0 ∷ []) ∷ completes 6 (erasing_subsector 0x00F800) (0x00FFFF ∷ 0x00F000 ∷ 0x010000 ∷ 0x00EFFF ∷ []) ∷ [] ≡ replicate 3 (0xFF ∷ 0xFF ∷ 0x3C ∷ 0x3C ∷ [])
  -- the four other kinds: a program ands, a sector erase, a bulk erase, a settings write
  pub others : completes 6 (programming 0x180 (full 0x0F)) (0x0FF ∷ 0x100 ∷ 0x1FF ∷ 0x200 ∷ []) ∷ completes 6 (erasing_sector 0x018000) (0x00FFFF ∷ 0x010000 ∷ 0x01FFFF ∷ 0x020000 ∷ []) ∷ completes 6 erasing_all (0 ∷ 0x00FFFF ∷ 0x010000 ∷ 0x07FFFF ∷ []) ∷ completes 6 (writing true 7) (0 ∷ 0xFF ∷ 0x100 ∷ 0x07FFFF ∷ []) ∷ [] ≡ (0x3C ∷ 0x0C ∷ 0x0C ∷ 0x3C ∷ []) ∷ (0x3C ∷ 0xFF ∷ 0xFF ∷ 0x3C ∷ []) ∷ replicate 4 0xFF ∷ replicate 4 0x3C ∷ []

-- computed by the checker
pub completed : Completed
unfolding figures_of touched memory-is.programmed memory-is.replaced memory-is.named memory-is.erased
completed = record {
  both_ways = refl;
  not_named = refl;
  named = refl;
  slots = refl;
  but-one = refl;
  last-page = refl;
  page = refl;
  page-ends = refl;
  subsector = refl;
  subsector-ends = refl;
  others = refl;
}

-- ---- a byte, cut by a power loss

-- a page write of 11 22 33 at 0000FE
abbrev pub round : Cycle
round = replacing 0x0FE (0x33 ∷ (replicate 253 0xFF ++ (0x11 ∷ 0x22 ∷ []))) 3

-- 04 at 00, 01 at FE, 02 at FF, 08 elsewhere
abbrev pub some_bits : List ℕ
some_bits = 0x04 ∷ (replicate 253 0x08 ++ (0x01 ∷ 0x02 ∷ []))

-- 05 at 00, 0A at FF, 00 elsewhere
abbrev pub two_ends : List ℕ
two_ends = row 0x05 0x00 0x00 0x0A

-- what a cut leaves
pub record Cuts : Type 0 where
  -- PW: a named byte or the mask; the rest of the page and other pages stay
  pub pw : cuts 0xA0 6 round some_bits (0x0FD ∷ 0x0FE ∷ 0x0FF ∷ 0x000 ∷ 0x001 ∷ 0x100 ∷ 0x1FE ∷ []) ≡ 0xA0 ∷ 0xA1 ∷ 0xA2 ∷ 0xA4 ∷ 0xA0 ∷ 0xA0 ∷ 0xA0 ∷ []
  -- every bit of old byte, slot and mask, F0, CC and AA: the slots do not matter
  pub every-bit : map (λ (s : ℕ). cuts 0xF0 6 (replacing 0 (full s) 1) (full 0xAA) (0 ∷ [])) (0xCC ∷ 0x00 ∷ 0xFF ∷ []) ≡ replicate 3 (0xFA ∷ [])
  -- with 00 nothing of it happened, with FF the named bytes are FF
  pub pw-00 : cuts 0xA5 6 round (full 0x00) (0x0FD ∷ 0x0FE ∷ 0x0FF ∷ 0x000 ∷ 0x001 ∷ 0x100 ∷ []) ≡ replicate 6 0xA5
  pub pw-FF : cuts 0xA5 6 round (full 0xFF) (0x0FD ∷ 0x0FE ∷ 0x0FF ∷ 0x000 ∷ 0x001 ∷ 0x100 ∷ []) ≡ 0xA5 ∷ 0xFF ∷ 0xFF ∷ 0xFF ∷ 0xA5 ∷ 0xA5 ∷ []
  -- 256 named from 000080 on: the whole page, and no other
  pub pw-all : cuts 0xA0 6 (replacing 0x080 (full 0x33) 256) (full 0x05) (0x000 ∷ 0x07F ∷ 0x080 ∷ 0x0FF ∷ 0x100 ∷ 0x180 ∷ []) ≡ 0xA5 ∷ 0xA5 ∷ 0xA5 ∷ 0xA5 ∷ 0xA0 ∷ 0xA0 ∷ []
  pub pw-last : cuts 0xA0 6 (replacing 0x07FFFF (full 0x33) 2) (full 0x05) (0x07FEFF ∷ 0x07FF00 ∷ 0x07FF01 ∷ 0x07FFFE ∷ 0x07FFFF ∷ 0x000000 ∷ []) ≡ 0xA0 ∷ 0xA5 ∷ 0xA0 ∷ 0xA0 ∷ 0xA5 ∷ 0xA0 ∷ []
  -- PE: the old byte or the mask in the page
  pub page : map (λ (a : ℕ). cuts 0xA0 6 (erasing_page a) two_ends (0x0FF ∷ 0x100 ∷ 0x1FF ∷ 0x200 ∷ [])) (0x100 ∷ 0x180 ∷ 0x1FF ∷ []) ≡ replicate 3 (0xA0 ∷ 0xA5 ∷ 0xAA ∷ 0xA0 ∷ [])
  -- SSE: the same in each page of the subsector
  pub subsector : map (λ (a : ℕ). cuts 0xA0 6 (erasing_subsector a) two_ends (0x0FFF ∷ 0x1000 ∷ 0x10FF ∷ 0x1100 ∷ 0x1FFF ∷ 0x2000 ∷ [])) (0x1000 ∷ 0x1ABC ∷ 0x1FFF ∷ []) ≡ replicate 3 (0xA0 ∷ 0xA5 ∷ 0xAA ∷ 0xA5 ∷ 0xAA ∷ 0xA0 ∷ [])
  pub last-ones : cuts 0xA0 6 (erasing_page 0x07FFFF) two_ends (0x07FEFF ∷ 0x07FF00 ∷ 0x07FFFF ∷ 0x000000 ∷ []) ∷ cuts 0xA0 6 (erasing_subsector 0x07FFFF) two_ends (0x07EFFF ∷ 0x07F000 ∷ 0x07FFFF ∷ 0x000000 ∷ []) ∷ [] ≡ replicate 2 (0xA0 ∷ 0xA5 ∷ 0xAA ∷ 0xA0 ∷ [])
  -- the four other kinds
  pub others : cuts 0xA0 6 (programming 0x180 (full 0x0F)) (full 0x81) (0x0FF ∷ 0x100 ∷ 0x200 ∷ []) ∷ cuts 0xA0 6 (erasing_sector 0x018000) two_ends (0x00FFFF ∷ 0x010000 ∷ 0x01FFFF ∷ 0x020000 ∷ []) ∷ cuts 0xA0 6 erasing_all two_ends (0 ∷ 0x07FFFF ∷ []) ∷ cuts 0xA0 6 (writing true 7) two_ends (0 ∷ 0xFF ∷ []) ∷ [] ≡ (0xA0 ∷ 0x80 ∷ 0xA0 ∷ []) ∷ (0xA0 ∷ 0xA5 ∷ 0xAA ∷ 0xA0 ∷ []) ∷ (0xA5 ∷ 0xAA ∷ []) ∷ (0xA0 ∷ 0xA0 ∷ []) ∷ []

-- computed by the checker
pub is_cut : Cuts
unfolding figures_of cut memory-is.cut_page memory-is.cut_write memory-is.cut_sector memory-is.named
is_cut = record {
  pw = refl;
  every-bit = refl;
  pw-00 = refl;
  pw-FF = refl;
  pw-all = refl;
  pw-last = refl;
  page = refl;
  subsector = refl;
  last-ones = refl;
  others = refl;
}
