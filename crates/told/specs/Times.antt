-- Waiting, power-up and power loss told a second time, and computed: what is left of record and array before the last tick and after it, and of a cycle that is cut, on the first 258 bytes of the bench part's array; then the other parts.
use Rattle.std.specs.Prelude.{◌≡◌, refl, Bool, true, false, List, [], ◌∷◌, ◌++◌, map, ℕ, replicate}
use Rattle.slices.specs.Changed.{map_at}
use Rattle.memory.specs.Memory as memory-is
use Rattle.parts.specs.Parts.{figures_of}
use Rattle.device.specs.Locks.{no_locks}
use Rattle.device.specs.declared.Mode.TheVariants.{Standby, Deep}
use Rattle.device.specs.declared.cycle.Cycle.{Cycle}
use Rattle.device.specs.Chip.{Chip, chip}
use Rattle.device.specs.Cycles.{no_slots, no_cycle, touched, cut}
use Rattle.device.specs.Device.{latch_at, moded, settled, remembering, running, ended, status_byte, locked}
use Rattle.device.specs.Time.{after_cycle, finished, powered_up, lost, waited, unlocked}
use Rattle.chip.specs.Worked.{record_of, bench}
use Rattle.told.specs.Cycles.{full, row, programming, erasing_sector, erasing_all, writing, busy_of, some_slots, some_mask}

-- ---- short forms

-- the bench part, BP 1, SRWD 0, latch set, with so many ticks left of a cycle, beside an array
abbrev pub begun : ℕ → Cycle → List ℕ → Chip
begun t c array = chip (busy_of 0 1 false true t c) array

-- the same on the last tick, latch reset
abbrev pub on_last : Cycle → List ℕ → Chip
on_last c array = chip (busy_of 0 1 false false 1 c) array

-- the bench part in standby, latch reset, by BP and SRWD, beside an array
abbrev pub rests : ℕ → Bool → List ℕ → Chip
rests b s array = chip (bench b s false) array

-- a write of SRWD 1 and BP 2
abbrev pub write : Cycle
write = writing true 2

-- ---- the first 258 bytes

-- a page and two bytes, every byte 3C
abbrev pub few : List ℕ
few = replicate 258 0x3C

-- the same with another page
abbrev pub few_with : List ℕ → List ℕ
few_with p = p ++ (0x3C ∷ 0x3C ∷ [])

-- a program at 0000FF
abbrev pub program : Cycle
program = programming 0x0FF some_slots

-- a sector erase at 0003FF: they all lie in that sector
abbrev pub erase : Cycle
erase = erasing_sector 0x3FF

-- the program is completed: 3C and the slots
abbrev pub programmed : Chip
programmed = rests 1 false (few_with (row 0x30 0x0C 0x00 0x18))

-- an erase is completed
abbrev pub erased : Chip
erased = rests 1 false (replicate 258 0xFF)

-- the new settings are there
abbrev pub written : Chip
written = rests 2 true few

-- nothing of a cycle happened
abbrev pub untouched : Chip
untouched = rests 1 false few

-- status bytes after so many ticks
abbrev pub statuses : Chip → List ℕ → List ℕ
statuses c ticks = map (λ (t : ℕ). status_byte (waited c t).device) ticks

-- what waiting leaves
pub record Waits : Type 0 where
  -- a program of three ticks: none, one, one short, exactly, more, the most; surplus ticks are lost
  pub none : waited (begun 3 program few) 0 ≡ begun 3 program few
  pub one : waited (begun 3 program few) 1 ≡ begun 2 program few
  pub short : waited (begun 3 program few) 2 ≡ on_last program few
  pub exactly : waited (begun 3 program few) 3 ≡ programmed
  pub more : waited (begun 3 program few) 4 ≡ programmed
  pub most : waited (begun 3 program few) 4294967295 ≡ programmed
  -- on the last tick none and one; then nothing more happens
  pub last_none : waited (on_last program few) 0 ≡ on_last program few
  pub last_one : waited (on_last program few) 1 ≡ programmed
  pub again : waited programmed 3 ≡ programmed
  -- the same of an erase of five ticks, of nine, and of a settings write of two
  pub sector : map (waited (begun 5 erase few)) (0 ∷ 3 ∷ 4 ∷ 5 ∷ 6 ∷ []) ≡ begun 5 erase few ∷ begun 2 erase few ∷ on_last erase few ∷ erased ∷ erased ∷ []
  pub bulk : map (waited (begun 9 erasing_all few)) (0 ∷ 7 ∷ 8 ∷ 9 ∷ 10 ∷ []) ≡ begun 9 erasing_all few ∷ begun 2 erasing_all few ∷ on_last erasing_all few ∷ erased ∷ erased ∷ []
  pub settings : map (waited (begun 2 write few)) (0 ∷ 1 ∷ 2 ∷ 3 ∷ []) ≡ begun 2 write few ∷ on_last write few ∷ written ∷ written ∷ []
  -- settings reset again; equal ones
  pub settings-back : waited (chip (busy_of 0 3 true true 2 (writing false 0)) few) 2 ≡ rests 0 false few
  pub settings-same : waited (begun 2 (writing false 1) few) 2 ≡ rests 1 false few
  -- more ticks left than the duration, and a program where all is protected: it ends as any other
  pub long-short : waited (begun 1000000 program few) 999999 ≡ on_last program few
  pub long-exactly : waited (begun 1000000 program few) 1000000 ≡ programmed
  pub protected : waited (chip (busy_of 0 3 true true 3 program) few) 3 ≡ rests 3 true (few_with (row 0x30 0x0C 0x00 0x18))
  -- the status byte after 0 ticks and up: the latch falls one tick before the busy bit, the settings are the old ones up to the last tick
  pub program-shows : statuses (begun 3 program few) (0 ∷ 1 ∷ 2 ∷ 3 ∷ 4 ∷ []) ≡ 0x07 ∷ 0x07 ∷ 0x05 ∷ 0x04 ∷ 0x04 ∷ []
  pub settings-show : statuses (begun 2 write few) (0 ∷ 1 ∷ 2 ∷ 3 ∷ []) ≡ 0x07 ∷ 0x05 ∷ 0x88 ∷ 0x88 ∷ []
  -- in standby and in deep power-down waiting changes nothing, the latch set or not
  pub standby : waited (chip (bench 1 true true) few) 4294967295 ≡ chip (bench 1 true true) few
  pub standby-reset : waited (rests 1 true few) 1 ≡ rests 1 true few
  pub deep : waited (chip (record_of 0 1 true true Deep) few) 4294967295 ≡ chip (record_of 0 1 true true Deep) few
  pub deep-reset : waited (chip (record_of 0 1 true false Deep) few) 1 ≡ chip (record_of 0 1 true false Deep) few

-- computed by the checker
pub waits : Waits
unfolding map_at memory-is.programmed memory-is.erased figures_of status_byte latch_at moded settled remembering running ended no_slots no_cycle touched after_cycle finished waited no_locks
waits = record {
  none = refl;
  one = refl;
  short = refl;
  exactly = refl;
  more = refl;
  most = refl;
  last_none = refl;
  last_one = refl;
  again = refl;
  sector = refl;
  bulk = refl;
  settings = refl;
  settings-back = refl;
  settings-same = refl;
  long-short = refl;
  long-exactly = refl;
  protected = refl;
  program-shows = refl;
  settings-show = refl;
  standby = refl;
  standby-reset = refl;
  deep = refl;
  deep-reset = refl;
}

-- what power-up leaves
pub record PowerUps : Type 0 where
  -- a cycle is completed, at its first tick and on its last
  pub page : powered_up (begun 3 program few) ∷ powered_up (on_last program few) ∷ [] ≡ programmed ∷ programmed ∷ []
  pub sector : powered_up (begun 5 erase few) ∷ powered_up (on_last erase few) ∷ [] ≡ erased ∷ erased ∷ []
  pub bulk : powered_up (begun 9 erasing_all few) ∷ powered_up (on_last erasing_all few) ∷ [] ≡ erased ∷ erased ∷ []
  pub settings : powered_up (begun 2 write few) ∷ powered_up (on_last write few) ∷ [] ≡ written ∷ written ∷ []
  -- out of deep power-down and in standby: standby, latch reset, all else kept
  pub deep : powered_up (chip (record_of 0 1 true true Deep) few) ≡ rests 1 true few
  pub deep-reset : powered_up (chip (record_of 0 3 false false Deep) few) ≡ rests 3 false few
  pub standby : powered_up (chip (bench 1 true true) few) ≡ rests 1 true few
  pub standby-reset : powered_up (rests 2 false few) ≡ rests 2 false few

-- computed by the checker
pub power-ups : PowerUps
unfolding map_at memory-is.programmed memory-is.erased figures_of moded settled remembering ended no_slots no_cycle touched after_cycle finished powered_up no_locks unlocked locked
power-ups = record {
  page = refl;
  sector = refl;
  bulk = refl;
  settings = refl;
  deep = refl;
  deep-reset = refl;
  standby = refl;
  standby-reset = refl;
}

-- a program cut with the mask 05 00 FF .. FF A1: the old byte and (slot or mask)
abbrev pub half_programmed : Chip
half_programmed = rests 1 false (few_with (row 0x34 0x0C 0x3C 0x38))

-- an erase cut with it: the old byte or the mask, in each page
abbrev pub half_erased : Chip
half_erased = rests 1 false (row 0x3D 0x3C 0xFF 0xBD ++ (0x3D ∷ 0x3C ∷ []))

-- what a power loss leaves
pub record Losses : Type 0 where
  -- a program, whatever the word, at its first tick and on its last
  pub page : lost (begun 3 program few) some_mask true ∷ lost (begun 3 program few) some_mask false ∷ lost (on_last program few) some_mask true ∷ [] ≡ replicate 3 half_programmed
  -- with 00 it is as power-up leaves it, with FF nothing of it happened
  pub page-00 : lost (begun 3 program few) (full 0x00) true ≡ programmed
  pub page-FF : lost (begun 3 program few) (full 0xFF) true ≡ untouched
  -- slots 0F and a mask 24 over 3C
  pub page-24 : lost (begun 3 (programming 0x0FF (full 0x0F)) few) (full 0x24) false ≡ rests 1 false (few_with (full 0x2C))
  -- a sector erase: with FF it is as power-up leaves it, with 00 nothing of it happened
  pub sector : lost (begun 5 erase few) some_mask true ∷ lost (on_last erase few) some_mask false ∷ [] ≡ replicate 2 half_erased
  pub sector-00 : lost (begun 5 erase few) (full 0x00) true ≡ untouched
  pub sector-FF : lost (begun 5 erase few) (full 0xFF) true ≡ erased
  -- a bulk erase
  pub bulk : lost (begun 9 erasing_all few) some_mask true ∷ lost (on_last erasing_all few) some_mask false ∷ [] ≡ replicate 2 half_erased
  pub bulk-00 : lost (begun 9 erasing_all few) (full 0x00) true ≡ untouched
  pub bulk-FF : lost (begun 9 erasing_all few) (full 0xFF) true ≡ erased
  -- a settings write: complete on yes, absent on no, whatever the mask
  pub settings-yes : map (λ (m : ℕ). lost (begun 2 write few) (full m) true) (0x00 ∷ 0xFF ∷ 0x3C ∷ []) ≡ replicate 3 written
  pub settings-no : map (λ (m : ℕ). lost (begun 2 write few) (full m) false) (0x00 ∷ 0xFF ∷ 0x3C ∷ []) ≡ replicate 3 untouched
  pub settings-last : lost (on_last write few) some_mask true ∷ lost (on_last write few) some_mask false ∷ [] ≡ written ∷ untouched ∷ []
  -- a second loss changes nothing more
  pub second : lost half_programmed (full 0xFF) true ∷ lost half_erased (full 0x00) false ∷ lost written (full 0xFF) false ∷ [] ≡ half_programmed ∷ half_erased ∷ written ∷ []
  -- outside a cycle: standby, latch reset, all else kept, whatever the mask and the word
  pub standby : lost (chip (bench 1 true true) few) (full 0xFF) true ∷ lost (chip (bench 1 true true) few) (full 0x00) false ∷ [] ≡ replicate 2 (rests 1 true few)
  pub deep : lost (chip (record_of 0 1 true true Deep) few) (full 0xFF) false ∷ lost (chip (record_of 0 1 true false Deep) few) (full 0x00) true ∷ [] ≡ replicate 2 (rests 1 true few)

-- computed by the checker
pub losses : Losses
unfolding map_at memory-is.cut_page memory-is.cut_sector figures_of moded settled remembering ended no_slots no_cycle cut after_cycle lost no_locks unlocked locked
losses = record {
  page = refl;
  page-00 = refl;
  page-FF = refl;
  page-24 = refl;
  sector = refl;
  sector-00 = refl;
  sector-FF = refl;
  bulk = refl;
  bulk-00 = refl;
  bulk-FF = refl;
  settings-yes = refl;
  settings-no = refl;
  settings-last = refl;
  second = refl;
  standby = refl;
  deep = refl;
}

-- ---- the other parts

-- the parts but the bench part, by number
abbrev pub others : List ℕ
others = 1 ∷ 2 ∷ 3 ∷ 4 ∷ 5 ∷ 6 ∷ []

-- each of them with so many ticks left of a bulk erase, BP 3, SRWD 1, beside two bytes of its array
abbrev pub each_erasing : Bool → ℕ → List Chip
each_erasing l t = map (λ (p : ℕ). chip (busy_of p 3 true l t erasing_all) (0x3C ∷ 0xA5 ∷ [])) others

-- each of them in standby, BP 3, SRWD 1, by latch, beside two bytes of its array
abbrev pub each_rests : Bool → ℕ → ℕ → List Chip
each_rests l x y = map (λ (p : ℕ). chip (record_of p 3 true l Standby) (x ∷ y ∷ [])) others

-- what is left on each
pub record EachPart : Type 0 where
  -- a wait of one tick less than are left, of as many, power-up, a loss
  pub short : map (λ (c : Chip). waited c 8) (each_erasing true 9) ≡ each_erasing false 1
  pub exactly : map (λ (c : Chip). waited c 9) (each_erasing true 9) ≡ each_rests false 0xFF 0xFF
  pub powered : map powered_up (each_erasing true 9) ≡ each_rests false 0xFF 0xFF
  pub cut_short : map (λ (c : Chip). lost c some_mask false) (each_erasing true 9) ≡ each_rests false 0x3D 0xA5
  -- in standby
  pub idle-wait : map (λ (c : Chip). waited c 9) (each_rests true 0x3C 0xA5) ≡ each_rests true 0x3C 0xA5
  pub idle-power-up : map powered_up (each_rests true 0x3C 0xA5) ≡ each_rests false 0x3C 0xA5
  pub idle_loss : map (λ (c : Chip). lost c some_mask true) (each_rests true 0x3C 0xA5) ≡ each_rests false 0x3C 0xA5

-- computed by the checker
pub each_part : EachPart
unfolding map_at figures_of latch_at moded settled remembering running ended no_slots no_cycle touched cut after_cycle finished powered_up lost waited no_locks unlocked locked
each_part = record {
  short = refl;
  exactly = refl;
  powered = refl;
  cut_short = refl;
  idle-wait = refl;
  idle-power-up = refl;
  idle_loss = refl;
}
