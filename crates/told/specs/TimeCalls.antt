-- The calls of waiting, power-up and power loss told a second time on the bench part, and computed: what an executed one leaves in all 4,096 bytes; the numbers 6, 2 and 41 in their order, and the chip that a refused one hands back as it came.
use Rattle.std.specs.Prelude.{◌≡◌, refl, true, false, List, [], ◌∷◌, ◌++◌, map, ℕ, replicate}
use Rattle.slices.specs.Changed.{map_at}
use Rattle.memory.specs.Memory as memory-is
use Rattle.parts.specs.Parts.{figures_of}
use Rattle.device.specs.Locks.{locks_sound, no_locks}
use Rattle.device.specs.declared.Mode.TheVariants.{Standby, Deep}
use Rattle.device.specs.declared.cycle.Cycle.{Cycle}
use Rattle.device.specs.Chip.{Chip, chip}
use Rattle.device.specs.Cycles.{no_slots, no_cycle, slots_sound, cycle_sound, touched, cut, named_sound}
use Rattle.device.specs.Device.{latch_at, moded, settled, remembering, running, ended, sound, locked}
use Rattle.device.specs.Time.{Timed, after_cycle, finished, lost, waited, time_number, mask_number, wait_call, power_up_call, loss_call, powered_up, unlocked}
use Rattle.chip.specs.Worked.{record_of, bench, usual}
use Rattle.told.specs.Cycles.{full, row, none, programming, erasing_sector, erasing_all, writing, busy_of, some_slots, some_mask}
use Rattle.told.specs.Times.{begun, on_last, rests, write}
use Rattle.told.specs.Answers.{sizes}

-- ---- executed, on all 4,096 bytes

-- every byte 3C
abbrev pub all_3c : List ℕ
all_3c = replicate 4096 0x3C

-- the second page, 000100 to 0001FF, is another
abbrev pub second_page : List ℕ → List ℕ
second_page p = replicate 256 0x3C ++ (p ++ replicate 3584 0x3C)

-- the second sector, 000400 to 0007FF, is four times a page
abbrev pub second_sector : List ℕ → List ℕ
second_sector p = replicate 1024 0x3C ++ (p ++ (p ++ (p ++ (p ++ replicate 2048 0x3C))))

-- every one of the sixteen pages is this one
abbrev pub every_page : List ℕ → List ℕ
every_page p = let four = p ++ (p ++ (p ++ p)) in four ++ (four ++ (four ++ four))

-- a program at 0001FF
abbrev pub program : Cycle
program = programming 0x1FF some_slots

-- a sector erase at 0007FF
abbrev pub erase : Cycle
erase = erasing_sector 0x7FF

-- answered 0, and this chip is left
abbrev pub leaves : Chip → Timed
leaves c = record { answer = 0; chip = c }

-- what the calls answer and leave
pub record Whole : Type 0 where
  -- waiting: nothing before the last tick; then the page, the sector, everything, the settings
  pub none : wait_call (begun 3 program all_3c) 0 ≡ leaves (begun 3 program all_3c)
  pub short : wait_call (begun 3 program all_3c) 2 ≡ leaves (on_last program all_3c)
  pub page : wait_call (begun 3 program all_3c) 3 ≡ leaves (rests 1 false (second_page (row 0x30 0x0C 0x00 0x18)))
  pub sector : wait_call (begun 5 erase all_3c) 5 ≡ leaves (rests 1 false (second_sector (full 0xFF)))
  pub bulk : wait_call (begun 9 erasing_all all_3c) 10 ≡ leaves (rests 1 false (every_page (full 0xFF)))
  pub settings : wait_call (begun 2 write all_3c) 2 ≡ leaves (rests 2 true all_3c)
  pub idle : wait_call (chip (bench 1 true true) all_3c) 9 ≡ leaves (chip (bench 1 true true) all_3c)
  -- power-up
  pub power-page : power_up_call (begun 3 program all_3c) ≡ leaves (rests 1 false (second_page (row 0x30 0x0C 0x00 0x18)))
  pub power-sector : power_up_call (begun 5 erase all_3c) ≡ leaves (rests 1 false (second_sector (full 0xFF)))
  pub power-bulk : power_up_call (on_last erasing_all all_3c) ≡ leaves (rests 1 false (every_page (full 0xFF)))
  pub power-settings : power_up_call (begun 2 write all_3c) ≡ leaves (rests 2 true all_3c)
  pub power-deep : power_up_call (chip (record_of 0 1 true true Deep) all_3c) ≡ leaves (rests 1 true all_3c)
  -- a power loss
  pub loss-page : loss_call (begun 3 program all_3c) some_mask true ≡ leaves (rests 1 false (second_page (row 0x34 0x0C 0x3C 0x38)))
  pub loss-sector : loss_call (begun 5 erase all_3c) some_mask false ≡ leaves (rests 1 false (second_sector (row 0x3D 0x3C 0xFF 0xBD)))
  pub loss-bulk : loss_call (begun 9 erasing_all all_3c) some_mask true ≡ leaves (rests 1 false (every_page (row 0x3D 0x3C 0xFF 0xBD)))
  pub loss-yes : loss_call (begun 2 write all_3c) some_mask true ≡ leaves (rests 2 true all_3c)
  pub loss-no : loss_call (begun 2 write all_3c) some_mask false ≡ leaves (rests 1 false all_3c)
  pub loss-idle : loss_call (chip (bench 1 true true) all_3c) some_mask true ≡ leaves (rests 1 true all_3c)

-- computed by the checker
pub whole : Whole
unfolding map_at memory-is.programmed memory-is.erased memory-is.cut_page memory-is.cut_sector figures_of sound latch_at moded settled remembering running ended no_slots no_cycle slots_sound cycle_sound touched cut after_cycle finished lost waited time_number wait_call power_up_call loss_call named_sound locks_sound no_locks unlocked locked powered_up
whole = record {
  none = refl;
  short = refl;
  page = refl;
  sector = refl;
  bulk = refl;
  settings = refl;
  idle = refl;
  power-page = refl;
  power-sector = refl;
  power-bulk = refl;
  power-settings = refl;
  power-deep = refl;
  loss-page = refl;
  loss-sector = refl;
  loss-bulk = refl;
  loss-yes = refl;
  loss-no = refl;
  loss-idle = refl;
}

-- ---- the numbers

-- what a part gets on arrays of these lengths
abbrev pub timed_on : ℕ → List ℕ → List ℕ
timed_on p arrays = map (λ (a : ℕ). time_number (record_of p 0 false false Standby) a 0) arrays

-- which number, by lengths
pub record Numbers : Type 0 where
  -- 2: every array's length but the part's own
  pub two-bench : timed_on 0 sizes ≡ 0 ∷ 2 ∷ 2 ∷ 2 ∷ 2 ∷ 2 ∷ 2 ∷ []
  pub two-m25p10a : timed_on 1 sizes ≡ 2 ∷ 0 ∷ 2 ∷ 2 ∷ 2 ∷ 0 ∷ 2 ∷ []
  pub two-m25p40 : timed_on 2 sizes ≡ 2 ∷ 2 ∷ 0 ∷ 2 ∷ 2 ∷ 2 ∷ 0 ∷ []
  pub two-m25p32 : timed_on 3 sizes ≡ 2 ∷ 2 ∷ 2 ∷ 0 ∷ 2 ∷ 2 ∷ 2 ∷ []
  pub two-m25p128 : timed_on 4 sizes ≡ 2 ∷ 2 ∷ 2 ∷ 2 ∷ 0 ∷ 2 ∷ 2 ∷ []
  pub two-older : timed_on 5 sizes ≡ 2 ∷ 0 ∷ 2 ∷ 2 ∷ 2 ∷ 0 ∷ 2 ∷ []
  pub two-m25pe40 : timed_on 6 sizes ≡ 2 ∷ 2 ∷ 0 ∷ 2 ∷ 2 ∷ 2 ∷ 0 ∷ []
  pub two-near : timed_on 4 (0 ∷ 16777215 ∷ 16777216 ∷ 16777217 ∷ []) ≡ 2 ∷ 2 ∷ 0 ∷ 2 ∷ []
  -- 41: every mask's length but 256
  pub forty-one : map mask_number (0 ∷ 1 ∷ 255 ∷ 256 ∷ 257 ∷ 512 ∷ []) ≡ 41 ∷ 41 ∷ 41 ∷ 0 ∷ 41 ∷ 41 ∷ []
  -- in order, each with all that come after it: 6, 2, then the next; BP 4 is too high for the bench part
  pub order : time_number (bench 4 false true) 0 41 ∷ time_number usual 0 41 ∷ time_number usual 4096 41 ∷ time_number usual 4096 0 ∷ [] ≡ 6 ∷ 2 ∷ 41 ∷ 0 ∷ []

-- computed by the checker
pub numbers : Numbers
unfolding figures_of sound latch_at no_slots no_cycle slots_sound cycle_sound time_number named_sound locks_sound no_locks
numbers = record {
  two-bench = refl;
  two-m25p10a = refl;
  two-m25p40 = refl;
  two-m25p32 = refl;
  two-m25p128 = refl;
  two-older = refl;
  two-m25pe40 = refl;
  two-near = refl;
  forty-one = refl;
  order = refl;
}

-- ---- refused

-- each of these chips is handed back with a number
abbrev pub back : ℕ → List Chip → List Timed
back k cs = map (λ (c : Chip). record { answer = k; chip = c }) cs

-- the bench part, BP 1, with a cycle of each kind, and without one in standby, and in deep power-down, beside an array
abbrev pub sound_ones : List ℕ → List Chip
sound_ones array =
    chip (busy_of 0 1 false true 3 program) array
    ∷ chip (busy_of 0 1 false true 5 erase) array
    ∷ chip (busy_of 0 1 false false 1 erasing_all) array
    ∷ chip (busy_of 0 1 false true 2 write) array
    ∷ chip (bench 1 true true) array
    ∷ chip (record_of 0 1 true true Deep) array
    ∷ []

-- records that are not sound, beside an array: busy without a cycle; the last tick with its latch set, and another with it reset; a program beyond the part; new BP 4; a cycle in standby, and in deep power-down; an M25P128 in deep power-down; a BP, and a part, that there is not
abbrev pub unsound_ones : List ℕ → List Chip
unsound_ones array =
    chip (busy_of 0 1 false true 3 none) array
    ∷ chip (busy_of 0 1 false true 1 erasing_all) array
    ∷ chip (busy_of 0 1 false false 3 erasing_all) array
    ∷ chip (busy_of 0 1 false true 3 (programming 0x1000 some_slots)) array
    ∷ chip (busy_of 0 1 false true 2 (writing true 4)) array
    ∷ chip (remembering (bench 1 true true) erasing_all) array
    ∷ chip (remembering (record_of 0 1 true true Deep) erasing_all) array
    ∷ chip (record_of 4 7 true true Deep) array
    ∷ chip (bench 4 false true) array
    ∷ chip (record_of 7 0 false true Standby) array
    ∷ []

-- a byte less
abbrev pub byte_less : List ℕ
byte_less = replicate 4095 0x3C

-- a byte more
abbrev pub byte_more : List ℕ
byte_more = replicate 4097 0x3C

-- what a refused call hands back
pub record Refusals : Type 0 where
  -- waiting: 6, with a whole array and without any; 2, whatever the mode; for 0 ticks too
  pub wait-six : map (λ (c : Chip). wait_call c 3) (unsound_ones all_3c) ≡ back 6 (unsound_ones all_3c)
  pub wait-none-six : map (λ (c : Chip). wait_call c 0) (unsound_ones []) ≡ back 6 (unsound_ones [])
  pub wait-two : map (λ (c : Chip). wait_call c 9) (sound_ones byte_less) ≡ back 2 (sound_ones byte_less)
  pub wait-none-two : map (λ (c : Chip). wait_call c 0) (sound_ones byte_more) ≡ back 2 (sound_ones byte_more)
  -- power-up
  pub power-six : map power_up_call (unsound_ones all_3c) ≡ back 6 (unsound_ones all_3c)
  pub power-six-first : map power_up_call (unsound_ones []) ≡ back 6 (unsound_ones [])
  pub power-two : map power_up_call (sound_ones byte_less) ≡ back 2 (sound_ones byte_less)
  -- a loss: 6 before 2 and 41, 2 before 41, and 41 also where the mask would not be used
  pub loss-six : map (λ (c : Chip). loss_call c (full 0) true) (unsound_ones all_3c) ≡ back 6 (unsound_ones all_3c)
  pub loss-six-first : map (λ (c : Chip). loss_call c [] true) (unsound_ones []) ≡ back 6 (unsound_ones [])
  pub loss-two : map (λ (c : Chip). loss_call c (full 0) false) (sound_ones byte_more) ≡ back 2 (sound_ones byte_more)
  pub loss-two-first : map (λ (c : Chip). loss_call c (replicate 255 0) true) (sound_ones byte_less) ≡ back 2 (sound_ones byte_less)
  pub loss-short : map (λ (c : Chip). loss_call c (replicate 255 0) true) (sound_ones all_3c) ≡ back 41 (sound_ones all_3c)
  pub loss-long : map (λ (c : Chip). loss_call c (replicate 257 0xFF) false) (sound_ones all_3c) ≡ back 41 (sound_ones all_3c)
  pub loss-none : map (λ (c : Chip). loss_call c [] true) (sound_ones all_3c) ≡ back 41 (sound_ones all_3c)

-- computed by the checker
pub refusals : Refusals
unfolding figures_of sound latch_at remembering no_slots no_cycle slots_sound cycle_sound time_number wait_call power_up_call loss_call named_sound locks_sound no_locks powered_up unlocked locked
refusals = record {
  wait-six = refl;
  wait-none-six = refl;
  wait-two = refl;
  wait-none-two = refl;
  power-six = refl;
  power-six-first = refl;
  power-two = refl;
  loss-six = refl;
  loss-six-first = refl;
  loss-two = refl;
  loss-two-first = refl;
  loss-short = refl;
  loss-long = refl;
  loss-none = refl;
}
