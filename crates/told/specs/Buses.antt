-- A bus told a second time, and computed: the numbers in their order, where chips begin, and a small run on three bench parts.
use Rattle.std.specs.Prelude.{◌≡◌, refl, true, false, List, [], ◌∷◌, ◌++◌, map, ℕ, ◌*◌, take, replicate}
use Rattle.std.specs.Int.Count.{ones_in, ones}
use Rattle.slices.specs.Changed.{map_at, window, stored, sum_at}
use Rattle.memory.specs.Memory as memory-is
use Rattle.memory.specs.Missing.{missing_at, missing, page_of}
use Rattle.parts.specs.Parts.{figures_of}
use Rattle.parts.specs.Protected.{protected_of}
use Rattle.device.specs.declared.Device.{Device}
use Rattle.device.specs.Locks.{lock_of, locks_sound, no_locks}
use Rattle.device.specs.Cycles.{no_slots, no_cycle, page_cycle, erase_cycle, all_cycle, settings_cycle, slots_sound, cycle_sound, touched, named_sound}
use Rattle.device.specs.Device.{sound, delivered, latch_at, moded, latched, settled, remembering, running, started, ended, status_byte, zero_record}
use Rattle.device.specs.Time.{after_cycle, finished, waited, time_number, wait_call}
use Rattle.device.specs.Packing.{front_of, pack_of, fields_of, formed, unpack_answer, unpack_of}
use Rattle.chip.specs.Table.{row_of, address_of}
use Rattle.chip.specs.Answers.{host_number, in_protected, as_needed, chip_number, decided, verdict_of, protected_any, protected_at}
use Rattle.chip.specs.Line.{by_row, heard, heard_row, driven, lined, driving_at, first_of, count_of}
use Rattle.chip.specs.Change.{cycle_of, missing_of, bp_in, turned}
use Rattle.chip.specs.Outcome.{bare, outcome_of, transacted}
use Rattle.chip.specs.Events.{sends, waits, Reply}
use Rattle.chip.specs.Worked.{bench, usual}
use Rattle.bus.specs.Bus.{sum_of}
use Rattle.bus.specs.Calls.{whole_number, wait_number, bus_number, chosen, bused, bus_waited}
use Rattle.m25p.specs.Bus.{records_in, packed_row, row_answer, row_by, bused_c, bus_waited_c}
use Rattle.told.specs.CCalls.{set_up, at_rest, writes, resettled}
use Rattle.bus.specs.Runs as bus-runs
use Rattle.bus.specs.Runs.{Bus, Call, asks, passes, runs, refusal, none_refused, given}

-- ---- the numbers

-- BP 4 is too high for the bench part
abbrev pub unsound : Device
unsound = bench 4 false true

-- as many bench parts, beside an array that is their sum
abbrev pub of_many : ℕ → ℕ
of_many n = bus_number (replicate n usual) (n * 4096) 0

-- the parts 0 to 6 in a row
abbrev pub mixed : List Device
mixed = map (λ (p : ℕ). delivered p 1 1 1 1) (0 ∷ 1 ∷ 2 ∷ 3 ∷ 4 ∷ 5 ∷ 6 ∷ [])

pub record Numbers : Type 0 where
  -- a transaction in order, each with all that come after it: 51 for no record and for nine, 52, 6 of a neighbour, 53, or 0
  pub order : bus_number [] 7 0 ∷ bus_number (replicate 9 unsound) 7 9 ∷ bus_number (usual ∷ unsound ∷ []) 7 2 ∷ bus_number (usual ∷ unsound ∷ []) 7 0 ∷ bus_number (usual ∷ usual ∷ []) 7 0 ∷ bus_number (usual ∷ usual ∷ []) 8192 0 ∷ [] ≡ 51 ∷ 51 ∷ 52 ∷ 6 ∷ 53 ∷ 0 ∷ []
  -- a wait in order: no chip is named, so no 52
  pub wait-order : wait_number [] 7 ∷ wait_number (replicate 9 unsound) 7 ∷ wait_number (usual ∷ unsound ∷ []) 7 ∷ wait_number (usual ∷ usual ∷ []) 7 ∷ wait_number (usual ∷ usual ∷ []) 8192 ∷ [] ≡ 51 ∷ 51 ∷ 6 ∷ 53 ∷ 0 ∷ []
  -- one to eight chips
  pub lengths : map of_many (0 ∷ 1 ∷ 2 ∷ 3 ∷ 4 ∷ 5 ∷ 6 ∷ 7 ∷ 8 ∷ 9 ∷ 10 ∷ 256 ∷ []) ≡ 51 ∷ 0 ∷ 0 ∷ 0 ∷ 0 ∷ 0 ∷ 0 ∷ 0 ∷ 0 ∷ 51 ∷ 51 ∷ 51 ∷ []
  -- chips count from 0, and a number is compared at its full width
  pub chips : map (bus_number (replicate 3 usual) 12288) (0 ∷ 1 ∷ 2 ∷ 3 ∷ 4 ∷ 255 ∷ 256 ∷ 65536 ∷ 4294967295 ∷ []) ≡ 0 ∷ 0 ∷ 0 ∷ 52 ∷ 52 ∷ 52 ∷ 52 ∷ 52 ∷ 52 ∷ []
  -- an unsound record anywhere
  pub anywhere : bus_number (unsound ∷ usual ∷ usual ∷ []) 12288 1 ∷ bus_number (usual ∷ unsound ∷ usual ∷ []) 12288 1 ∷ bus_number (usual ∷ usual ∷ unsound ∷ []) 12288 1 ∷ [] ≡ 6 ∷ 6 ∷ 6 ∷ []
  -- not exactly the sum: a byte less, a byte more, a part less, a part more
  pub sums : map (λ (n : ℕ). bus_number (usual ∷ usual ∷ []) n 1) (8191 ∷ 8193 ∷ 4096 ∷ 12288 ∷ 0 ∷ 8192 ∷ []) ≡ 53 ∷ 53 ∷ 53 ∷ 53 ∷ 53 ∷ 0 ∷ []
  -- every part on one bus, and where the bytes of each begin
  pub parts : bus_number mixed 22286336 6 ∷ bus_number mixed 22286335 6 ∷ [] ≡ 0 ∷ 53 ∷ []
  pub begin : map (λ (k : ℕ). sum_of (take k mixed)) (0 ∷ 1 ∷ 2 ∷ 3 ∷ 4 ∷ 5 ∷ 6 ∷ 7 ∷ []) ≡ 0 ∷ 4096 ∷ 135168 ∷ 659456 ∷ 4853760 ∷ 21630976 ∷ 21762048 ∷ 22286336 ∷ []
  -- which numbers are refusals of a run
  pub refusals : map refusal (0 ∷ 1 ∷ 2 ∷ 3 ∷ 4 ∷ 5 ∷ 6 ∷ 7 ∷ 11 ∷ 19 ∷ 50 ∷ 51 ∷ 52 ∷ 53 ∷ 54 ∷ []) ≡ false ∷ false ∷ false ∷ true ∷ true ∷ true ∷ true ∷ false ∷ false ∷ false ∷ false ∷ true ∷ true ∷ true ∷ false ∷ []

-- computed by the checker
pub numbers : Numbers
unfolding figures_of sound delivered latch_at no_slots no_cycle slots_sound cycle_sound named_sound locks_sound no_locks whole_number wait_number bus_number
numbers = record { order = refl; wait-order = refl; lengths = refl; chips = refl; anywhere = refl; sums = refl; parts = refl; begin = refl; refusals = refl }

-- ---- a run

-- three bench parts with their latches reset, over A0, 3C and C3
abbrev pub start : Bus
start = record { row = replicate 3 (bench 0 false false); array = replicate 4096 0xA0 ++ (replicate 4096 0x3C ++ replicate 4096 0xC3) }

-- a write enable of chip 1; its status and chip 0's; a program of FF 0F at 000010 of chip 1; a write enable and a program of 00 at 000FFF of chip 2 after one tick; both statuses; two ticks more end chip 1's alone
abbrev pub calls : List Call
calls =
    asks 1 (0x06 ∷ []) 0 true (0xAA ∷ [])
    ∷ asks 0 (0x05 ∷ 0 ∷ []) 0 true (0xAA ∷ 0xAA ∷ 0xAA ∷ [])
    ∷ asks 1 (0x02 ∷ 0 ∷ 0 ∷ 0x10 ∷ 0xFF ∷ 0x0F ∷ []) 0 true (replicate 6 0xAA)
    ∷ passes 1
    ∷ asks 2 (0x06 ∷ []) 0 true (0xAA ∷ [])
    ∷ asks 2 (0x02 ∷ 0 ∷ 0x0F ∷ 0xFF ∷ 0x00 ∷ []) 0 true (replicate 5 0xAA)
    ∷ passes 2
    ∷ asks 1 (0x03 ∷ 0 ∷ 0 ∷ 0x10 ∷ 0 ∷ 0 ∷ []) 0 true (replicate 6 0xAA)
    ∷ asks 2 (0x05 ∷ 0 ∷ []) 0 true (0xAA ∷ 0xAA ∷ [])
    ∷ []

-- a reply with nothing driven
abbrev pub silent : ℕ → ℕ → Reply
silent missing n = record { answer = record { number = 0; first = 0; count = 0; missing = missing }; line = replicate n 0xFF }

abbrev pub drives : ℕ → ℕ → List ℕ → Reply
drives first count line = record { answer = record { number = 0; first = first; count = count; missing = 0 }; line = line }

abbrev pub ticks : Reply
ticks = record { answer = bare 0; line = [] }

pub record Run : Type 0 where
  pub none-refused : none_refused calls start ≡ true
  -- chip 1 is sent three transactions; every chip waits
  pub one-hears : bus-runs.heard 1 calls ≡ sends (0x06 ∷ []) 0 true ∷ sends (0x02 ∷ 0 ∷ 0 ∷ 0x10 ∷ 0xFF ∷ 0x0F ∷ []) 0 true ∷ waits 1 ∷ waits 2 ∷ sends (0x03 ∷ 0 ∷ 0 ∷ 0x10 ∷ 0 ∷ 0 ∷ []) 0 true ∷ []
  -- FF over 3C misses 4, 0F over 3C 2; afterwards the two bytes are 3C and 0C
  pub one-gives : given 1 calls start ≡ silent 0 1 ∷ silent 6 6 ∷ ticks ∷ ticks ∷ drives 4 2 (0xFF ∷ 0xFF ∷ 0xFF ∷ 0xFF ∷ 0x3C ∷ 0x0C ∷ []) ∷ []
  -- chip 0 has no latch though chip 1's is set
  pub zero-gives : given 0 calls start ≡ drives 1 1 (0xFF ∷ 0x00 ∷ []) ∷ ticks ∷ ticks ∷ []
  -- chip 2 is still busy, its latch reset with one tick left
  pub two-gives : given 2 calls start ≡ ticks ∷ silent 0 1 ∷ silent 0 5 ∷ ticks ∷ drives 1 1 (0xFF ∷ 0x01 ∷ []) ∷ []
  pub statuses : map status_byte (runs calls start).row ≡ 0x00 ∷ 0x00 ∷ 0x01 ∷ []
  -- one byte of chip 1 alone; chip 2's cycle has not ended
  pub bytes : (runs calls start).array ≡ replicate 4096 0xA0 ++ (replicate 17 0x3C ++ (0x0C ∷ replicate 4078 0x3C)) ++ replicate 4096 0xC3
  -- one tick more ends chip 2's cycle too, on its own last byte
  pub last : (runs (passes 1 ∷ []) (runs calls start)).array ≡ replicate 4096 0xA0 ++ (replicate 17 0x3C ++ (0x0C ∷ replicate 4078 0x3C)) ++ (replicate 4095 0xC3 ++ (0x00 ∷ []))

pub a-run : Run
unfolding map_at window stored sum_at memory-is.blank memory-is.filled memory-is.programmed memory-is.reached memory-is.landed figures_of protected_of sound latch_at moded latched settled remembering running started ended status_byte row_of address_of host_number in_protected as_needed chip_number decided verdict_of by_row heard heard_row driven lined driving_at first_of count_of no_slots no_cycle page_cycle erase_cycle all_cycle settings_cycle slots_sound cycle_sound touched cycle_of missing_of missing missing_at page_of ones ones_in bp_in turned outcome_of transacted named_sound locks_sound no_locks protected_at protected_any lock_of after_cycle finished waited time_number wait_call chosen bused bus_waited whole_number wait_number bus_number
a-run = record { none-refused = refl; one-hears = refl; one-gives = refl; zero-gives = refl; two-gives = refl; statuses = refl; bytes = refl; last = refl }

-- ---- packed rows

-- the number of a bus transaction from C: a row's bytes, the array's length, the chip, the bytes, further pulses, the response's length
abbrev pub asked : List ℕ → ℕ → ℕ → List ℕ → ℕ → ℕ → ℕ
asked row array k bytes pulses response = (bused_c row (replicate array 0xFF) k bytes pulses 1 (replicate response 0)).answer.number

-- the number of a bus wait from C
abbrev pub passed : List ℕ → ℕ → ℕ
passed row array = (bus_waited_c row (replicate array 0xFF) 1).answer

-- a row of a bench part at rest and one whose settings write has its last tick left
abbrev pub two : List ℕ
two = at_rest ++ writes 0 1

pub record Rows : Type 0 where
  -- 8 where the length is no multiple of 304; 0 is one
  pub lengths : map row_answer (0 ∷ 1 ∷ 303 ∷ 304 ∷ 305 ∷ 607 ∷ 608 ∷ 2432 ∷ 2735 ∷ 2736 ∷ 2737 ∷ []) ≡ 0 ∷ 8 ∷ 8 ∷ 0 ∷ 8 ∷ 8 ∷ 0 ∷ 0 ∷ 8 ∷ 0 ∷ 8 ∷ []
  -- a transaction in order, each with all that come after it: 8, 51 for no byte and for nine records, 52, 6, 53, 4, 5, 11
  pub order : asked (replicate 303 0xFF) 7 9 [] 8 0 ∷ asked [] 7 9 [] 8 0 ∷ asked (replicate 2736 0xFF) 7 9 [] 8 0 ∷ asked (at_rest ++ replicate 304 0xFF) 7 2 [] 8 0 ∷ asked (at_rest ++ replicate 304 0xFF) 7 0 [] 8 0 ∷ asked two 8191 0 (0x05 ∷ []) 8 0 ∷ asked two 8192 0 (0x05 ∷ []) 8 0 ∷ asked two 8192 0 (0x05 ∷ []) 7 0 ∷ asked two 8192 0 [] 7 0 ∷ [] ≡ 8 ∷ 51 ∷ 51 ∷ 52 ∷ 6 ∷ 53 ∷ 4 ∷ 5 ∷ 11 ∷ []
  -- a wait in order: 8, 51, 6, 53, or 0
  pub waits-order : passed (replicate 303 0xFF) 7 ∷ passed [] 7 ∷ passed (replicate 2736 0xFF) 7 ∷ passed (at_rest ++ replicate 304 0xFF) 7 ∷ passed two 8191 ∷ passed two 8192 ∷ [] ≡ 8 ∷ 51 ∷ 51 ∷ 6 ∷ 53 ∷ 0 ∷ []
  -- chip 0 is at rest and takes a write enable; chip 1 is busy and does not
  pub first : asked two 8192 0 (0x06 ∷ []) 0 1 ∷ asked two 8192 1 (0x06 ∷ []) 0 1 ∷ [] ≡ 0 ∷ 12 ∷ []
  pub enabled : packed_row (bused_c two (replicate 8192 0xFF) 0 (0x06 ∷ []) 0 1 (0xAA ∷ [])).row ≡ set_up ++ writes 0 1
  -- only an answer of 0 changes the row's bytes: not the busy chip's 12
  pub kept : row_by 12 (bused_c two (replicate 8192 0xFF) 1 (0x06 ∷ []) 0 1 (0xAA ∷ [])).row two ≡ two
  -- one tick ends the settings write, and leaves the chip at rest as it is
  pub ended-both : packed_row (bus_waited_c two (replicate 8192 0xFF) 1).row ≡ at_rest ++ resettled

pub rows : Rows
unfolding map_at window stored sum_at memory-is.blank memory-is.filled memory-is.programmed memory-is.reached memory-is.landed figures_of protected_of sound latch_at moded latched settled remembering running started ended status_byte row_of address_of host_number in_protected as_needed chip_number decided verdict_of by_row heard heard_row driven lined driving_at first_of count_of no_slots no_cycle page_cycle erase_cycle all_cycle settings_cycle slots_sound cycle_sound touched cycle_of missing_of missing missing_at page_of ones ones_in bp_in turned outcome_of transacted named_sound locks_sound no_locks protected_at protected_any lock_of after_cycle finished waited time_number wait_call chosen bused bus_waited whole_number wait_number bus_number delivered zero_record front_of pack_of fields_of formed unpack_answer unpack_of records_in bused_c bus_waited_c
rows = record { lengths = refl; order = refl; waits-order = refl; first = refl; enabled = refl; kept = refl; ended-both = refl }
