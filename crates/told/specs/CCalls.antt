-- The C calls told a second time, and computed: the answer's bits, W and yes as numbers, the order of the numbers, and which bytes of record and array are written.
use Rattle.std.specs.Prelude.{◌≡◌, refl, true, false, List, [], ◌∷◌, ◌++◌, map, ℕ, replicate}
use Rattle.std.specs.Int.Count.{ones_in, ones}
use Rattle.slices.specs.Changed.{map_at, window, sum_at}
use Rattle.memory.specs.Memory as memory-is
use Rattle.memory.specs.Missing.{missing_at, missing, page_of}
use Rattle.parts.specs.Parts.{figures_of}
use Rattle.parts.specs.Protected.{protected_of}
use Rattle.device.specs.Locks.{lock_of, locks_sound, no_locks}
use Rattle.device.specs.Chip.{Chip}
use Rattle.device.specs.Cycles.{no_slots, no_cycle, page_cycle, erase_cycle, all_cycle, settings_cycle, slots_sound, cycle_sound, touched, cut, named_sound}
use Rattle.device.specs.Device.{sound, latch_at, moded, latched, settled, remembering, running, started, ended, zero_record, status_byte, delivered, locked}
use Rattle.device.specs.Time.{Timed, after_cycle, finished, lost, waited, time_number, wait_call, power_up_call, loss_call, powered_up, unlocked}
use Rattle.device.specs.Packing.{front_of, pack_of, fields_of, formed, unpack_answer, unpack_of}
use Rattle.chip.specs.Table.{row_of, address_of}
use Rattle.chip.specs.Answers.{delivery_answer, host_number, in_protected, as_needed, chip_number, decided, verdict_of, protected_any, protected_at}
use Rattle.chip.specs.Line.{by_row, heard, heard_row, driven, lined, driving_at, first_of, count_of}
use Rattle.chip.specs.Change.{cycle_of, missing_of, bp_in, turned}
use Rattle.chip.specs.Outcome.{bare, outcome_of, transacted}
use Rattle.m25p.specs.Calls.{packed_answer, high, packed_by, transacted_c, timed_c, delivery_c}
use Rattle.told.specs.Cycles.{full, row, some_slots, some_mask}
use Rattle.told.specs.TimeCalls.{all_3c, second_page, second_sector}

-- ---- packed bytes

-- the first 28 bytes of the bench part packed, by SRWD, latch and mode bytes and ticks left; durations 3, 5, 9, 2
abbrev pub front : ℕ → ℕ → ℕ → ℕ → List ℕ
front s l m t = 0 ∷ 0 ∷ s ∷ l ∷ m ∷ 0 ∷ 0 ∷ 0 ∷ t ∷ 0 ∷ 0 ∷ 0 ∷ 3 ∷ 0 ∷ 0 ∷ 0 ∷ 5 ∷ 0 ∷ 0 ∷ 0 ∷ 9 ∷ 0 ∷ 0 ∷ 0 ∷ 2 ∷ 0 ∷ 0 ∷ 0 ∷ []

-- the whole 304, outside a cycle
abbrev pub packed : ℕ → ℕ → ℕ → ℕ → List ℕ
packed s l m t = front s l m t ++ replicate 276 0

-- SRWD 1, in a cycle: latch byte and ticks left, the kind, the new BP and the new SRWD, the two low bytes of the address, the slots
abbrev pub cycling : ℕ → ℕ → ℕ → ℕ → ℕ → ℕ → ℕ → List ℕ → List ℕ
cycling l t k b w a0 a1 slots = front 1 l 1 t ++ ((k ∷ b ∷ w ∷ 0 ∷ a0 ∷ a1 ∷ 0 ∷ 0 ∷ []) ++ (slots ++ replicate 12 0))

-- standby, SRWD 1, latch set
abbrev pub set_up : List ℕ
set_up = packed 1 1 0 0

-- standby, SRWD 1, latch reset
abbrev pub at_rest : List ℕ
at_rest = packed 1 0 0 0

-- in a program at 0001FF, by latch byte and ticks left
abbrev pub programs : ℕ → ℕ → List ℕ
programs l t = cycling l t 1 0 0 0xFF 0x01 some_slots

-- in a sector erase at 0007FF
abbrev pub erases : ℕ → ℕ → List ℕ
erases l t = cycling l t 2 0 0 0xFF 0x07 (replicate 256 0)

-- in a bulk erase
abbrev pub wipes : ℕ → ℕ → List ℕ
wipes l t = cycling l t 3 0 0 0 0 (replicate 256 0)

-- in a write of BP 2 and SRWD 0
abbrev pub writes : ℕ → ℕ → List ℕ
writes l t = cycling l t 4 2 0 0 0 (replicate 256 0)

-- the same with BP 2 and SRWD 0, at rest
abbrev pub resettled : List ℕ
resettled = 0 ∷ 2 ∷ 0 ∷ 0 ∷ 0 ∷ 0 ∷ 0 ∷ 0 ∷ 0 ∷ 0 ∷ 0 ∷ 0 ∷ 3 ∷ 0 ∷ 0 ∷ 0 ∷ 5 ∷ 0 ∷ 0 ∷ 0 ∷ 9 ∷ 0 ∷ 0 ∷ 0 ∷ 2 ∷ 0 ∷ 0 ∷ 0 ∷ replicate 276 0

-- ---- the calls

-- the number of a transaction call: packed bytes, array length, bytes, further pulses, W, response length
abbrev pub sent : List ℕ → ℕ → List ℕ → ℕ → ℕ → ℕ → ℕ
sent bytes array s pulses w response = (transacted_c bytes (replicate array 0xFF) s pulses w (replicate response 0)).answer.number

-- the 64 bits that a transaction call answers, on an array of one byte over and over
abbrev pub answer_on : ℕ → List ℕ → List ℕ → ℕ
answer_on x bytes s = packed_answer (transacted_c bytes (replicate 4096 x) s 0 1 (replicate 8 0)).answer

-- the packed bytes after an executed transaction call on the whole array
abbrev pub after : List ℕ → List ℕ → List ℕ
after bytes s =
    packed_by (transacted_c bytes (replicate 4096 0xFF) s 0 1 (replicate 8 0)).answer.number
    (transacted_c bytes (replicate 4096 0xFF) s 0 1 (replicate 8 0)).device
    bytes

-- what is seen of a call of wait, power-up or loss: its 64 bits, the packed bytes, the array
pub record Back : Type 0 where
  pub bits : ℕ
  pub bytes : List ℕ
  pub array : List ℕ

-- the same, written out
abbrev pub back : ℕ → List ℕ → List ℕ → Back
back r bytes array = record { bits = r; bytes = bytes; array = array }

-- of a call on packed bytes and an array
abbrev pub called : (Chip → Timed) → List ℕ → List ℕ → Back
called call bytes array =
    back (packed_answer (bare (timed_c call bytes array).answer))
    (packed_by (timed_c call bytes array).answer (timed_c call bytes array).chip.device bytes)
    (timed_c call bytes array).chip.array

-- a wait: packed bytes, array, ticks
abbrev pub waits : List ℕ → List ℕ → ℕ → Back
waits bytes array t = called (λ (c : Chip). wait_call c t) bytes array

-- power-up: packed bytes, array
abbrev pub powers_up : List ℕ → List ℕ → Back
powers_up bytes array = called power_up_call bytes array

-- a power loss: packed bytes, array, mask, yes
abbrev pub loses : List ℕ → List ℕ → List ℕ → ℕ → Back
loses bytes array mask said = called (λ (c : Chip). loss_call c mask (high said)) bytes array

-- 303, 304 and 305 bytes FF, the 28 bytes of a record without its cycle, and 292 without what stands behind its slots
abbrev pub bad_ones : List (List ℕ)
bad_ones = replicate 303 0xFF ∷ replicate 304 0xFF ∷ replicate 305 0xFF ∷ front 1 1 0 0 ∷ (front 1 1 0 0 ++ replicate 264 0) ∷ []

-- transactions and deliveries
pub record Told : Type 0 where
  -- bits 0 to 7 the number, 8 to 15 first, 16 to 47 count, 48 to 63 the bits missing
  pub bits : packed_answer (record { number = 0x12; first = 0x05; count = 0x1FFFB; missing = 0x0345 }) ≡ 0x03450001FFFB0512
  pub most-bits : packed_answer (record { number = 0; first = 0; count = 0; missing = 2048 }) ≡ 0x0800000000000000
  pub nothing : packed_answer (record { number = 0; first = 0; count = 0; missing = 0 }) ≡ 0
  -- FF and 0F programmed over 00, and over FF; the same with the latch reset
  pub bits-missing : answer_on 0x00 set_up (0x02 ∷ 0 ∷ 0 ∷ 0 ∷ 0xFF ∷ 0x0F ∷ []) ∷ answer_on 0xFF set_up (0x02 ∷ 0 ∷ 0 ∷ 0 ∷ 0xFF ∷ 0x0F ∷ []) ∷ answer_on 0x00 at_rest (0x02 ∷ 0 ∷ 0 ∷ 0 ∷ 0xFF ∷ 0x0F ∷ []) ∷ [] ≡ 0x000C000000000000 ∷ 0 ∷ 16 ∷ []
  -- W is low for 0, else high
  pub w : map high (0 ∷ 1 ∷ 2 ∷ 256 ∷ 4294967295 ∷ []) ≡ false ∷ true ∷ true ∷ true ∷ true ∷ []
  pub frozen : sent set_up 4096 (0x01 ∷ 0 ∷ []) 0 0 2 ∷ sent set_up 4096 (0x01 ∷ 0 ∷ []) 0 1 2 ∷ sent set_up 4096 (0x01 ∷ 0 ∷ []) 0 256 2 ∷ [] ≡ 18 ∷ 0 ∷ 0 ∷ []
  -- a transaction in order, each with all that come after it: 8, 6, 2, 3, 4, 5
  pub order : sent (replicate 303 0xFF) 0 (replicate 65537 5) 8 1 0 ∷ sent (replicate 304 0xFF) 0 (replicate 65537 5) 8 1 0 ∷ sent set_up 0 (replicate 65537 5) 8 1 0 ∷ sent set_up 4096 (replicate 65537 5) 8 1 0 ∷ sent set_up 4096 (0x05 ∷ []) 8 1 0 ∷ sent set_up 4096 (0x05 ∷ []) 7 1 0 ∷ sent set_up 4096 (0x05 ∷ []) 7 1 1 ∷ [] ≡ 8 ∷ 6 ∷ 2 ∷ 3 ∷ 4 ∷ 5 ∷ 0 ∷ []
  pub lengths : map (λ (b : List ℕ). sent b 4096 (0x05 ∷ []) 0 1 1) bad_ones ≡ 8 ∷ 6 ∷ 8 ∷ 8 ∷ 8 ∷ []
  -- a delivery in order: 8, 1, 2, 7; what the 304 bytes were does not matter
  pub deliveries : delivery_c (replicate 303 0xFF) 7 0 0 5 9 2 ∷ delivery_c (replicate 28 0xFF) 7 0 0 5 9 2 ∷ delivery_c (replicate 292 0xFF) 7 0 0 5 9 2 ∷ delivery_c (replicate 304 0xFF) 7 0 0 5 9 2 ∷ delivery_c (replicate 304 0xFF) 0 0 0 5 9 2 ∷ delivery_c (replicate 304 0xFF) 0 4096 0 5 9 2 ∷ delivery_c (replicate 304 0xFF) 0 4096 3 5 9 2 ∷ [] ≡ 8 ∷ 8 ∷ 8 ∷ 1 ∷ 2 ∷ 7 ∷ 0 ∷ []
  pub given : packed_by 0 (delivered 0 3 5 9 2) (replicate 304 0xFF) ≡ packed 0 0 0 0
  -- the packed bytes after an executed call: a program at FFF1FF, a sector erase at FFF7FF, a bulk erase, a write of BP 2 and SRWD 0; the latch reset, deep power-down
  pub programmed : after set_up (0x02 ∷ 0xFF ∷ 0xF1 ∷ 0xFF ∷ 0x11 ∷ 0x22 ∷ 0x33 ∷ []) ≡ cycling 1 3 1 0 0 0xFF 0x01 (0x22 ∷ 0x33 ∷ (replicate 253 0xFF ++ (0x11 ∷ [])))
  pub erased : after set_up (0xD8 ∷ 0xFF ∷ 0xF7 ∷ 0xFF ∷ []) ≡ erases 1 5
  pub wiped : after set_up (0xC7 ∷ []) ≡ wipes 1 9
  pub written : after set_up (0x01 ∷ 0x7B ∷ []) ≡ writes 1 2
  pub disables : after set_up (0x04 ∷ []) ≡ at_rest
  pub sleeps : after set_up (0xB9 ∷ []) ≡ packed 1 1 2 0
  -- and after one that is ignored: as they were
  pub ignored : after set_up (0x04 ∷ 0 ∷ []) ≡ set_up
  pub ignored-busy : after (programs 1 3) (0x04 ∷ []) ≡ programs 1 3
  -- the last tick with its latch set is 6, and so is a tick before it with its latch reset, and each of them without a cycle
  pub latches : map (λ (b : List ℕ). sent b 4096 (0x05 ∷ []) 0 1 1) (wipes 1 1 ∷ wipes 0 1 ∷ wipes 1 2 ∷ wipes 0 2 ∷ packed 1 0 1 1 ∷ packed 1 1 1 2 ∷ []) ≡ 6 ∷ 0 ∷ 0 ∷ 6 ∷ 6 ∷ 6 ∷ []

-- computed by the checker
pub told : Told
unfolding map_at window sum_at memory-is.blank memory-is.filled figures_of protected_of sound latch_at moded latched settled remembering running started ended zero_record status_byte delivered front_of pack_of fields_of formed unpack_answer unpack_of row_of address_of delivery_answer host_number in_protected as_needed chip_number decided verdict_of by_row heard heard_row driven lined driving_at first_of count_of no_slots no_cycle page_cycle erase_cycle all_cycle settings_cycle slots_sound cycle_sound cycle_of missing_of missing missing_at page_of memory-is.reached memory-is.landed ones ones_in bp_in turned outcome_of transacted packed_answer transacted_c delivery_c named_sound locks_sound no_locks protected_at protected_any lock_of
told = record {
  bits = refl;
  most-bits = refl;
  nothing = refl;
  bits-missing = refl;
  w = refl;
  frozen = refl;
  order = refl;
  lengths = refl;
  deliveries = refl;
  given = refl;
  programmed = refl;
  erased = refl;
  wiped = refl;
  written = refl;
  disables = refl;
  sleeps = refl;
  ignored = refl;
  ignored-busy = refl;
  latches = refl;
}

-- ---- wait, power-up and loss

-- 64 bits, packed bytes and array
pub record Timings : Type 0 where
  -- a wait that does not end the cycle: the ticks fall, the latch one tick before the end; the array stays
  pub falls : waits (erases 1 5) all_3c 3 ≡ back 0 (erases 1 2) all_3c
  pub falls-last : waits (erases 1 5) all_3c 4 ≡ back 0 (erases 0 1) all_3c
  pub stands : waits (programs 1 3) all_3c 0 ≡ back 0 (programs 1 3) all_3c
  -- one that does: no cycle is remembered, and its effect is there
  pub ends : waits (erases 1 5) all_3c 5 ≡ back 0 at_rest (second_sector (full 0xFF))
  pub ends-program : waits (programs 1 3) all_3c 4294967295 ≡ back 0 at_rest (second_page (row 0x30 0x0C 0x00 0x18))
  pub ends-bulk : waits (wipes 1 9) all_3c 9 ≡ back 0 at_rest (replicate 4096 0xFF)
  pub ends-settings : waits (writes 1 2) all_3c 2 ≡ back 0 resettled all_3c
  -- power-up: a cycle is completed; deep power-down ends
  pub completes : powers_up (programs 0 1) all_3c ≡ back 0 at_rest (second_page (row 0x30 0x0C 0x00 0x18))
  pub wakes : powers_up (packed 1 1 2 0) all_3c ≡ back 0 at_rest all_3c
  -- a loss: cut as the mask says, whatever the word; outside a cycle the latch is reset
  pub cuts : loses (programs 1 3) all_3c some_mask 0 ≡ back 0 at_rest (second_page (row 0x34 0x0C 0x3C 0x38))
  pub cuts-erase : loses (erases 1 5) all_3c some_mask 1 ≡ back 0 at_rest (second_sector (row 0x3D 0x3C 0xFF 0xBD))
  pub resets : loses set_up all_3c some_mask 1 ≡ back 0 at_rest all_3c
  -- yes is no for 0, else yes
  pub words : map (λ (said : ℕ). (loses (writes 1 2) all_3c some_mask said).bytes) (0 ∷ 1 ∷ 2 ∷ 256 ∷ 4294967295 ∷ []) ≡ at_rest ∷ replicate 4 resettled
  -- 8, then 6: nothing is written
  pub waits-bad : map (λ (b : List ℕ). waits b (0x3C ∷ []) 5) bad_ones ≡ back 8 (replicate 303 0xFF) (0x3C ∷ []) ∷ back 6 (replicate 304 0xFF) (0x3C ∷ []) ∷ back 8 (replicate 305 0xFF) (0x3C ∷ []) ∷ back 8 (front 1 1 0 0) (0x3C ∷ []) ∷ back 8 (front 1 1 0 0 ++ replicate 264 0) (0x3C ∷ []) ∷ []
  pub powers-bad : map (λ (b : List ℕ). powers_up b (0x3C ∷ [])) bad_ones ≡ back 8 (replicate 303 0xFF) (0x3C ∷ []) ∷ back 6 (replicate 304 0xFF) (0x3C ∷ []) ∷ back 8 (replicate 305 0xFF) (0x3C ∷ []) ∷ back 8 (front 1 1 0 0) (0x3C ∷ []) ∷ back 8 (front 1 1 0 0 ++ replicate 264 0) (0x3C ∷ []) ∷ []
  pub loses-bad : map (λ (b : List ℕ). loses b (0x3C ∷ []) [] 1) bad_ones ≡ back 8 (replicate 303 0xFF) (0x3C ∷ []) ∷ back 6 (replicate 304 0xFF) (0x3C ∷ []) ∷ back 8 (replicate 305 0xFF) (0x3C ∷ []) ∷ back 8 (front 1 1 0 0) (0x3C ∷ []) ∷ back 8 (front 1 1 0 0 ++ replicate 264 0) (0x3C ∷ []) ∷ []
  -- then 2, then 41: nothing is written either
  pub short-array : waits (programs 1 3) (replicate 4095 0x3C) 3 ∷ powers_up (programs 1 3) (replicate 4095 0x3C) ∷ loses (programs 1 3) (replicate 4095 0x3C) [] 1 ∷ [] ≡ replicate 3 (back 2 (programs 1 3) (replicate 4095 0x3C))
  pub short-mask : loses (programs 1 3) all_3c (replicate 255 0) 1 ∷ loses (programs 1 3) all_3c (replicate 257 0) 1 ∷ [] ≡ replicate 2 (back 41 (programs 1 3) all_3c)
  -- the last tick with its latch set is 6, and so is a tick before it with its latch reset
  pub wait-latches : map (λ (b : List ℕ). (waits b all_3c 0).bits) (wipes 1 1 ∷ wipes 0 1 ∷ wipes 1 2 ∷ wipes 0 2 ∷ packed 1 0 1 1 ∷ packed 1 1 1 2 ∷ []) ≡ 6 ∷ 0 ∷ 0 ∷ 6 ∷ 6 ∷ 6 ∷ []

-- computed by the checker
pub timings : Timings
unfolding map_at memory-is.programmed memory-is.erased memory-is.cut_page memory-is.cut_sector figures_of sound latch_at moded settled remembering running ended zero_record delivered front_of pack_of fields_of formed unpack_answer unpack_of no_slots no_cycle slots_sound cycle_sound touched cut after_cycle finished lost waited time_number wait_call power_up_call loss_call packed_answer timed_c named_sound locks_sound no_locks unlocked locked powered_up
timings = record {
  falls = refl;
  falls-last = refl;
  stands = refl;
  ends = refl;
  ends-program = refl;
  ends-bulk = refl;
  ends-settings = refl;
  completes = refl;
  wakes = refl;
  cuts = refl;
  cuts-erase = refl;
  resets = refl;
  words = refl;
  waits-bad = refl;
  powers-bad = refl;
  loses-bad = refl;
  short-array = refl;
  short-mask = refl;
  wait-latches = refl;
}
