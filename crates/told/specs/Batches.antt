-- Batches told a second time, and computed: bytes read as items and events, the numbers in their order, and a day on the bench part with every byte of its buffers.
use Rattle.std.specs.Prelude.{◌≡◌, refl, Bool, true, false, List, [], ◌∷◌, ◌++◌, map, ℕ, length, take, replicate}
use Rattle.std.specs.Int.Count.{ones_in, ones}
use Rattle.slices.specs.Bytes.{long}
use Rattle.slices.specs.Changed.{map_at, window, stored, sum_at, laid}
use Rattle.memory.specs.Memory as memory-is
use Rattle.memory.specs.Missing.{missing_at, missing, page_of}
use Rattle.parts.specs.Parts.{figures_of}
use Rattle.parts.specs.Protected.{protected_of}
use Rattle.device.specs.Locks.{lock_of, locks_sound, no_locks}
use Rattle.device.specs.Chip.{chip}
use Rattle.device.specs.Cycles.{no_slots, no_cycle, page_cycle, erase_cycle, all_cycle, settings_cycle, slots_sound, cycle_sound, touched, named_sound}
use Rattle.device.specs.Device.{sound, latch_at, moded, latched, settled, remembering, running, started, ended, status_byte}
use Rattle.device.specs.Time.{after_cycle, finished, waited, time_number, wait_call}
use Rattle.device.specs.Packing.{front_of, pack_of, fields_of, formed, unpack_answer, unpack_of}
use Rattle.chip.specs.Table.{row_of, address_of}
use Rattle.chip.specs.Answers.{host_number, in_protected, as_needed, chip_number, decided, verdict_of, protected_any, protected_at}
use Rattle.chip.specs.Line.{by_row, heard, heard_row, driven, lined, driving_at, first_of, count_of}
use Rattle.chip.specs.Change.{cycle_of, missing_of, bp_in, turned}
use Rattle.chip.specs.Outcome.{outcome_of, transacted}
use Rattle.chip.specs.Events.{Event, sends, waits, sent}
use Rattle.chip.specs.Worked.{bench, usual}
use Rattle.batch.specs.Items.{first_in, items_from, items_of, good_item, all_good, event_in, events_of}
use Rattle.batch.specs.Batch.{wrapped, batch_number, Out, carried_out, batched}
use Rattle.m25p.specs.Batch.{batch_c}
use Rattle.told.specs.CCalls.{set_up}
use Rattle.told.specs.TimeCalls.{all_3c}

-- ---- bytes read as items

-- a write enable; a transaction without bytes; a wait of 04030201 ticks
abbrev pub three : List ℕ
three = 1 ∷ 0 ∷ 1 ∷ 0x06 ∷ 0 ∷ 0 ∷ 0 ∷ 4 ∷ 0 ∷ 16 ∷ 0x01 ∷ 0x02 ∷ 0x03 ∷ 0x04 ∷ []

-- whether an item is good, by flag: without a body, and with one of four bytes
abbrev pub bare_good : ℕ → Bool
bare_good f = good_item (0 ∷ 0 ∷ f ∷ [])

abbrev pub four_good : ℕ → Bool
four_good f = good_item (4 ∷ 0 ∷ f ∷ 1 ∷ 2 ∷ 3 ∷ 4 ∷ [])

-- whether a wait is good, by the length that it says, and has
abbrev pub wait_good : ℕ → Bool
wait_good n = good_item (n ∷ 0 ∷ 16 ∷ replicate n 1)

-- a read status with a flag
abbrev pub flagged : ℕ → Event
flagged f = event_in (1 ∷ 0 ∷ f ∷ 0x05 ∷ [])

abbrev pub status : ℕ → Bool → Event
status p w = sends (0x05 ∷ []) p w

pub record Reading : Type 0 where
  pub none : items_of [] ≡ []
  pub items : items_of three ≡ (1 ∷ 0 ∷ 1 ∷ 0x06 ∷ []) ∷ (0 ∷ 0 ∷ 0 ∷ []) ∷ (4 ∷ 0 ∷ 16 ∷ 0x01 ∷ 0x02 ∷ 0x03 ∷ 0x04 ∷ []) ∷ []
  pub events : events_of three ≡ sends (0x06 ∷ []) 0 true ∷ sends [] 0 false ∷ waits 0x04030201 ∷ []
  -- 258 bytes of length 0102, little-endian
  pub long-one : map length (items_of (0x02 ∷ 0x01 ∷ 0 ∷ replicate 262 0)) ≡ 261 ∷ 3 ∷ 1 ∷ []
  -- cut at each byte: whole only at 0, 4, 7 and 14
  pub cuts : map (λ (n : ℕ). all_good (items_of (take n three))) (0 ∷ 1 ∷ 2 ∷ 3 ∷ 4 ∷ 5 ∷ 6 ∷ 7 ∷ 8 ∷ 9 ∷ 10 ∷ 11 ∷ 12 ∷ 13 ∷ 14 ∷ [])
      ≡ true ∷ false ∷ false ∷ false ∷ true ∷ false ∷ false ∷ true ∷ false ∷ false ∷ false ∷ false ∷ false ∷ false ∷ true ∷ []
  -- a cut body, whatever its flag
  pub cut-bodies : map (λ (f : ℕ). good_item (2 ∷ 0 ∷ f ∷ 0x05 ∷ [])) (0 ∷ 15 ∷ 16 ∷ 17 ∷ 255 ∷ []) ≡ false ∷ false ∷ false ∷ false ∷ false ∷ []
  -- flags up to 15, and 16 with a length of 4
  pub flags : map bare_good (0 ∷ 1 ∷ 8 ∷ 14 ∷ 15 ∷ 16 ∷ 17 ∷ 31 ∷ 32 ∷ 128 ∷ 255 ∷ []) ≡ true ∷ true ∷ true ∷ true ∷ true ∷ false ∷ false ∷ false ∷ false ∷ false ∷ false ∷ []
  pub flags-of-four : map four_good (0 ∷ 15 ∷ 16 ∷ 17 ∷ 20 ∷ 32 ∷ 48 ∷ 255 ∷ []) ≡ true ∷ true ∷ true ∷ false ∷ false ∷ false ∷ false ∷ false ∷ []
  pub wait-lengths : map wait_good (0 ∷ 1 ∷ 3 ∷ 4 ∷ 5 ∷ 6 ∷ 255 ∷ []) ≡ false ∷ false ∷ false ∷ true ∷ false ∷ false ∷ false ∷ []
  pub wait-high : good_item (4 ∷ 1 ∷ 16 ∷ replicate 260 0) ≡ false
  -- one bad item anywhere
  pub all : map all_good (([] ∷ []) ∷ ((0 ∷ 0 ∷ 0 ∷ []) ∷ (0 ∷ 0 ∷ 17 ∷ []) ∷ (0 ∷ 0 ∷ 0 ∷ []) ∷ []) ∷ ((0 ∷ 0 ∷ 0 ∷ []) ∷ (0 ∷ 0 ∷ 15 ∷ []) ∷ []) ∷ []) ≡ false ∷ false ∷ true ∷ []
  -- W in bit 0, the further pulses in bits 1 to 3
  pub pulses : map flagged (0 ∷ 1 ∷ 2 ∷ 3 ∷ 8 ∷ 9 ∷ 14 ∷ 15 ∷ []) ≡ status 0 false ∷ status 0 true ∷ status 1 false ∷ status 1 true ∷ status 4 false ∷ status 4 true ∷ status 7 false ∷ status 7 true ∷ []

-- computed by the checker
pub reading : Reading
unfolding first_in items_from good_item event_in
reading = record { none = refl; items = refl; events = refl; long-one = refl; cuts = refl; cut-bodies = refl; flags = refl; flags-of-four = refl; wait-lengths = refl; wait-high = refl; all = refl; pulses = refl }

-- ---- the numbers

-- two status reads of 2 and 3 bytes with a wait between them: 5 response bytes, 3 answer bytes
abbrev pub some : List ℕ
some = 2 ∷ 0 ∷ 1 ∷ 0x05 ∷ 0 ∷ 4 ∷ 0 ∷ 16 ∷ 1 ∷ 0 ∷ 0 ∷ 0 ∷ 3 ∷ 0 ∷ 1 ∷ 0x05 ∷ 0 ∷ 0 ∷ []

-- the same cut by a byte: its last item needs a response all the same
abbrev pub cut : List ℕ
cut = take 17 some

pub record Numbers : Type 0 where
  -- in order, each with all that come after it: 6 (BP 4 is too high for the bench part), 2, 9, 10, or 0
  pub order : batch_number (bench 4 false true) 0 cut 0 0 0 ∷ batch_number usual 0 cut 0 0 0 ∷ batch_number usual 4096 cut 0 0 0 ∷ batch_number usual 4096 some 0 0 0 ∷ batch_number usual 4096 some 5 3 8 ∷ [] ≡ 6 ∷ 2 ∷ 9 ∷ 10 ∷ 0 ∷ []
  -- 10 for each buffer that is one byte short, 0 for longer ones
  pub short : batch_number usual 4096 some 4 3 8 ∷ batch_number usual 4096 some 5 2 8 ∷ batch_number usual 4096 some 5 3 7 ∷ batch_number usual 4096 some 99 99 99 ∷ [] ≡ 10 ∷ 10 ∷ 10 ∷ 0 ∷ []
  -- an empty batch needs the eight bytes of its sum alone
  pub empty : batch_number usual 4096 [] 0 0 8 ∷ batch_number usual 4096 [] 0 0 7 ∷ [] ≡ 0 ∷ 10 ∷ []
  -- over C 8 and 6 of the packing come first
  pub packed : batch_c (replicate 303 0xFF) 0 cut 0 0 0 ∷ batch_c (replicate 304 0xFF) 0 cut 0 0 0 ∷ batch_c set_up 0 cut 0 0 0 ∷ batch_c set_up 4096 cut 0 0 0 ∷ batch_c set_up 4096 some 5 3 7 ∷ batch_c set_up 4096 some 5 3 8 ∷ [] ≡ 8 ∷ 6 ∷ 2 ∷ 9 ∷ 10 ∷ 0 ∷ []
  -- eight bytes, little-endian; the sum wraps at 64 bits
  pub bytes : long 0x0102030405060708 ≡ 8 ∷ 7 ∷ 6 ∷ 5 ∷ 4 ∷ 3 ∷ 2 ∷ 1 ∷ []
  pub wraps : map wrapped (0 ∷ 18446744073709551615 ∷ 18446744073709551616 ∷ 18446744073709551621 ∷ []) ≡ 0 ∷ 18446744073709551615 ∷ 0 ∷ 5 ∷ []

pub numbers : Numbers
unfolding figures_of sound latch_at no_slots no_cycle slots_sound cycle_sound named_sound locks_sound no_locks first_in items_from good_item event_in batch_number batch_c front_of pack_of fields_of formed unpack_answer unpack_of
numbers = record { order = refl; short = refl; empty = refl; packed = refl; bytes = refl; wraps = refl }

-- ---- a day

-- write enable; a program of FF 0F at 000010; two ticks of three go by; the status; no bytes; the last tick; a read of the two bytes; a program without the latch; a write enable with a further pulse; one without; a program of FF at 000011
abbrev pub day : List ℕ
day =
    1 ∷ 0 ∷ 1 ∷ 0x06
    ∷ 6 ∷ 0 ∷ 1 ∷ 0x02 ∷ 0 ∷ 0 ∷ 0x10 ∷ 0xFF ∷ 0x0F
    ∷ 4 ∷ 0 ∷ 16 ∷ 2 ∷ 0 ∷ 0 ∷ 0
    ∷ 2 ∷ 0 ∷ 1 ∷ 0x05 ∷ 0
    ∷ 0 ∷ 0 ∷ 0
    ∷ 4 ∷ 0 ∷ 16 ∷ 1 ∷ 0 ∷ 0 ∷ 0
    ∷ 6 ∷ 0 ∷ 0 ∷ 0x03 ∷ 0 ∷ 0 ∷ 0x10 ∷ 0 ∷ 0
    ∷ 5 ∷ 0 ∷ 1 ∷ 0x02 ∷ 0 ∷ 0 ∷ 0x11 ∷ 0xFF
    ∷ 1 ∷ 0 ∷ 3 ∷ 0x06
    ∷ 1 ∷ 0 ∷ 1 ∷ 0x06
    ∷ 5 ∷ 0 ∷ 1 ∷ 0x02 ∷ 0 ∷ 0 ∷ 0x11 ∷ 0xFF
    ∷ []

-- over 3C in every byte, with the latch reset, and buffers of AA that are a byte longer than needed
abbrev pub evening : Out
evening = carried_out (events_of day) (chip (bench 0 false false) all_3c) (replicate 28 0xAA) (replicate 12 0xAA) (replicate 9 0xAA)

pub record Day : Type 0 where
  -- one byte an item, the waits' among them
  pub answers : evening.answers ≡ 0 ∷ 0 ∷ 0 ∷ 0 ∷ 11 ∷ 0 ∷ 0 ∷ 16 ∷ 15 ∷ 0 ∷ 0 ∷ 0xAA ∷ []
  -- nothing of the waits and of the transaction without bytes
  pub responses : evening.responses ≡ replicate 8 0xFF ++ (0x01 ∷ replicate 4 0xFF ++ (0x3C ∷ 0x0C ∷ replicate 12 0xFF ++ (0xAA ∷ [])))
  -- FF over 3C misses 4, 0F over 3C 2, FF over 0C 6
  pub missing : evening.missing ≡ 12 ∷ 0 ∷ 0 ∷ 0 ∷ 0 ∷ 0 ∷ 0 ∷ 0 ∷ 0xAA ∷ []
  -- the first program is there, the second has begun
  pub array : evening.chip.array ≡ replicate 17 0x3C ++ (0x0C ∷ replicate 4078 0x3C)
  pub status : status_byte evening.chip.device ≡ 0x03
  -- an empty batch writes a sum of 0
  pub idle : carried_out (events_of []) (chip usual all_3c) (0xAA ∷ []) (0xAA ∷ []) (replicate 8 0xAA) ≡ record { chip = chip usual all_3c; responses = 0xAA ∷ []; answers = 0xAA ∷ []; missing = replicate 8 0 }
  -- refused, all is as it came
  pub refused : batched 9 usual all_3c day (0xAA ∷ []) (0xBB ∷ []) (0xCC ∷ []) ≡ record { chip = chip usual all_3c; responses = 0xAA ∷ []; answers = 0xBB ∷ []; missing = 0xCC ∷ [] }

pub a-day : Day
unfolding map_at window stored sum_at laid memory-is.blank memory-is.filled memory-is.programmed memory-is.reached memory-is.landed figures_of protected_of sound latch_at moded latched settled remembering running started ended status_byte row_of address_of host_number in_protected as_needed chip_number decided verdict_of by_row heard heard_row driven lined driving_at first_of count_of no_slots no_cycle page_cycle erase_cycle all_cycle settings_cycle slots_sound cycle_sound touched cycle_of missing_of missing missing_at page_of ones ones_in bp_in turned outcome_of transacted named_sound locks_sound no_locks protected_at protected_any lock_of after_cycle finished waited time_number wait_call sent first_in items_from good_item event_in carried_out batched
a-day = record { answers = refl; responses = refl; missing = refl; array = refl; status = refl; idle = refl; refused = refl }
