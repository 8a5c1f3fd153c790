-- The answer numbers told a second time, as tables of numbers, and computed: the host's checks, every instruction in every state and of every length, every code, and the order of the numbers. Lengths are handed over as numbers.
use Rattle.std.specs.Prelude.{◌≡◌, refl, Bool, true, false, cond, List, [], ◌∷◌, map, ℕ, zero, suc, eqb, length, get_or, replicate}
use Rattle.slices.specs.Changed.{map_at, put}
use Rattle.slices.specs.Chosen.{on_zero}
use Rattle.parts.specs.Parts.{figures_of}
use Rattle.parts.specs.Protected.{protected_of}
use Rattle.device.specs.Locks.{lock_of, locks_sound, no_locks}
use Rattle.device.specs.declared.Mode.TheVariants.{Standby, Deep}
use Rattle.device.specs.declared.Device.{Device}
use Rattle.device.specs.declared.cycle.Cycle.{Cycle}
use Rattle.device.specs.Cycles.{no_slots, no_cycle, slots_sound, cycle_sound, named_sound}
use Rattle.device.specs.Device.{sound, latch_at, zero_record, delivered, remembering}
use Rattle.chip.specs.declared.answers.Verdict.{Verdict}
use Rattle.chip.specs.declared.answers.Verdict.TheVariants.{Refused, Ignored, Executed}
use Rattle.chip.specs.Table.{row_of, address_of}
use Rattle.chip.specs.Answers.{delivery_answer, host_number, in_protected, as_needed, chip_number, decided, verdict_of, protected_any, protected_at}
use Rattle.chip.specs.Worked.{record_of, bench, usual}
use Rattle.told.specs.Cycles.{full, none, programming, erasing_sector, erasing_all, writing, busy_of, mid_erase}

-- ---- the host side

-- BP 4 on the bench part: not sound
abbrev pub unsound : Device
unsound = bench 4 false true

-- the bytes of each part, as document 01 has them, of the older M25P10-A and of the M25PE40
abbrev pub sizes : List ℕ
sizes = 4096 ∷ 131072 ∷ 524288 ∷ 4194304 ∷ 16777216 ∷ 131072 ∷ 524288 ∷ []

-- what a delivery of a part answers on arrays of these lengths
abbrev pub delivers : ℕ → List ℕ → List ℕ
delivers p arrays = map (λ (a : ℕ). delivery_answer p a 3 5 9 2) arrays

-- what a transaction of one byte is refused with on arrays of these lengths
abbrev pub takes : ℕ → List ℕ → List ℕ
takes p arrays = map (λ (a : ℕ). host_number (record_of p 0 false false Standby) a 1 0 1) arrays

-- the last number below the range of a duration, its first, its last, and the one above
abbrev pub borders : List ℕ
borders = 0 ∷ 1 ∷ 1000000 ∷ 1000001 ∷ []

-- what the host side answers
pub record Host : Type 0 where
  -- delivery, 1: part above 6
  pub one : map (λ (p : ℕ). delivery_answer p 4096 3 5 9 2) (0 ∷ 7 ∷ 255 ∷ 256 ∷ []) ≡ 0 ∷ 1 ∷ 1 ∷ 1 ∷ []
  -- delivery and transaction, 2: every length but the part's own
  pub two-bench : delivers 0 sizes ≡ 0 ∷ 2 ∷ 2 ∷ 2 ∷ 2 ∷ 2 ∷ 2 ∷ []
  pub two-m25p10a : delivers 1 sizes ≡ 2 ∷ 0 ∷ 2 ∷ 2 ∷ 2 ∷ 0 ∷ 2 ∷ []
  pub two-m25p40 : delivers 2 sizes ≡ 2 ∷ 2 ∷ 0 ∷ 2 ∷ 2 ∷ 2 ∷ 0 ∷ []
  pub two-m25p32 : delivers 3 sizes ≡ 2 ∷ 2 ∷ 2 ∷ 0 ∷ 2 ∷ 2 ∷ 2 ∷ []
  pub two-m25p128 : delivers 4 sizes ≡ 2 ∷ 2 ∷ 2 ∷ 2 ∷ 0 ∷ 2 ∷ 2 ∷ []
  pub two-older : delivers 5 sizes ≡ 2 ∷ 0 ∷ 2 ∷ 2 ∷ 2 ∷ 0 ∷ 2 ∷ []
  pub two-m25pe40 : delivers 6 sizes ≡ 2 ∷ 2 ∷ 0 ∷ 2 ∷ 2 ∷ 2 ∷ 0 ∷ []
  pub two-near : delivers 0 (0 ∷ 4095 ∷ 4097 ∷ []) ≡ 2 ∷ 2 ∷ 2 ∷ []
  pub takes-bench : takes 0 sizes ≡ 0 ∷ 2 ∷ 2 ∷ 2 ∷ 2 ∷ 2 ∷ 2 ∷ []
  pub takes-m25p10a : takes 1 sizes ≡ 2 ∷ 0 ∷ 2 ∷ 2 ∷ 2 ∷ 0 ∷ 2 ∷ []
  pub takes-m25p40 : takes 2 sizes ≡ 2 ∷ 2 ∷ 0 ∷ 2 ∷ 2 ∷ 2 ∷ 0 ∷ []
  pub takes-m25p32 : takes 3 sizes ≡ 2 ∷ 2 ∷ 2 ∷ 0 ∷ 2 ∷ 2 ∷ 2 ∷ []
  pub takes-m25p128 : takes 4 sizes ≡ 2 ∷ 2 ∷ 2 ∷ 2 ∷ 0 ∷ 2 ∷ 2 ∷ []
  pub takes-older : takes 5 sizes ≡ 2 ∷ 0 ∷ 2 ∷ 2 ∷ 2 ∷ 0 ∷ 2 ∷ []
  pub takes-m25pe40 : takes 6 sizes ≡ 2 ∷ 2 ∷ 0 ∷ 2 ∷ 2 ∷ 2 ∷ 0 ∷ []
  pub takes-near : takes 4 (0 ∷ 16777215 ∷ 16777217 ∷ []) ≡ 2 ∷ 2 ∷ 2 ∷ []
  -- delivery, 7: a duration outside 1 to 1,000,000
  pub seven-program : map (λ (x : ℕ). delivery_answer 0 4096 x 5 9 2) borders ≡ 7 ∷ 0 ∷ 0 ∷ 7 ∷ []
  pub seven-sector : map (λ (x : ℕ). delivery_answer 0 4096 3 x 9 2) borders ≡ 7 ∷ 0 ∷ 0 ∷ 7 ∷ []
  pub seven-bulk : map (λ (x : ℕ). delivery_answer 0 4096 3 5 x 2) borders ≡ 7 ∷ 0 ∷ 0 ∷ 7 ∷ []
  pub seven-status : map (λ (x : ℕ). delivery_answer 0 4096 3 5 9 x) borders ≡ 7 ∷ 0 ∷ 0 ∷ 7 ∷ []
  -- delivery in order, each with all that come after it: 1, 2, 7
  pub delivery-order : delivery_answer 7 0 0 5 9 2 ∷ delivery_answer 0 0 0 5 9 2 ∷ delivery_answer 0 4096 0 5 9 2 ∷ delivery_answer 0 4096 3 5 9 2 ∷ [] ≡ 1 ∷ 2 ∷ 7 ∷ 0 ∷ []
  -- an executed delivery gives the record as delivered and an array all FF; a refused one the all-zero record, and leaves the array
  pub given : on_zero 0 (delivered 2 3 5 9 2) zero_record ≡ record { part = 2; bp = 0; srwd = false; latch = false; mode = Standby; program = 3; sector_erase = 5; bulk_erase = 9; write_status = 2; cycle = none; locks = no_locks }
  pub not-given : on_zero 7 (delivered 2 3 5 9 2) zero_record ≡ record { part = 0; bp = 0; srwd = false; latch = false; mode = Standby; program = 0; sector_erase = 0; bulk_erase = 0; write_status = 0; cycle = none; locks = no_locks }
  pub erased : on_zero 0 (map_at (put 255) (0x00 ∷ 0x5A ∷ 0xFF ∷ [])) (0x00 ∷ 0x5A ∷ 0xFF ∷ []) ≡ 0xFF ∷ 0xFF ∷ 0xFF ∷ []
  pub left : on_zero 1 (map_at (put 255) (0x00 ∷ 0x5A ∷ 0xFF ∷ [])) (0x00 ∷ 0x5A ∷ 0xFF ∷ []) ≡ 0x00 ∷ 0x5A ∷ 0xFF ∷ []
  -- transaction, 6: the record not sound
  pub six : host_number unsound 4096 2 0 2 ∷ host_number zero_record 4096 2 0 2 ∷ host_number usual 4096 2 0 2 ∷ [] ≡ 6 ∷ 6 ∷ 0 ∷ []
  -- so is one that is busy without a cycle, or has one in standby
  pub six-cycle : host_number (busy_of 0 0 false true 2 none) 4096 2 0 2 ∷ host_number (remembering usual erasing_all) 4096 2 0 2 ∷ host_number (mid_erase 0 0 false true 2) 4096 2 0 2 ∷ [] ≡ 6 ∷ 6 ∷ 0 ∷ []
  -- transaction, 3: n above 65,536
  pub three : map (λ (n : ℕ). host_number usual 4096 n 0 n) (0 ∷ 65535 ∷ 65536 ∷ 65537 ∷ []) ≡ 0 ∷ 0 ∷ 0 ∷ 3 ∷ []
  -- transaction, 4: further pulses above 7
  pub four : map (λ (p : ℕ). host_number usual 4096 2 p 2) (0 ∷ 1 ∷ 6 ∷ 7 ∷ 8 ∷ 256 ∷ []) ≡ 0 ∷ 0 ∷ 0 ∷ 0 ∷ 4 ∷ 4 ∷ []
  -- transaction, 5: response shorter than n
  pub five : map (λ (r : ℕ). host_number usual 4096 2 0 r) (0 ∷ 1 ∷ 2 ∷ 3 ∷ []) ≡ 5 ∷ 5 ∷ 0 ∷ 0 ∷ []
  -- transaction in order, each with all that come after it: 6, 2, 3, 4, 5
  pub order : host_number unsound 0 65537 8 0 ∷ host_number usual 0 65537 8 0 ∷ host_number usual 4096 65537 8 0 ∷ host_number usual 4096 65536 8 0 ∷ host_number usual 4096 65536 7 0 ∷ host_number usual 4096 65536 7 65536 ∷ [] ≡ 6 ∷ 2 ∷ 3 ∷ 4 ∷ 5 ∷ 0 ∷ []

-- computed by the checker
pub host : Host
unfolding delivery_answer host_number sound latch_at no_slots no_cycle slots_sound cycle_sound figures_of zero_record delivered remembering map_at named_sound locks_sound no_locks
host = record {
  one = refl;
  two-bench = refl;
  two-m25p10a = refl;
  two-m25p40 = refl;
  two-m25p32 = refl;
  two-m25p128 = refl;
  two-older = refl;
  two-m25pe40 = refl;
  two-near = refl;
  takes-bench = refl;
  takes-m25p10a = refl;
  takes-m25p40 = refl;
  takes-m25p32 = refl;
  takes-m25p128 = refl;
  takes-older = refl;
  takes-m25pe40 = refl;
  takes-near = refl;
  seven-program = refl;
  seven-sector = refl;
  seven-bulk = refl;
  seven-status = refl;
  delivery-order = refl;
  given = refl;
  not-given = refl;
  erased = refl;
  left = refl;
  six = refl;
  six-cycle = refl;
  three = refl;
  four = refl;
  five = refl;
  order = refl;
}

-- ---- the chip

-- the number that a verdict gives
abbrev pub number_in : Verdict → ℕ
number_in (Refused k) = k
number_in (Ignored k) = k
number_in Executed = 0

-- the number that a transaction gets on an array of its part's size, with a response of n bytes: by record, further pulses and W
abbrev pub number : Device → ℕ → Bool → List ℕ → ℕ
number d pulses w sent = number_in (verdict_of d (get_or sizes d.part 0) sent pulses w (length sent))

-- the twelve in the table's order, each as it needs to be: WREN, WRDI, RDID, RDSR, WRSR, READ, FAST_READ, PP, SE, BE, DP, RES
abbrev pub twelve : List (List ℕ)
twelve =
    (0x06 ∷ [])
    ∷ (0x04 ∷ [])
    ∷ (0x9F ∷ 0 ∷ [])
    ∷ (0x05 ∷ 0 ∷ [])
    ∷ (0x01 ∷ 0 ∷ [])
    ∷ (0x03 ∷ 0 ∷ 0 ∷ 0 ∷ 0 ∷ [])
    ∷ (0x0B ∷ 0 ∷ 0 ∷ 0 ∷ 0 ∷ 0 ∷ [])
    ∷ (0x02 ∷ 0 ∷ 0 ∷ 0 ∷ 0x5A ∷ [])
    ∷ (0xD8 ∷ 0 ∷ 0 ∷ 0 ∷ [])
    ∷ (0xC7 ∷ [])
    ∷ (0xB9 ∷ [])
    ∷ (0xAB ∷ [])
    ∷ []

-- what the twelve get: by record, further pulses and W
abbrev pub asked : Device → ℕ → Bool → List ℕ
asked d pulses w = map (number d pulses w) twelve

-- what the twelve codes get with n bytes, address 0
abbrev pub asked_of : ℕ → List ℕ
asked_of n =
    map (λ (c : ℕ). number_in (decided (host_number usual 4096 n 0 n) (chip_number usual (row_of (figures_of 0) c) n 0 true 0)))
    (0x06 ∷ 0x04 ∷ 0x9F ∷ 0x05 ∷ 0x01 ∷ 0x03 ∷ 0x0B ∷ 0x02 ∷ 0xD8 ∷ 0xC7 ∷ 0xB9 ∷ 0xAB ∷ [])

-- of the next k codes those that are an instruction: a transaction of one byte does not get 14
abbrev pub known_from : Device → ℕ → ℕ → List ℕ
known_from d code zero = []
known_from d code (suc k) = cond (eqb (number d 0 true (code ∷ [])) 14) (known_from d (suc code) k) (code ∷ known_from d (suc code) k)

-- of all 256 codes
abbrev pub known : Device → List ℕ
known d = known_from d 0 256

-- the twelve codes
abbrev pub codes : List ℕ
codes = 0x01 ∷ 0x02 ∷ 0x03 ∷ 0x04 ∷ 0x05 ∷ 0x06 ∷ 0x0B ∷ 0x9F ∷ 0xAB ∷ 0xB9 ∷ 0xC7 ∷ 0xD8 ∷ []

-- the ten of the M25P128
abbrev pub sleepless : List ℕ
sleepless = 0x01 ∷ 0x02 ∷ 0x03 ∷ 0x04 ∷ 0x05 ∷ 0x06 ∷ 0x0B ∷ 0x9F ∷ 0xC7 ∷ 0xD8 ∷ []

-- the eleven of the older M25P10-A
abbrev pub nameless : List ℕ
nameless = 0x01 ∷ 0x02 ∷ 0x03 ∷ 0x04 ∷ 0x05 ∷ 0x06 ∷ 0x0B ∷ 0xAB ∷ 0xB9 ∷ 0xC7 ∷ 0xD8 ∷ []

-- a program without its data
abbrev pub dataless : List ℕ
dataless = 0x02 ∷ 0 ∷ 0 ∷ 0 ∷ []

-- the settings with a byte too many
abbrev pub three_bytes : List ℕ
three_bytes = 0x01 ∷ 0 ∷ 0 ∷ []

-- a program as it needs to be
abbrev pub program : List ℕ
program = 0x02 ∷ 0 ∷ 0 ∷ 0 ∷ 0x5A ∷ []

-- the settings as they need to be
abbrev pub settings : List ℕ
settings = 0x01 ∷ 0 ∷ []

-- what the chip answers; each row of twelve in the order WREN, WRDI, RDID, RDSR, WRSR, READ, FAST_READ, PP, SE, BE, DP, RES
pub record Chip : Type 0 where
  -- standby, latch set, BP 0, SRWD 0: all are executed, on every part that has them
  pub ready : asked usual 0 true ≡ 0 ∷ 0 ∷ 0 ∷ 0 ∷ 0 ∷ 0 ∷ 0 ∷ 0 ∷ 0 ∷ 0 ∷ 0 ∷ 0 ∷ []
  pub ready-m25p10a : asked (record_of 1 0 false true Standby) 0 true ≡ 0 ∷ 0 ∷ 0 ∷ 0 ∷ 0 ∷ 0 ∷ 0 ∷ 0 ∷ 0 ∷ 0 ∷ 0 ∷ 0 ∷ []
  pub ready-m25p40 : asked (record_of 2 0 false true Standby) 0 true ≡ 0 ∷ 0 ∷ 0 ∷ 0 ∷ 0 ∷ 0 ∷ 0 ∷ 0 ∷ 0 ∷ 0 ∷ 0 ∷ 0 ∷ []
  pub ready-m25p32 : asked (record_of 3 0 false true Standby) 0 true ≡ 0 ∷ 0 ∷ 0 ∷ 0 ∷ 0 ∷ 0 ∷ 0 ∷ 0 ∷ 0 ∷ 0 ∷ 0 ∷ 0 ∷ []
  -- 14: the M25P128 has neither DP nor RES
  pub ready-m25p128 : asked (record_of 4 0 false true Standby) 0 true ≡ 0 ∷ 0 ∷ 0 ∷ 0 ∷ 0 ∷ 0 ∷ 0 ∷ 0 ∷ 0 ∷ 0 ∷ 14 ∷ 14 ∷ []
  -- 14: the older M25P10-A has no RDID
  pub ready-older : asked (record_of 5 0 false true Standby) 0 true ≡ 0 ∷ 0 ∷ 14 ∷ 0 ∷ 0 ∷ 0 ∷ 0 ∷ 0 ∷ 0 ∷ 0 ∷ 0 ∷ 0 ∷ []
  -- 12: busy, and not RDSR
  pub busy : asked (mid_erase 0 0 false true 2) 0 true ≡ 12 ∷ 12 ∷ 12 ∷ 0 ∷ 12 ∷ 12 ∷ 12 ∷ 12 ∷ 12 ∷ 12 ∷ 12 ∷ 12 ∷ []
  pub busy-last : asked (mid_erase 0 0 false false 1) 0 true ≡ 12 ∷ 12 ∷ 12 ∷ 0 ∷ 12 ∷ 12 ∷ 12 ∷ 12 ∷ 12 ∷ 12 ∷ 12 ∷ 12 ∷ []
  -- whatever the cycle
  pub busy-cycles : map (λ (c : Cycle). asked (busy_of 0 0 false true 2 c) 0 true) (programming 0x1FF (full 0xFF) ∷ erasing_sector 0x7FF ∷ erasing_all ∷ writing true 3 ∷ []) ≡ replicate 4 (12 ∷ 12 ∷ 12 ∷ 0 ∷ 12 ∷ 12 ∷ 12 ∷ 12 ∷ 12 ∷ 12 ∷ 12 ∷ 12 ∷ [])
  pub busy-m25p128 : asked (mid_erase 4 0 false true 2) 0 true ≡ 12 ∷ 12 ∷ 12 ∷ 0 ∷ 12 ∷ 12 ∷ 12 ∷ 12 ∷ 12 ∷ 12 ∷ 14 ∷ 14 ∷ []
  pub busy-older : asked (mid_erase 5 0 false true 2) 0 true ≡ 12 ∷ 12 ∷ 14 ∷ 0 ∷ 12 ∷ 12 ∷ 12 ∷ 12 ∷ 12 ∷ 12 ∷ 12 ∷ 12 ∷ []
  -- 13: deep power-down, and not RES
  pub deep : asked (record_of 0 0 false true Deep) 0 true ≡ 13 ∷ 13 ∷ 13 ∷ 13 ∷ 13 ∷ 13 ∷ 13 ∷ 13 ∷ 13 ∷ 13 ∷ 13 ∷ 0 ∷ []
  pub deep-older : asked (record_of 5 0 false true Deep) 0 true ≡ 13 ∷ 13 ∷ 14 ∷ 13 ∷ 13 ∷ 13 ∷ 13 ∷ 13 ∷ 13 ∷ 13 ∷ 13 ∷ 0 ∷ []
  -- 15: one further pulse, or seven, where none is needed; with eight the host refuses
  pub pulse : asked usual 1 true ≡ 15 ∷ 15 ∷ 0 ∷ 0 ∷ 15 ∷ 0 ∷ 0 ∷ 15 ∷ 15 ∷ 15 ∷ 15 ∷ 0 ∷ []
  pub pulses : asked usual 7 true ≡ 15 ∷ 15 ∷ 0 ∷ 0 ∷ 15 ∷ 0 ∷ 0 ∷ 15 ∷ 15 ∷ 15 ∷ 15 ∷ 0 ∷ []
  pub too_many : asked usual 8 true ≡ 4 ∷ 4 ∷ 4 ∷ 4 ∷ 4 ∷ 4 ∷ 4 ∷ 4 ∷ 4 ∷ 4 ∷ 4 ∷ 4 ∷ []
  -- 16: latch needed and not set
  pub reset : asked (bench 0 false false) 0 true ≡ 0 ∷ 0 ∷ 0 ∷ 0 ∷ 16 ∷ 0 ∷ 0 ∷ 16 ∷ 16 ∷ 16 ∷ 0 ∷ 0 ∷ []
  -- 17: BP 3, which protects all of the bench part; BP 1, which does not protect sector 0
  pub protected : asked (bench 3 false true) 0 true ≡ 0 ∷ 0 ∷ 0 ∷ 0 ∷ 0 ∷ 0 ∷ 0 ∷ 17 ∷ 17 ∷ 17 ∷ 0 ∷ 0 ∷ []
  pub protected-above : asked (bench 1 false true) 0 true ≡ 0 ∷ 0 ∷ 0 ∷ 0 ∷ 0 ∷ 0 ∷ 0 ∷ 0 ∷ 0 ∷ 17 ∷ 0 ∷ 0 ∷ []
  -- 18: SRWD set and W low, and neither alone
  pub frozen : asked (bench 0 true true) 0 false ≡ 0 ∷ 0 ∷ 0 ∷ 0 ∷ 18 ∷ 0 ∷ 0 ∷ 0 ∷ 0 ∷ 0 ∷ 0 ∷ 0 ∷ []
  pub srwd-alone : asked (bench 0 true true) 0 true ≡ 0 ∷ 0 ∷ 0 ∷ 0 ∷ 0 ∷ 0 ∷ 0 ∷ 0 ∷ 0 ∷ 0 ∷ 0 ∷ 0 ∷ []
  pub low_alone : asked usual 0 false ≡ 0 ∷ 0 ∷ 0 ∷ 0 ∷ 0 ∷ 0 ∷ 0 ∷ 0 ∷ 0 ∷ 0 ∷ 0 ∷ 0 ∷ []
  -- n as needed, or 15; 11 with no bytes, 3 with too many
  pub no_bytes : asked_of 0 ≡ 11 ∷ 11 ∷ 11 ∷ 11 ∷ 11 ∷ 11 ∷ 11 ∷ 11 ∷ 11 ∷ 11 ∷ 11 ∷ 11 ∷ []
  pub one_byte : asked_of 1 ≡ 0 ∷ 0 ∷ 0 ∷ 0 ∷ 15 ∷ 15 ∷ 15 ∷ 15 ∷ 15 ∷ 0 ∷ 0 ∷ 0 ∷ []
  pub two_bytes : asked_of 2 ≡ 15 ∷ 15 ∷ 0 ∷ 0 ∷ 0 ∷ 15 ∷ 15 ∷ 15 ∷ 15 ∷ 15 ∷ 15 ∷ 0 ∷ []
  pub three-bytes : asked_of 3 ≡ 15 ∷ 15 ∷ 0 ∷ 0 ∷ 15 ∷ 15 ∷ 15 ∷ 15 ∷ 15 ∷ 15 ∷ 15 ∷ 0 ∷ []
  pub four_bytes : asked_of 4 ≡ 15 ∷ 15 ∷ 0 ∷ 0 ∷ 15 ∷ 0 ∷ 15 ∷ 15 ∷ 0 ∷ 15 ∷ 15 ∷ 0 ∷ []
  pub five-bytes : asked_of 5 ≡ 15 ∷ 15 ∷ 0 ∷ 0 ∷ 15 ∷ 0 ∷ 0 ∷ 0 ∷ 15 ∷ 15 ∷ 15 ∷ 0 ∷ []
  pub six-bytes : asked_of 6 ≡ 15 ∷ 15 ∷ 0 ∷ 0 ∷ 15 ∷ 0 ∷ 0 ∷ 0 ∷ 15 ∷ 15 ∷ 15 ∷ 0 ∷ []
  pub many-bytes : asked_of 301 ≡ 15 ∷ 15 ∷ 0 ∷ 0 ∷ 15 ∷ 0 ∷ 0 ∷ 0 ∷ 15 ∷ 15 ∷ 15 ∷ 0 ∷ []
  pub most_bytes : asked_of 65536 ≡ 15 ∷ 15 ∷ 0 ∷ 0 ∷ 15 ∷ 0 ∷ 0 ∷ 0 ∷ 15 ∷ 15 ∷ 15 ∷ 0 ∷ []
  pub above : asked_of 65537 ≡ 3 ∷ 3 ∷ 3 ∷ 3 ∷ 3 ∷ 3 ∷ 3 ∷ 3 ∷ 3 ∷ 3 ∷ 3 ∷ 3 ∷ []
  -- 14: of all 256 codes these alone are instructions, busy and in deep power-down too
  pub codes-bench : known usual ≡ codes
  pub codes-m25p10a : known (record_of 1 0 false true Standby) ≡ codes
  pub codes-m25p40 : known (record_of 2 0 false true Standby) ≡ codes
  pub codes-m25p32 : known (record_of 3 0 false true Standby) ≡ codes
  pub codes-m25p128 : known (record_of 4 0 false true Standby) ≡ sleepless
  pub codes-older : known (record_of 5 0 false true Standby) ≡ nameless
  pub codes-busy : known (mid_erase 0 0 false false 1) ≡ codes
  pub codes-deep : known (record_of 0 0 false true Deep) ≡ codes
  -- the chip's numbers in order, each with all that can come after it
  pub eleven-first : number usual 0 true [] ∷ number (mid_erase 0 0 false false 1) 7 false [] ∷ number (record_of 0 0 false false Deep) 7 false [] ∷ [] ≡ 11 ∷ 11 ∷ 11 ∷ []
  pub fourteen-next : number (mid_erase 4 7 true false 1) 7 false (0xAB ∷ []) ∷ number (record_of 3 7 true false Deep) 7 false (0x9E ∷ []) ∷ [] ≡ 14 ∷ 14 ∷ []
  pub twelve-next : number (mid_erase 0 3 true false 1) 7 false dataless ∷ number (mid_erase 0 3 true false 1) 7 false three_bytes ∷ [] ≡ 12 ∷ 12 ∷ []
  pub thirteen-next : number (record_of 0 3 true false Deep) 7 false dataless ∷ number (record_of 0 3 true false Deep) 7 false three_bytes ∷ [] ≡ 13 ∷ 13 ∷ []
  pub fifteen-next : number (bench 3 true false) 0 false dataless ∷ number (bench 3 true false) 0 false three_bytes ∷ number (bench 3 true false) 1 false program ∷ number (bench 3 true false) 1 false settings ∷ [] ≡ 15 ∷ 15 ∷ 15 ∷ 15 ∷ []
  pub sixteen-next : asked (bench 3 true false) 0 false ≡ 0 ∷ 0 ∷ 0 ∷ 0 ∷ 16 ∷ 0 ∷ 0 ∷ 16 ∷ 16 ∷ 16 ∷ 0 ∷ 0 ∷ []
  pub last-two : asked (bench 3 true true) 0 false ≡ 0 ∷ 0 ∷ 0 ∷ 0 ∷ 18 ∷ 0 ∷ 0 ∷ 17 ∷ 17 ∷ 17 ∷ 0 ∷ 0 ∷ []
  -- a refusal before each of them
  pub host-first : number usual 8 true [] ∷ number usual 8 true (0xFE ∷ []) ∷ number (mid_erase 0 0 false false 1) 8 true program ∷ number (record_of 0 0 false true Deep) 8 true program ∷ number usual 8 true dataless ∷ number (bench 0 false false) 8 true program ∷ number (bench 3 false true) 8 true program ∷ number (bench 0 true true) 8 false settings ∷ [] ≡ 4 ∷ 4 ∷ 4 ∷ 4 ∷ 4 ∷ 4 ∷ 4 ∷ 4 ∷ []

-- computed by the checker
pub chip : Chip
unfolding host_number sound latch_at no_slots no_cycle slots_sound cycle_sound figures_of in_protected as_needed chip_number decided verdict_of row_of address_of protected_of named_sound locks_sound no_locks protected_at protected_any lock_of
chip = record {
  ready = refl;
  ready-m25p10a = refl;
  ready-m25p40 = refl;
  ready-m25p32 = refl;
  ready-m25p128 = refl;
  ready-older = refl;
  busy = refl;
  busy-last = refl;
  busy-cycles = refl;
  busy-m25p128 = refl;
  busy-older = refl;
  deep = refl;
  deep-older = refl;
  pulse = refl;
  pulses = refl;
  too_many = refl;
  reset = refl;
  protected = refl;
  protected-above = refl;
  frozen = refl;
  srwd-alone = refl;
  low_alone = refl;
  no_bytes = refl;
  one_byte = refl;
  two_bytes = refl;
  three-bytes = refl;
  four_bytes = refl;
  five-bytes = refl;
  six-bytes = refl;
  many-bytes = refl;
  most_bytes = refl;
  above = refl;
  codes-bench = refl;
  codes-m25p10a = refl;
  codes-m25p40 = refl;
  codes-m25p32 = refl;
  codes-m25p128 = refl;
  codes-older = refl;
  codes-busy = refl;
  codes-deep = refl;
  eleven-first = refl;
  fourteen-next = refl;
  twelve-next = refl;
  thirteen-next = refl;
  fifteen-next = refl;
  sixteen-next = refl;
  last-two = refl;
  host-first = refl;
}
