-- The M25PE40's answers told a second time, as tables of numbers, and computed: the seventeen instructions in every state and of every length, all 256 codes, protection by BP and by lock registers at the sectors' borders, frozen registers, and the order of the numbers. Lengths are handed over as numbers.
use Rattle.std.specs.Prelude.{◌≡◌, refl, Bool, true, false, List, [], ◌∷◌, ◌++◌, map, ℕ, ◌/◌, ◌%◌, set, replicate}
use Rattle.parts.specs.Parts.{figures_of}
use Rattle.parts.specs.Protected.{protected_of}
use Rattle.device.specs.Locks.{no_locks, lock_of, locks_sound}
use Rattle.device.specs.declared.Mode.TheVariants.{Standby, Busy, Deep}
use Rattle.device.specs.declared.Device.{Device}
use Rattle.device.specs.declared.cycle.Cycle.{Cycle}
use Rattle.device.specs.Cycles.{no_slots, no_cycle, slots_sound, cycle_sound, named_sound}
use Rattle.device.specs.Device.{sound, latch_at}
use Rattle.chip.specs.Table.{row_of, address_of}
use Rattle.chip.specs.Answers.{host_number, in_protected, as_needed, chip_number, decided, verdict_of, protected_any, protected_at}
use Rattle.chip.specs.Worked.{record_of}
use Rattle.told.specs.Cycles.{full, none, programming, erasing_sector, erasing_all, writing, replacing, erasing_page, erasing_subsector, mid_erase}
use Rattle.told.specs.Answers.{number_in, number, known}
use Rattle.told.specs.Pe.{codes, five, held, unset, sectors}

-- ---- every state and every length

-- the seventeen in the order of the page, each as it needs to be, at 000000: WREN, WRDI, RDID, RDSR, WRSR, WRLR, RDLR, READ, FAST_READ, PW, PP, PE, SSE, SE, BE, DP, RDP
abbrev pub seventeen : List (List ℕ)
seventeen =
    (0x06 ∷ [])
    ∷ (0x04 ∷ [])
    ∷ (0x9F ∷ 0 ∷ [])
    ∷ (0x05 ∷ 0 ∷ [])
    ∷ (0x01 ∷ 0 ∷ [])
    ∷ (0xE5 ∷ 0 ∷ 0 ∷ 0 ∷ 0x01 ∷ [])
    ∷ (0xE8 ∷ 0 ∷ 0 ∷ 0 ∷ 0 ∷ [])
    ∷ (0x03 ∷ 0 ∷ 0 ∷ 0 ∷ 0 ∷ [])
    ∷ (0x0B ∷ 0 ∷ 0 ∷ 0 ∷ 0 ∷ 0 ∷ [])
    ∷ (0x0A ∷ 0 ∷ 0 ∷ 0 ∷ 0x55 ∷ [])
    ∷ (0x02 ∷ 0 ∷ 0 ∷ 0 ∷ 0x55 ∷ [])
    ∷ (0xDB ∷ 0 ∷ 0 ∷ 0 ∷ [])
    ∷ (0x20 ∷ 0 ∷ 0 ∷ 0 ∷ [])
    ∷ (0xD8 ∷ 0 ∷ 0 ∷ 0 ∷ [])
    ∷ (0xC7 ∷ [])
    ∷ (0xB9 ∷ [])
    ∷ (0xAB ∷ [])
    ∷ []

-- what the seventeen get: by record, further pulses and W
abbrev pub asked : Device → ℕ → Bool → List ℕ
asked d pulses w = map (number d pulses w) seventeen

-- in standby, by BP, SRWD, latch and lock registers
abbrev pub still : ℕ → Bool → Bool → List ℕ → Device
still b s l ls = held 6 b s l Standby none ls

-- latch set, BP 0, SRWD 0, all lock registers 00
abbrev pub usual : Device
usual = still 0 false true unset

-- with one sector's lock register set to a value
abbrev pub locked_at : ℕ → ℕ → Device
locked_at s r = still 0 false true (set unset s r)

-- a program, a sector erase, a bulk erase, a settings write, a page write, a page erase, a subsector erase
abbrev pub cycles : List Cycle
cycles = programming 0x1FF (full 0xFF) ∷ erasing_sector 0x07FFFF ∷ erasing_all ∷ writing true 3 ∷ replacing 0x1FF (full 0xFF) 256 ∷ erasing_page 0x07FFFF ∷ erasing_subsector 0x07FFFF ∷ []

-- what the seventeen codes get with n bytes, address 0
abbrev pub asked_of : ℕ → List ℕ
asked_of n = map (λ (c : ℕ). number_in (decided (host_number usual 524288 n 0 n) (chip_number usual (row_of (figures_of 6) c) n 0 true 0))) codes

-- what AB gets alone, with one byte more, with four more, and with one further pulse and with seven
abbrev pub releases : Device → List ℕ
releases d = number d 0 true (0xAB ∷ []) ∷ number d 0 true (0xAB ∷ 0 ∷ []) ∷ number d 0 true (0xAB ∷ 0 ∷ 0 ∷ 0 ∷ 0 ∷ []) ∷ number d 1 true (0xAB ∷ []) ∷ number d 7 true (0xAB ∷ []) ∷ []

-- what is answered; a row of seventeen in the order of the page
pub record States : Type 0 where
  -- standby, latch set, nothing protected: all are executed
  pub ready : asked usual 0 true ≡ replicate 17 0
  -- 12: busy in a cycle of any kind, and not RDSR; on its last tick too
  pub busy : map (λ (c : Cycle). asked (held 6 0 false true (Busy 2) c unset) 0 true) cycles ≡ replicate 7 (12 ∷ 12 ∷ 12 ∷ 0 ∷ replicate 13 12)
  pub busy-last : map (λ (c : Cycle). asked (held 6 0 false false (Busy 1) c unset) 0 true) cycles ≡ replicate 7 (12 ∷ 12 ∷ 12 ∷ 0 ∷ replicate 13 12)
  -- 13: deep power-down, and not RDP
  pub deep : asked (held 6 0 false true Deep none unset) 0 true ≡ replicate 16 13 ++ (0 ∷ [])
  -- 15: one further pulse, or seven, where none is needed; with eight the host refuses
  pub pulse : asked usual 1 true ≡ 15 ∷ 15 ∷ 0 ∷ 0 ∷ 15 ∷ 15 ∷ 0 ∷ 0 ∷ 0 ∷ 15 ∷ 15 ∷ 15 ∷ 15 ∷ 15 ∷ 15 ∷ 15 ∷ 15 ∷ []
  pub pulses : asked usual 7 true ≡ 15 ∷ 15 ∷ 0 ∷ 0 ∷ 15 ∷ 15 ∷ 0 ∷ 0 ∷ 0 ∷ 15 ∷ 15 ∷ 15 ∷ 15 ∷ 15 ∷ 15 ∷ 15 ∷ 15 ∷ []
  pub too_many : asked usual 8 true ≡ replicate 17 4
  -- AB is only a release: n = 1 and no further pulses, in standby and in deep power-down
  pub release : releases usual ∷ releases (held 6 0 false true Deep none unset) ∷ [] ≡ replicate 2 (0 ∷ 15 ∷ 15 ∷ 15 ∷ 15 ∷ [])
  -- 16: latch needed and not set
  pub reset : asked (still 0 false false unset) 0 true ≡ 0 ∷ 0 ∷ 0 ∷ 0 ∷ 16 ∷ 16 ∷ 0 ∷ 0 ∷ 0 ∷ 16 ∷ 16 ∷ 16 ∷ 16 ∷ 16 ∷ 16 ∷ 0 ∷ 0 ∷ []
  -- 18: SRWD set and W low, and neither alone; WRSR only
  pub frozen : asked (still 0 true true unset) 0 false ≡ 0 ∷ 0 ∷ 0 ∷ 0 ∷ 18 ∷ replicate 12 0
  pub srwd-alone : asked (still 0 true true unset) 0 true ≡ replicate 17 0
  pub low_alone : asked usual 0 false ≡ replicate 17 0
  -- n as needed, or 15; 11 with no bytes, 3 with too many
  pub no_bytes : asked_of 0 ≡ replicate 17 11
  pub one_byte : asked_of 1 ≡ 0 ∷ 0 ∷ 0 ∷ 0 ∷ 15 ∷ 15 ∷ 15 ∷ 15 ∷ 15 ∷ 15 ∷ 15 ∷ 15 ∷ 15 ∷ 15 ∷ 0 ∷ 0 ∷ 0 ∷ []
  pub two_bytes : asked_of 2 ≡ 15 ∷ 15 ∷ 0 ∷ 0 ∷ 0 ∷ 15 ∷ 15 ∷ 15 ∷ 15 ∷ 15 ∷ 15 ∷ 15 ∷ 15 ∷ 15 ∷ 15 ∷ 15 ∷ 15 ∷ []
  pub three-bytes : asked_of 3 ≡ 15 ∷ 15 ∷ 0 ∷ 0 ∷ 15 ∷ 15 ∷ 15 ∷ 15 ∷ 15 ∷ 15 ∷ 15 ∷ 15 ∷ 15 ∷ 15 ∷ 15 ∷ 15 ∷ 15 ∷ []
  pub four_bytes : asked_of 4 ≡ 15 ∷ 15 ∷ 0 ∷ 0 ∷ 15 ∷ 15 ∷ 0 ∷ 0 ∷ 15 ∷ 15 ∷ 15 ∷ 0 ∷ 0 ∷ 0 ∷ 15 ∷ 15 ∷ 15 ∷ []
  pub five-bytes : asked_of 5 ≡ 15 ∷ 15 ∷ 0 ∷ 0 ∷ 15 ∷ 0 ∷ 0 ∷ 0 ∷ 0 ∷ 0 ∷ 0 ∷ 15 ∷ 15 ∷ 15 ∷ 15 ∷ 15 ∷ 15 ∷ []
  pub more_bytes : map asked_of (6 ∷ 261 ∷ 65536 ∷ []) ≡ replicate 3 (15 ∷ 15 ∷ 0 ∷ 0 ∷ 15 ∷ 15 ∷ 0 ∷ 0 ∷ 0 ∷ 0 ∷ 0 ∷ 15 ∷ 15 ∷ 15 ∷ 15 ∷ 15 ∷ 15 ∷ [])
  pub above : asked_of 65537 ≡ replicate 17 3
  -- 14: of all 256 codes these alone are instructions, busy and in deep power-down too
  pub all_codes : known usual ∷ known (held 6 0 false false (Busy 1) (erasing_page 0) unset) ∷ known (held 6 0 false true Deep none unset) ∷ [] ≡ replicate 3 (0x01 ∷ 0x02 ∷ 0x03 ∷ 0x04 ∷ 0x05 ∷ 0x06 ∷ 0x0A ∷ 0x0B ∷ 0x20 ∷ 0x9F ∷ 0xAB ∷ 0xB9 ∷ 0xC7 ∷ 0xD8 ∷ 0xDB ∷ 0xE5 ∷ 0xE8 ∷ [])
  -- the five on the parts 0 to 5: in standby, busy, and in deep power-down where there is one
  pub elsewhere : map (λ (p : ℕ). map (λ (c : ℕ). number (record_of p 0 false true Standby) 0 true (c ∷ 0 ∷ 0 ∷ 0 ∷ 0 ∷ [])) five) (0 ∷ 1 ∷ 2 ∷ 3 ∷ 4 ∷ 5 ∷ []) ≡ replicate 6 (replicate 5 14)
  pub elsewhere-busy : map (λ (p : ℕ). map (λ (c : ℕ). number (mid_erase p 0 false true 2) 0 true (c ∷ 0 ∷ 0 ∷ 0 ∷ [])) five) (0 ∷ 1 ∷ 2 ∷ 3 ∷ 4 ∷ 5 ∷ []) ≡ replicate 6 (replicate 5 14)
  pub elsewhere-deep : map (λ (p : ℕ). map (λ (c : ℕ). number (record_of p 0 false true Deep) 0 true (c ∷ 0 ∷ 0 ∷ 0 ∷ [])) five) (0 ∷ 1 ∷ 2 ∷ 3 ∷ 5 ∷ []) ≡ replicate 5 (replicate 5 14)

-- computed by the checker
pub states : States
unfolding host_number sound latch_at no_slots no_cycle slots_sound cycle_sound figures_of in_protected as_needed chip_number decided verdict_of row_of address_of protected_of named_sound locks_sound no_locks protected_at protected_any lock_of
states = record {
  ready = refl;
  busy = refl;
  busy-last = refl;
  deep = refl;
  pulse = refl;
  pulses = refl;
  too_many = refl;
  release = refl;
  reset = refl;
  frozen = refl;
  srwd-alone = refl;
  low_alone = refl;
  no_bytes = refl;
  one_byte = refl;
  two_bytes = refl;
  three-bytes = refl;
  four_bytes = refl;
  five-bytes = refl;
  more_bytes = refl;
  above = refl;
  all_codes = refl;
  elsewhere = refl;
  elsewhere-busy = refl;
  elsewhere-deep = refl;
}

-- ---- protected and frozen

-- PW, PP, PE, SSE and SE at an address
abbrev pub five_at : ℕ → List (List ℕ)
five_at a =
    (0x0A ∷ a / 65536 ∷ a / 256 % 256 ∷ a % 256 ∷ 0x55 ∷ [])
    ∷ (0x02 ∷ a / 65536 ∷ a / 256 % 256 ∷ a % 256 ∷ 0x55 ∷ [])
    ∷ (0xDB ∷ a / 65536 ∷ a / 256 % 256 ∷ a % 256 ∷ [])
    ∷ (0x20 ∷ a / 65536 ∷ a / 256 % 256 ∷ a % 256 ∷ [])
    ∷ (0xD8 ∷ a / 65536 ∷ a / 256 % 256 ∷ a % 256 ∷ [])
    ∷ []

-- what these get at each of some addresses
abbrev pub at : Device → List ℕ → List (List ℕ)
at d places = map (λ (a : ℕ). map (number d 0 true) (five_at a)) places

-- what a bulk erase gets with one value in each register in turn
abbrev pub bulk_with : ℕ → List ℕ
bulk_with r = map (λ (s : ℕ). number (locked_at s r) 0 true (0xC7 ∷ [])) sectors

-- what a write of a lock register gets: by record, address and byte 4
abbrev pub relock : Device → ℕ → ℕ → ℕ
relock d a b = number d 0 true (0xE5 ∷ a / 65536 ∷ a / 256 % 256 ∷ a % 256 ∷ b ∷ [])

-- all that can come after: latch reset, BP 7, SRWD 1, every lock register 3
abbrev pub worst : Device
worst = still 7 true false (replicate 8 3)

-- what is answered then
pub record Guards : Type 0 where
  -- 17 by BP: all sectors with BP 4 to 7; with BP 1 to 3 not sector 0, but any stops a bulk erase; with BP 0 nothing
  pub by-bp : map (λ (b : ℕ). asked (still b false true unset) 0 true) (4 ∷ 5 ∷ 6 ∷ 7 ∷ []) ≡ replicate 4 (replicate 9 0 ++ (17 ∷ 17 ∷ 17 ∷ 17 ∷ 17 ∷ 17 ∷ 0 ∷ 0 ∷ []))
  pub by-low-bp : map (λ (b : ℕ). asked (still b false true unset) 0 true) (1 ∷ 2 ∷ 3 ∷ []) ≡ replicate 3 (replicate 14 0 ++ (17 ∷ 0 ∷ 0 ∷ []))
  pub bp-edges : at (still 1 false true unset) (0x06FFFF ∷ 0x070000 ∷ 0x07FFFF ∷ []) ∷ at (still 2 false true unset) (0x05FFFF ∷ 0x060000 ∷ 0x07FFFF ∷ []) ∷ at (still 3 false true unset) (0x03FFFF ∷ 0x040000 ∷ 0x07FFFF ∷ []) ∷ [] ≡ replicate 3 (replicate 5 0 ∷ replicate 5 17 ∷ replicate 5 17 ∷ [])
  -- 17 by a write lock, alone and with lock-down: PW, PP, PE, SSE, SE and BE; lock-down alone stops WRLR only
  pub by-lock : asked (locked_at 0 1) 0 true ≡ replicate 9 0 ++ (17 ∷ 17 ∷ 17 ∷ 17 ∷ 17 ∷ 17 ∷ 0 ∷ 0 ∷ [])
  pub by_both : asked (locked_at 0 3) 0 true ≡ 0 ∷ 0 ∷ 0 ∷ 0 ∷ 0 ∷ 19 ∷ 0 ∷ 0 ∷ 0 ∷ 17 ∷ 17 ∷ 17 ∷ 17 ∷ 17 ∷ 17 ∷ 0 ∷ 0 ∷ []
  pub by_down : asked (locked_at 0 2) 0 true ≡ 0 ∷ 0 ∷ 0 ∷ 0 ∷ 0 ∷ 19 ∷ replicate 11 0
  -- a write lock elsewhere stops the bulk erase alone
  pub by-other : map (λ (s : ℕ). asked (locked_at s 1) 0 true) (1 ∷ 7 ∷ []) ≡ replicate 2 (replicate 14 0 ++ (17 ∷ 0 ∷ 0 ∷ []))
  -- its sector's borders: sector 3, also by an address beyond the part; sectors 0 and 7
  pub lock-edges : at (locked_at 3 1) (0x02FFFF ∷ 0x030000 ∷ 0x03FFFF ∷ 0x040000 ∷ 0xFB0000 ∷ 0xFC0000 ∷ []) ≡ replicate 5 0 ∷ replicate 5 17 ∷ replicate 5 17 ∷ replicate 5 0 ∷ replicate 5 17 ∷ replicate 5 0 ∷ []
  pub first-last : at (locked_at 0 3) (0x000000 ∷ 0x00FFFF ∷ 0x010000 ∷ []) ∷ at (locked_at 7 3) (0x07FFFF ∷ 0x070000 ∷ 0x06FFFF ∷ []) ∷ [] ≡ replicate 2 (replicate 5 17 ∷ replicate 5 17 ∷ replicate 5 0 ∷ [])
  pub down-edges : at (locked_at 3 2) (0x02FFFF ∷ 0x030000 ∷ 0x03FFFF ∷ 0x040000 ∷ []) ≡ replicate 4 (replicate 5 0)
  -- BP and a write lock together: sectors 7 by BP, 3 by its lock
  pub combined : at (still 1 false true (set unset 3 1)) (0x030000 ∷ 0x040000 ∷ 0x070000 ∷ []) ≡ replicate 5 17 ∷ replicate 5 0 ∷ replicate 5 17 ∷ []
  -- a bulk erase: any write lock, and no lock-down alone, of one sector or of all
  pub bulk : bulk_with 0 ∷ bulk_with 1 ∷ bulk_with 2 ∷ bulk_with 3 ∷ [] ≡ replicate 8 0 ∷ replicate 8 17 ∷ replicate 8 0 ∷ replicate 8 17 ∷ []
  pub bulk-all : map (λ (r : ℕ). number (still 0 false true (replicate 8 r)) 0 true (0xC7 ∷ [])) (0 ∷ 1 ∷ 2 ∷ 3 ∷ []) ≡ 0 ∷ 17 ∷ 0 ∷ 17 ∷ []
  -- lock registers do not stop WRSR; 18 does
  pub settings : number (still 7 true true (replicate 8 3)) 0 true (0x01 ∷ 0 ∷ []) ∷ number (still 7 true true (replicate 8 3)) 0 false (0x01 ∷ 0 ∷ []) ∷ [] ≡ 0 ∷ 18 ∷ []
  -- 19: a frozen register, whatever is sent, the same value too; BP, the write lock, SRWD and W do not stop the write
  pub frozen : map (λ (r : ℕ). map (relock (locked_at 3 r) 0x030000) (0x00 ∷ 0x01 ∷ 0x02 ∷ 0x03 ∷ 0xFF ∷ [])) (0 ∷ 1 ∷ 2 ∷ 3 ∷ []) ≡ replicate 5 0 ∷ replicate 5 0 ∷ replicate 5 19 ∷ replicate 5 19 ∷ []
  pub frozen-edges : map (λ (a : ℕ). relock (locked_at 3 2) a 1) (0x02FFFF ∷ 0x030000 ∷ 0x03FFFF ∷ 0x040000 ∷ 0xFB1234 ∷ []) ≡ 0 ∷ 19 ∷ 19 ∷ 0 ∷ 19 ∷ []
  pub not_stopped : number (still 7 true true (replicate 8 1)) 0 false (0xE5 ∷ 0x03 ∷ 0 ∷ 0 ∷ 0x00 ∷ []) ≡ 0
  -- the numbers in order, each with all that can come after it: 11 in standby, busy and deep
  pub eleven : number worst 7 false [] ∷ number (held 6 7 true false (Busy 1) erasing_all (replicate 8 3)) 7 false [] ∷ number (held 6 7 true false Deep none (replicate 8 3)) 7 false [] ∷ [] ≡ 11 ∷ 11 ∷ 11 ∷ []
  -- 14
  pub fourteen : number worst 7 false (0x9E ∷ 0 ∷ []) ∷ number (held 6 7 true false (Busy 1) erasing_all (replicate 8 3)) 7 false (0x90 ∷ []) ∷ number (held 6 7 true false Deep none (replicate 8 3)) 7 false (0x9E ∷ []) ∷ [] ≡ 14 ∷ 14 ∷ 14 ∷ []
  -- 12 and 13, with further pulses and with a code alone
  pub twelve : map (λ (c : ℕ). number (held 6 7 true false (Busy 1) erasing_all (replicate 8 3)) 7 false (c ∷ [])) five ≡ replicate 5 12
  pub thirteen : map (λ (c : ℕ). number (held 6 7 true false Deep none (replicate 8 3)) 7 false (c ∷ [])) five ≡ replicate 5 13
  -- 15: a byte less, a byte more, a further pulse; PW, PE, SSE and WRLR
  pub fifteen : map (number worst 0 false) ((0x0A ∷ 0 ∷ 0 ∷ 0 ∷ []) ∷ (0xDB ∷ 0 ∷ 0 ∷ []) ∷ (0xDB ∷ 0 ∷ 0 ∷ 0 ∷ 0 ∷ []) ∷ (0x20 ∷ 0 ∷ 0 ∷ []) ∷ (0x20 ∷ 0 ∷ 0 ∷ 0 ∷ 0 ∷ []) ∷ (0xE5 ∷ 0 ∷ 0 ∷ 0 ∷ []) ∷ (0xE5 ∷ 0 ∷ 0 ∷ 0 ∷ 1 ∷ 0 ∷ []) ∷ (0xE8 ∷ 0 ∷ 0 ∷ []) ∷ []) ≡ replicate 8 15
  pub fifteen-pulse : map (number worst 1 false) ((0x0A ∷ 0 ∷ 0 ∷ 0 ∷ 1 ∷ []) ∷ (0xDB ∷ 0 ∷ 0 ∷ 0 ∷ []) ∷ (0x20 ∷ 0 ∷ 0 ∷ 0 ∷ []) ∷ (0xE5 ∷ 0 ∷ 0 ∷ 0 ∷ 1 ∷ []) ∷ []) ≡ replicate 4 15
  -- 16 before 17, 18 and 19; then these three
  pub sixteen : asked worst 0 false ≡ 0 ∷ 0 ∷ 0 ∷ 0 ∷ 16 ∷ 16 ∷ 0 ∷ 0 ∷ 0 ∷ 16 ∷ 16 ∷ 16 ∷ 16 ∷ 16 ∷ 16 ∷ 0 ∷ 0 ∷ []
  pub last-three : asked (still 7 true true (replicate 8 3)) 0 false ≡ 0 ∷ 0 ∷ 0 ∷ 0 ∷ 18 ∷ 19 ∷ 0 ∷ 0 ∷ 0 ∷ 17 ∷ 17 ∷ 17 ∷ 17 ∷ 17 ∷ 17 ∷ 0 ∷ 0 ∷ []
  -- a refusal before each of them: 8 further pulses, and before that a record that is not sound
  pub host-first : asked worst 8 false ∷ asked (still 7 true false (replicate 8 4)) 8 false ∷ [] ≡ replicate 17 4 ∷ replicate 17 6 ∷ []

-- computed by the checker
pub guards : Guards
unfolding host_number sound latch_at no_slots no_cycle slots_sound cycle_sound figures_of in_protected as_needed chip_number decided verdict_of row_of address_of protected_of named_sound locks_sound protected_at protected_any lock_of
guards = record {
  by-bp = refl;
  by-low-bp = refl;
  bp-edges = refl;
  by-lock = refl;
  by_both = refl;
  by_down = refl;
  by-other = refl;
  lock-edges = refl;
  first-last = refl;
  down-edges = refl;
  combined = refl;
  bulk = refl;
  bulk-all = refl;
  settings = refl;
  frozen = refl;
  frozen-edges = refl;
  not_stopped = refl;
  eleven = refl;
  fourteen = refl;
  twelve = refl;
  thirteen = refl;
  fifteen = refl;
  fifteen-pulse = refl;
  sixteen = refl;
  last-three = refl;
  host-first = refl;
}
