-- Addresses, sectors and pages of each part told a second time, and computed: where protection begins, what a cycle is started with, and which bytes it changes once it is completed. Lengths are handed over as numbers.
use Rattle.std.specs.Prelude.{◌≡◌, refl, true, false, List, [], ◌∷◌, ◌++◌, map, ℕ, suc, ◌-◌, ◌/◌, ◌%◌, replicate}
use Rattle.slices.specs.Changed.{map_at, window, sum_at}
use Rattle.memory.specs.Memory as memory-is
use Rattle.parts.specs.Parts.{figures_of}
use Rattle.parts.specs.Protected.{protected_of}
use Rattle.device.specs.Locks.{lock_of, locks_sound, no_locks}
use Rattle.device.specs.declared.Device.{Device}
use Rattle.device.specs.declared.cycle.Kind.TheVariants.{Idle, Page, Sector, All, Settings}
use Rattle.device.specs.Cycles.{no_slots, no_cycle, page_cycle, erase_cycle, all_cycle, settings_cycle, slots_sound, cycle_sound, touched, named_sound}
use Rattle.device.specs.Device.{sound, moded, latched, remembering, running, started, latch_at}
use Rattle.chip.specs.Table.{row_of, address_of, row_in}
use Rattle.chip.specs.Answers.{host_number, in_protected, as_needed, chip_number, decided, verdict_of, protected_any, protected_at}
use Rattle.chip.specs.Change.{cycle_of, changed, bp_in, turned}
use Rattle.chip.specs.Outcome.{outcome_of}
use Rattle.told.specs.Cycles.{cycle, full, row}
use Rattle.told.specs.Answers.{number}
use Rattle.told.specs.Lines.{part, sends}
use Rattle.told.specs.Effects.{after}

-- a sector erase at an address
abbrev pub erase : ℕ → List ℕ
erase a = 0xD8 ∷ a / 65536 ∷ a / 256 % 256 ∷ a % 256 ∷ []

-- a program at an address: 5A, then F0
abbrev pub program : ℕ → List ℕ
program a = 0x02 ∷ a / 65536 ∷ a / 256 % 256 ∷ a % 256 ∷ 0x5A ∷ 0xF0 ∷ []

-- what an erase and a program get on the byte below an address, then on the address
abbrev pub edge : Device → ℕ → List ℕ
edge d a = number d 0 true (erase (a - 1)) ∷ number d 0 true (program (a - 1)) ∷ number d 0 true (erase a) ∷ number d 0 true (program a) ∷ []

-- so for BP b and up, each with its own address
abbrev pub edges : ℕ → ℕ → List ℕ → List (List ℕ)
edges p b [] = []
edges p b (a ∷ rest) = edge (part p b) a ∷ edges p (suc b) rest

-- what an instruction gets for BP 0 to 7, as far as the part has it
abbrev pub each : ℕ → List ℕ → List ℕ → List ℕ
each p bps sent = map (λ (b : ℕ). number (part p b) 0 true sent) bps

-- what bytes 3C at these places become once the cycle of an executed instruction is completed: by the instruction, and by the cycle that the record remembers
abbrev pub become : ℕ → List ℕ → List ℕ → List (List ℕ)
become p sent places =
    map (λ (i : ℕ). changed (row_in (part p 0) sent).turn (figures_of p) (address_of (figures_of p) sent) sent i 0x3C) places
    ∷ map (λ (i : ℕ). touched (figures_of p) (after (part p 0) sent).cycle i 0x3C) places
    ∷ []

-- both say so
abbrev pub twice : List ℕ → List (List ℕ)
twice bytes = bytes ∷ bytes ∷ []

-- BP 0 to 3
abbrev pub four : List ℕ
four = 0 ∷ 1 ∷ 2 ∷ 3 ∷ []

-- BP 0 to 7
abbrev pub eight : List ℕ
eight = 0 ∷ 1 ∷ 2 ∷ 3 ∷ 4 ∷ 5 ∷ 6 ∷ 7 ∷ []

-- which addresses are protected, and which bytes change
pub record Places : Type 0 where
  -- where protection begins for BP 1 and up, until all is protected: executed below, 17 from there on
  pub edges-bench : edges 0 1 (0x000C00 ∷ 0x000800 ∷ []) ≡ replicate 2 (0 ∷ 0 ∷ 17 ∷ 17 ∷ [])
  pub edges-m25p10a : edges 1 1 (0x018000 ∷ 0x010000 ∷ []) ≡ replicate 2 (0 ∷ 0 ∷ 17 ∷ 17 ∷ [])
  pub edges-m25p40 : edges 2 1 (0x070000 ∷ 0x060000 ∷ 0x040000 ∷ []) ≡ replicate 3 (0 ∷ 0 ∷ 17 ∷ 17 ∷ [])
  pub edges-m25p32 : edges 3 1 (0x3F0000 ∷ 0x3E0000 ∷ 0x3C0000 ∷ 0x380000 ∷ 0x300000 ∷ 0x200000 ∷ []) ≡ replicate 6 (0 ∷ 0 ∷ 17 ∷ 17 ∷ [])
  pub edges-m25p128 : edges 4 1 (0xFC0000 ∷ 0xF80000 ∷ 0xF00000 ∷ 0xE00000 ∷ 0xC00000 ∷ 0x800000 ∷ []) ≡ replicate 6 (0 ∷ 0 ∷ 17 ∷ 17 ∷ [])
  pub edges-older : edges 5 1 (0x018000 ∷ 0x010000 ∷ []) ≡ replicate 2 (0 ∷ 0 ∷ 17 ∷ 17 ∷ [])
  pub edges-m25pe40 : edges 6 1 (0x070000 ∷ 0x060000 ∷ 0x040000 ∷ []) ≡ replicate 3 (0 ∷ 0 ∷ 17 ∷ 17 ∷ [])
  -- the first byte for each BP, and the last
  pub first-bench : each 0 four (erase 0) ≡ 0 ∷ 0 ∷ 0 ∷ 17 ∷ []
  pub first-m25p10a : each 1 four (erase 0) ≡ 0 ∷ 0 ∷ 0 ∷ 17 ∷ []
  pub first-m25p40 : each 2 eight (erase 0) ≡ 0 ∷ 0 ∷ 0 ∷ 0 ∷ 17 ∷ 17 ∷ 17 ∷ 17 ∷ []
  pub first-m25p32 : each 3 eight (erase 0) ≡ 0 ∷ 0 ∷ 0 ∷ 0 ∷ 0 ∷ 0 ∷ 0 ∷ 17 ∷ []
  pub first-m25p128 : each 4 eight (erase 0) ≡ 0 ∷ 0 ∷ 0 ∷ 0 ∷ 0 ∷ 0 ∷ 0 ∷ 17 ∷ []
  pub first-older : each 5 four (erase 0) ≡ 0 ∷ 0 ∷ 0 ∷ 17 ∷ []
  pub first-m25pe40 : each 6 eight (erase 0) ≡ 0 ∷ 0 ∷ 0 ∷ 0 ∷ 17 ∷ 17 ∷ 17 ∷ 17 ∷ []
  pub last-bench : each 0 four (erase 0x000FFF) ≡ 0 ∷ 17 ∷ 17 ∷ 17 ∷ []
  pub last-m25p10a : each 1 four (erase 0x01FFFF) ≡ 0 ∷ 17 ∷ 17 ∷ 17 ∷ []
  pub last-m25p40 : each 2 eight (erase 0x07FFFF) ≡ 0 ∷ 17 ∷ 17 ∷ 17 ∷ 17 ∷ 17 ∷ 17 ∷ 17 ∷ []
  pub last-m25p32 : each 3 eight (erase 0x3FFFFF) ≡ 0 ∷ 17 ∷ 17 ∷ 17 ∷ 17 ∷ 17 ∷ 17 ∷ 17 ∷ []
  pub last-m25p128 : each 4 eight (erase 0xFFFFFF) ≡ 0 ∷ 17 ∷ 17 ∷ 17 ∷ 17 ∷ 17 ∷ 17 ∷ 17 ∷ []
  pub last-older : each 5 four (erase 0x01FFFF) ≡ 0 ∷ 17 ∷ 17 ∷ 17 ∷ []
  pub last-m25pe40 : each 6 eight (erase 0x07FFFF) ≡ 0 ∷ 17 ∷ 17 ∷ 17 ∷ 17 ∷ 17 ∷ 17 ∷ 17 ∷ []
  -- a bulk erase for each BP
  pub bulk-bench : each 0 four (0xC7 ∷ []) ≡ 0 ∷ 17 ∷ 17 ∷ 17 ∷ []
  pub bulk-m25p128 : each 4 eight (0xC7 ∷ []) ≡ 0 ∷ 17 ∷ 17 ∷ 17 ∷ 17 ∷ 17 ∷ 17 ∷ 17 ∷ []
  pub bulk-m25pe40 : each 6 eight (0xC7 ∷ []) ≡ 0 ∷ 17 ∷ 17 ∷ 17 ∷ 17 ∷ 17 ∷ 17 ∷ 17 ∷ []
  -- high byte first, modulo the part's size, and so is where protection begins
  pub address : map (λ (p : ℕ). address_of (figures_of p) (0x03 ∷ 0xFD ∷ 0xEC ∷ 0xBA ∷ [])) (0 ∷ 1 ∷ 2 ∷ 3 ∷ 4 ∷ 5 ∷ 6 ∷ []) ≡ 0x000CBA ∷ 0x01ECBA ∷ 0x05ECBA ∷ 0x3DECBA ∷ 0xFDECBA ∷ 0x01ECBA ∷ 0x05ECBA ∷ []
  pub beyond : edge (part 0 1) 0xFFFC00 ∷ edge (part 1 1) 0xFF8000 ∷ edge (part 2 1) 0xFF0000 ∷ edge (part 3 1) 0xFF0000 ∷ edge (part 4 1) 0xFC0000 ∷ edge (part 5 1) 0xFF8000 ∷ edge (part 6 1) 0xFF0000 ∷ [] ≡ replicate 7 (0 ∷ 0 ∷ 17 ∷ 17 ∷ [])
  -- address bytes that were not sent count as 00
  pub address-short : map (address_of (figures_of 4)) ([] ∷ (0x03 ∷ []) ∷ (0x03 ∷ 0xFD ∷ []) ∷ (0x03 ∷ 0xFD ∷ 0xEC ∷ []) ∷ []) ≡ 0 ∷ 0 ∷ 0xFD0000 ∷ 0xFDEC00 ∷ []
  -- SE: the second sector becomes FF, by its last byte's address; the bytes on either side stay
  pub sector-bench : become 0 (erase 0x0007FF) (0x0003FF ∷ 0x000400 ∷ 0x0007FF ∷ 0x000800 ∷ []) ≡ twice (0x3C ∷ 0xFF ∷ 0xFF ∷ 0x3C ∷ [])
  pub sector-m25p10a : become 1 (erase 0x00FFFF) (0x007FFF ∷ 0x008000 ∷ 0x00FFFF ∷ 0x010000 ∷ []) ≡ twice (0x3C ∷ 0xFF ∷ 0xFF ∷ 0x3C ∷ [])
  pub sector-m25p40 : become 2 (erase 0x01FFFF) (0x00FFFF ∷ 0x010000 ∷ 0x01FFFF ∷ 0x020000 ∷ []) ≡ twice (0x3C ∷ 0xFF ∷ 0xFF ∷ 0x3C ∷ [])
  pub sector-m25p32 : become 3 (erase 0x01FFFF) (0x00FFFF ∷ 0x010000 ∷ 0x01FFFF ∷ 0x020000 ∷ []) ≡ twice (0x3C ∷ 0xFF ∷ 0xFF ∷ 0x3C ∷ [])
  pub sector-m25p128 : become 4 (erase 0x07FFFF) (0x03FFFF ∷ 0x040000 ∷ 0x07FFFF ∷ 0x080000 ∷ []) ≡ twice (0x3C ∷ 0xFF ∷ 0xFF ∷ 0x3C ∷ [])
  pub sector-older : become 5 (erase 0x00FFFF) (0x007FFF ∷ 0x008000 ∷ 0x00FFFF ∷ 0x010000 ∷ []) ≡ twice (0x3C ∷ 0xFF ∷ 0xFF ∷ 0x3C ∷ [])
  pub sector-m25pe40 : become 6 (erase 0x01FFFF) (0x00FFFF ∷ 0x010000 ∷ 0x01FFFF ∷ 0x020000 ∷ []) ≡ twice (0x3C ∷ 0xFF ∷ 0xFF ∷ 0x3C ∷ [])
  -- PP: 5A at the page's last byte, F0 at its first, anded; the bytes between and those on either side stay
  pub page-bench : become 0 (program 0x0001FF) (0x0000FF ∷ 0x000100 ∷ 0x000101 ∷ 0x0001FF ∷ 0x000200 ∷ []) ≡ twice (0x3C ∷ 0x30 ∷ 0x3C ∷ 0x18 ∷ 0x3C ∷ [])
  pub page-m25p128 : become 4 (program 0xFFFFFF) (0xFFFEFF ∷ 0xFFFF00 ∷ 0xFFFF01 ∷ 0xFFFFFF ∷ 0x000000 ∷ []) ≡ twice (0x3C ∷ 0x30 ∷ 0x3C ∷ 0x18 ∷ 0x3C ∷ [])
  -- BE: every byte
  pub bulk : become 3 (0xC7 ∷ []) (0x000000 ∷ 0x3FFFFF ∷ []) ≡ twice (0xFF ∷ 0xFF ∷ [])
  -- what a cycle is started with, by kind: the address of a program and of a sector erase, a program's slots, all FF at first, a later byte in place of an earlier one, and the settings of byte 1, cut to the part's bits
  pub cycle-page : cycle_of Page (figures_of 0) 0x1FF (program 0x0001FF) ≡ cycle Page 0x1FF (row 0xF0 0xFF 0xFF 0x5A) 0 false
  pub cycle-later : cycle_of Page (figures_of 0) 0x1FF (program 0x0001FF ++ (replicate 254 0x77 ++ (0x33 ∷ 0x44 ∷ []))) ≡ cycle Page 0x1FF (row 0x44 0x77 0x77 0x33) 0 false
  pub cycle-sector : cycle_of Sector (figures_of 0) 0x1FF (erase 0x0001FF) ≡ cycle Sector 0x1FF (full 0) 0 false
  pub cycle-all : cycle_of All (figures_of 0) 0x1FF (0xC7 ∷ []) ≡ cycle All 0 (full 0) 0 false
  pub cycle-settings : map (λ (p : ℕ). cycle_of Settings (figures_of p) 0x1FF (0x01 ∷ 0x95 ∷ [])) (0 ∷ 1 ∷ 2 ∷ 3 ∷ 4 ∷ 5 ∷ 6 ∷ []) ≡ map (λ (b : ℕ). cycle Settings 0 (full 0) b true) (1 ∷ 1 ∷ 5 ∷ 5 ∷ 5 ∷ 1 ∷ 5 ∷ [])
  pub cycle-reset : map (λ (p : ℕ). cycle_of Settings (figures_of p) 0x1FF (0x01 ∷ 0x7B ∷ [])) (0 ∷ 1 ∷ 2 ∷ 3 ∷ 4 ∷ 5 ∷ 6 ∷ []) ≡ map (λ (b : ℕ). cycle Settings 0 (full 0) b false) (2 ∷ 2 ∷ 6 ∷ 6 ∷ 6 ∷ 2 ∷ 6 ∷ [])
  pub cycle-idle : cycle_of Idle (figures_of 0) 0x1FF (program 0x0001FF) ≡ cycle Idle 0 (full 0) 0 false
  -- the other nine change no byte
  pub others : map (λ (code : ℕ). become 3 (sends code) (2 ∷ [])) (0x06 ∷ 0x04 ∷ 0x9F ∷ 0x05 ∷ 0x01 ∷ 0x03 ∷ 0x0B ∷ 0xB9 ∷ 0xAB ∷ []) ≡ replicate 9 (twice (0x3C ∷ []))

-- computed by the checker
pub places : Places
unfolding map_at window sum_at memory-is.blank memory-is.filled memory-is.programmed memory-is.erased figures_of protected_of sound latch_at row_of address_of host_number in_protected as_needed chip_number decided verdict_of no_slots no_cycle page_cycle erase_cycle all_cycle settings_cycle slots_sound cycle_sound cycle_of touched changed bp_in moded latched remembering running started turned outcome_of named_sound locks_sound no_locks protected_at protected_any lock_of
places = record {
  edges-bench = refl;
  edges-m25p10a = refl;
  edges-m25p40 = refl;
  edges-m25p32 = refl;
  edges-m25p128 = refl;
  edges-older = refl;
  edges-m25pe40 = refl;
  first-bench = refl;
  first-m25p10a = refl;
  first-m25p40 = refl;
  first-m25p32 = refl;
  first-m25p128 = refl;
  first-older = refl;
  first-m25pe40 = refl;
  last-bench = refl;
  last-m25p10a = refl;
  last-m25p40 = refl;
  last-m25p32 = refl;
  last-m25p128 = refl;
  last-older = refl;
  last-m25pe40 = refl;
  bulk-bench = refl;
  bulk-m25p128 = refl;
  bulk-m25pe40 = refl;
  address = refl;
  beyond = refl;
  address-short = refl;
  sector-bench = refl;
  sector-m25p10a = refl;
  sector-m25p40 = refl;
  sector-m25p32 = refl;
  sector-m25p128 = refl;
  sector-older = refl;
  sector-m25pe40 = refl;
  page-bench = refl;
  page-m25p128 = refl;
  bulk = refl;
  cycle-page = refl;
  cycle-later = refl;
  cycle-sector = refl;
  cycle-all = refl;
  cycle-settings = refl;
  cycle-reset = refl;
  cycle-idle = refl;
  others = refl;
}
