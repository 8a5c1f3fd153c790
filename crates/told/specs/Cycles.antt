-- The cycle that a record remembers told a second time, and computed: what each kind uses, what is remembered of it, how long it takes, and what it does to a byte, completed or cut by a power loss.
use Rattle.std.specs.Prelude.{◌≡◌, refl, Bool, true, false, List, [], ◌∷◌, ◌++◌, map, ℕ, replicate}
use Rattle.memory.specs.Memory as memory-is
use Rattle.parts.specs.Parts.{figures_of}
use Rattle.device.specs.Locks.{no_locks}
use Rattle.device.specs.declared.Mode.TheVariants.{Busy}
use Rattle.device.specs.declared.Device.{Device}
use Rattle.device.specs.declared.cycle.Kind.{Kind}
use Rattle.device.specs.declared.cycle.Kind.TheVariants.{Idle, Page, Sector, All, Settings, PageWrite, PageErase, Subsector}
use Rattle.device.specs.declared.cycle.Cycle.{Cycle}
use Rattle.device.specs.Device.{delivered}
use Rattle.device.specs.Cycles.{uses_of, no_slots, no_cycle, page_cycle, write_cycle, erase_cycle, all_cycle, settings_cycle, touched, cut, duration_of}

-- ---- short forms, written out

-- a cycle by kind, address, slots, new BP and new SRWD, with no bytes named
abbrev pub cycle : Kind → ℕ → List ℕ → ℕ → Bool → Cycle
cycle k a s b w = record { kind = k; address = a; slots = s; bp = b; srwd = w; named = 0 }

-- 256 times the same byte
abbrev pub full : ℕ → List ℕ
full x = replicate 256 x

-- 256 bytes: the first two, 253 times the same one, and the last
abbrev pub row : ℕ → ℕ → ℕ → ℕ → List ℕ
row a b m z = a ∷ b ∷ (replicate 253 m ++ (z ∷ []))

-- no cycle
abbrev pub none : Cycle
none = cycle Idle 0 (full 0) 0 false

-- the cycle of a program, by address and slots
abbrev pub programming : ℕ → List ℕ → Cycle
programming at slots = cycle Page at slots 0 false

-- of a sector erase, by address
abbrev pub erasing_sector : ℕ → Cycle
erasing_sector at = cycle Sector at (full 0) 0 false

-- of a bulk erase
abbrev pub erasing_all : Cycle
erasing_all = cycle All 0 (full 0) 0 false

-- of a settings write, by the new SRWD and the new BP
abbrev pub writing : Bool → ℕ → Cycle
writing w b = cycle Settings 0 (full 0) b w

-- of a page write, by address, slots and how many bytes were named
abbrev pub replacing : ℕ → List ℕ → ℕ → Cycle
replacing at slots n = record { kind = PageWrite; address = at; slots = slots; bp = 0; srwd = false; named = n }

-- of a page erase, by address
abbrev pub erasing_page : ℕ → Cycle
erasing_page at = cycle PageErase at (full 0) 0 false

-- of a subsector erase, by address
abbrev pub erasing_subsector : ℕ → Cycle
erasing_subsector at = cycle Subsector at (full 0) 0 false

-- a record in a cycle, by part, BP, SRWD, latch, ticks left and cycle; durations 3, 5, 9, 2
abbrev pub busy_of : ℕ → ℕ → Bool → Bool → ℕ → Cycle → Device
busy_of p b s l t c = record { part = p; bp = b; srwd = s; latch = l; mode = Busy t; program = 3; sector_erase = 5; bulk_erase = 9; write_status = 2; cycle = c; locks = no_locks }

-- the same in a bulk erase
abbrev pub mid_erase : ℕ → ℕ → Bool → Bool → ℕ → Device
mid_erase p b s l t = busy_of p b s l t erasing_all

-- ---- the kinds

-- none, a program, a sector erase, a bulk erase, a settings write; a page write, a page erase, a subsector erase
abbrev pub kinds : List Kind
kinds = Idle ∷ Page ∷ Sector ∷ All ∷ Settings ∷ PageWrite ∷ PageErase ∷ Subsector ∷ []

-- what a kind uses, what is remembered of it, and its ticks
pub record Kinds : Type 0 where
  -- which are a cycle; all but a bulk erase and a settings write use the address, a program and a page write the slots, a settings write the settings, a page write the number of bytes named; the last three are the M25PE40's
  pub cycles : map (λ (k : Kind). (uses_of k).cycle) kinds ≡ false ∷ true ∷ true ∷ true ∷ true ∷ true ∷ true ∷ true ∷ []
  pub addresses : map (λ (k : Kind). (uses_of k).address) kinds ≡ false ∷ true ∷ true ∷ false ∷ false ∷ true ∷ true ∷ true ∷ []
  pub slots : map (λ (k : Kind). (uses_of k).slots) kinds ≡ false ∷ true ∷ false ∷ false ∷ false ∷ true ∷ false ∷ false ∷ []
  pub settings : map (λ (k : Kind). (uses_of k).settings) kinds ≡ false ∷ false ∷ false ∷ false ∷ true ∷ false ∷ false ∷ false ∷ []
  pub named : map (λ (k : Kind). (uses_of k).named) kinds ≡ false ∷ false ∷ false ∷ false ∷ false ∷ true ∷ false ∷ false ∷ []
  pub pe : map (λ (k : Kind). (uses_of k).pe) kinds ≡ false ∷ false ∷ false ∷ false ∷ false ∷ true ∷ true ∷ true ∷ []
  -- what is not used is zero
  pub no-slots : no_slots ≡ replicate 256 0
  pub no-cycle : no_cycle ≡ cycle Idle 0 (replicate 256 0) 0 false
  pub page-cycle : page_cycle 0x07FFFE (row 0x11 0x22 0xFF 0x33) ≡ cycle Page 0x07FFFE (row 0x11 0x22 0xFF 0x33) 0 false
  pub write-cycle : write_cycle 0x07FFFE (row 0x11 0x22 0xFF 0x33) 3 ≡ record { kind = PageWrite; address = 0x07FFFE; slots = row 0x11 0x22 0xFF 0x33; bp = 0; srwd = false; named = 3 }
  pub page-erase-cycle : erase_cycle PageErase 0x07FFFE ≡ cycle PageErase 0x07FFFE (replicate 256 0) 0 false
  pub subsector-cycle : erase_cycle Subsector 0x07FFFE ≡ cycle Subsector 0x07FFFE (replicate 256 0) 0 false
  pub sector-cycle : erase_cycle Sector 0x07FFFE ≡ cycle Sector 0x07FFFE (replicate 256 0) 0 false
  pub all-cycle : all_cycle ≡ cycle All 0 (replicate 256 0) 0 false
  pub settings-cycle : settings_cycle true 5 ∷ settings_cycle false 2 ∷ [] ≡ cycle Settings 0 (replicate 256 0) 5 true ∷ cycle Settings 0 (replicate 256 0) 2 false ∷ []
  -- its ticks: a page write and a page erase take the program duration, a subsector erase the sector erase one
  pub durations : map (λ (k : Kind). duration_of k (delivered 2 0x010203 0x040506 0x07080D 0x0E0F10)) kinds ≡ 0 ∷ 0x010203 ∷ 0x040506 ∷ 0x07080D ∷ 0x0E0F10 ∷ 0x010203 ∷ 0x010203 ∷ 0x040506 ∷ []

-- computed by the checker
pub is-kinds : Kinds
unfolding delivered no_slots no_cycle page_cycle write_cycle erase_cycle all_cycle settings_cycle no_locks
is-kinds = record {
  cycles = refl;
  addresses = refl;
  slots = refl;
  settings = refl;
  named = refl;
  pe = refl;
  no-slots = refl;
  no-cycle = refl;
  page-cycle = refl;
  write-cycle = refl;
  page-erase-cycle = refl;
  subsector-cycle = refl;
  sector-cycle = refl;
  all-cycle = refl;
  settings-cycle = refl;
  durations = refl;
}

-- ---- a byte, completed

-- what bytes 3C at these places become on a part by a cycle that is completed
abbrev pub completes : ℕ → Cycle → List ℕ → List ℕ
completes p c places = map (λ (i : ℕ). touched (figures_of p) c i 0x3C) places

-- slots F0 and 0F, then C3, and 5A at the end
abbrev pub some_slots : List ℕ
some_slots = row 0xF0 0x0F 0xC3 0x5A

-- a program at 0001FF: the bytes about the page's borders
abbrev pub about_page : List ℕ
about_page = 0x0000FF ∷ 0x000100 ∷ 0x000101 ∷ 0x000102 ∷ 0x0001FE ∷ 0x0001FF ∷ 0x000200 ∷ []

-- what a completed cycle does
pub record Completed : Type 0 where
  -- nothing where there is none, and nothing by a settings write
  pub idle : completes 0 none (0 ∷ 255 ∷ 256 ∷ 4095 ∷ []) ≡ replicate 4 0x3C
  pub settings : completes 0 (writing true 3) (0 ∷ 255 ∷ 256 ∷ 4095 ∷ []) ≡ replicate 4 0x3C
  -- a program: each byte of the page and its slot, bit by bit, whatever address of the page it was sent to
  pub page : map (λ (at : ℕ). completes 0 (programming at some_slots) about_page) (0x100 ∷ 0x180 ∷ 0x1FF ∷ []) ≡ replicate 3 (0x3C ∷ 0x30 ∷ 0x0C ∷ 0x00 ∷ 0x00 ∷ 0x18 ∷ 0x3C ∷ [])
  pub page-m25p128 : completes 4 (programming 0xFFFFFF some_slots) (0xFFFEFF ∷ 0xFFFF00 ∷ 0xFFFF01 ∷ 0xFFFFFF ∷ 0x000000 ∷ []) ≡ 0x3C ∷ 0x30 ∷ 0x0C ∷ 0x18 ∷ 0x3C ∷ []
  -- a sector erase: FF in the sector, whatever address of it was sent
  pub sector-bench : map (λ (at : ℕ). completes 0 (erasing_sector at) (0x0003FF ∷ 0x000400 ∷ 0x0007FF ∷ 0x000800 ∷ [])) (0x400 ∷ 0x5A5 ∷ 0x7FF ∷ []) ≡ replicate 3 (0x3C ∷ 0xFF ∷ 0xFF ∷ 0x3C ∷ [])
  pub sector-m25p10a : completes 1 (erasing_sector 0x008000) (0x007FFF ∷ 0x008000 ∷ 0x00FFFF ∷ 0x010000 ∷ []) ≡ 0x3C ∷ 0xFF ∷ 0xFF ∷ 0x3C ∷ []
  pub sector-m25p40 : completes 2 (erasing_sector 0x010000) (0x00FFFF ∷ 0x010000 ∷ 0x01FFFF ∷ 0x020000 ∷ []) ≡ 0x3C ∷ 0xFF ∷ 0xFF ∷ 0x3C ∷ []
  pub sector-m25p32 : completes 3 (erasing_sector 0x010000) (0x00FFFF ∷ 0x010000 ∷ 0x01FFFF ∷ 0x020000 ∷ []) ≡ 0x3C ∷ 0xFF ∷ 0xFF ∷ 0x3C ∷ []
  pub sector-m25p128 : completes 4 (erasing_sector 0x040000) (0x03FFFF ∷ 0x040000 ∷ 0x07FFFF ∷ 0x080000 ∷ []) ≡ 0x3C ∷ 0xFF ∷ 0xFF ∷ 0x3C ∷ []
  pub sector-older : completes 5 (erasing_sector 0x008000) (0x007FFF ∷ 0x008000 ∷ 0x00FFFF ∷ 0x010000 ∷ []) ≡ 0x3C ∷ 0xFF ∷ 0xFF ∷ 0x3C ∷ []
  -- a bulk erase: FF everywhere
  pub bulk : completes 0 erasing_all (0 ∷ 255 ∷ 256 ∷ 4095 ∷ []) ∷ completes 4 erasing_all (0 ∷ 255 ∷ 256 ∷ 16777215 ∷ []) ∷ [] ≡ replicate 2 (replicate 4 0xFF)

-- computed by the checker
pub completed : Completed
unfolding figures_of touched memory-is.programmed memory-is.erased
completed = record {
  idle = refl;
  settings = refl;
  page = refl;
  page-m25p128 = refl;
  sector-bench = refl;
  sector-m25p10a = refl;
  sector-m25p40 = refl;
  sector-m25p32 = refl;
  sector-m25p128 = refl;
  sector-older = refl;
  bulk = refl;
}

-- ---- a byte, cut by a power loss

-- a mask 05 and 00, then FF, and A1 at the end
abbrev pub some_mask : List ℕ
some_mask = row 0x05 0x00 0xFF 0xA1

-- what bytes x at these places become on a part by a cycle that is cut with a mask
abbrev pub cuts : ℕ → ℕ → Cycle → List ℕ → List ℕ → List ℕ
cuts x p c mask places = map (λ (i : ℕ). cut (figures_of p) c mask i x) places

-- what bytes A5 at these places become on the bench part with a mask all 00, all FF, and all 3C
abbrev pub by_masks : Cycle → List ℕ → List (List ℕ)
by_masks c places = map (λ (m : ℕ). cuts 0xA5 0 c (full m) places) (0x00 ∷ 0xFF ∷ 0x3C ∷ [])

-- the bytes about the borders of the sector 000400 to 0007FF, and of pages in it
abbrev pub about_sector : List ℕ
about_sector = 0x0003FF ∷ 0x000400 ∷ 0x000401 ∷ 0x000402 ∷ 0x0004FF ∷ 0x000500 ∷ 0x000501 ∷ 0x0007FE ∷ 0x0007FF ∷ 0x000800 ∷ []

-- what a cut leaves
pub record Cuts : Type 0 where
  -- nothing where there is no cycle, and nothing by a settings write, whatever the mask
  pub idle : by_masks none (0 ∷ 255 ∷ 256 ∷ 4095 ∷ []) ≡ replicate 3 (replicate 4 0xA5)
  pub settings : by_masks (writing true 3) (0 ∷ 255 ∷ 256 ∷ 4095 ∷ []) ≡ replicate 3 (replicate 4 0xA5)
  -- every bit of old byte, slot and mask: F0, CC and AA; a program leaves the old and (slot or mask), an erase the old or the mask
  pub every-bit : cuts 0xF0 0 (programming 0 (full 0xCC)) (full 0xAA) (0 ∷ []) ∷ cuts 0xF0 0 (erasing_sector 0) (full 0xAA) (0 ∷ []) ∷ cuts 0xF0 0 erasing_all (full 0xAA) (0 ∷ []) ∷ [] ≡ (0xE0 ∷ []) ∷ (0xFA ∷ []) ∷ (0xFA ∷ []) ∷ []
  -- a program, slot and mask at the byte's offset in the page; other pages stay
  pub page : map (λ (at : ℕ). cuts 0x3C 0 (programming at some_slots) some_mask about_page) (0x100 ∷ 0x180 ∷ 0x1FF ∷ []) ≡ replicate 3 (0x3C ∷ 0x34 ∷ 0x0C ∷ 0x3C ∷ 0x3C ∷ 0x38 ∷ 0x3C ∷ [])
  pub page-m25p128 : cuts 0x3C 4 (programming 0xFFFF00 some_slots) some_mask (0xFFFEFF ∷ 0xFFFF00 ∷ 0xFFFF01 ∷ 0xFFFFFF ∷ 0x000000 ∷ []) ≡ 0x3C ∷ 0x34 ∷ 0x0C ∷ 0x38 ∷ 0x3C ∷ []
  -- with 00 it is whole, with FF nothing of it happened
  pub page-masks : by_masks (programming 0x1FF some_slots) about_page ≡ (0xA5 ∷ 0xA0 ∷ 0x05 ∷ 0x81 ∷ 0x81 ∷ 0x00 ∷ 0xA5 ∷ []) ∷ replicate 7 0xA5 ∷ (0xA5 ∷ 0xA4 ∷ 0x25 ∷ 0xA5 ∷ 0xA5 ∷ 0x24 ∷ 0xA5 ∷ []) ∷ []
  -- a sector erase, the mask at the byte's offset in its page, in every page of the sector; other sectors stay
  pub sector : map (λ (at : ℕ). cuts 0x3C 0 (erasing_sector at) some_mask about_sector) (0x400 ∷ 0x5A5 ∷ 0x7FF ∷ []) ≡ replicate 3 (0x3C ∷ 0x3D ∷ 0x3C ∷ 0xFF ∷ 0xBD ∷ 0x3D ∷ 0x3C ∷ 0xFF ∷ 0xBD ∷ 0x3C ∷ [])
  -- with 00 nothing of it happened, with FF it is whole
  pub sector-masks : by_masks (erasing_sector 0x7FF) (0x0003FF ∷ 0x000400 ∷ 0x0007FF ∷ 0x000800 ∷ []) ≡ replicate 4 0xA5 ∷ (0xA5 ∷ 0xFF ∷ 0xFF ∷ 0xA5 ∷ []) ∷ (0xA5 ∷ 0xBD ∷ 0xBD ∷ 0xA5 ∷ []) ∷ []
  -- the second sector of each other part
  pub sector-m25p10a : cuts 0x3C 1 (erasing_sector 0x00FFFF) some_mask (0x007FFF ∷ 0x008000 ∷ 0x0080FF ∷ 0x008100 ∷ 0x00FFFF ∷ 0x010000 ∷ []) ≡ 0x3C ∷ 0x3D ∷ 0xBD ∷ 0x3D ∷ 0xBD ∷ 0x3C ∷ []
  pub sector-m25p40 : cuts 0x3C 2 (erasing_sector 0x01FFFF) some_mask (0x00FFFF ∷ 0x010000 ∷ 0x0100FF ∷ 0x010100 ∷ 0x01FFFF ∷ 0x020000 ∷ []) ≡ 0x3C ∷ 0x3D ∷ 0xBD ∷ 0x3D ∷ 0xBD ∷ 0x3C ∷ []
  pub sector-m25p32 : cuts 0x3C 3 (erasing_sector 0x01FFFF) some_mask (0x00FFFF ∷ 0x010000 ∷ 0x0100FF ∷ 0x010100 ∷ 0x01FFFF ∷ 0x020000 ∷ []) ≡ 0x3C ∷ 0x3D ∷ 0xBD ∷ 0x3D ∷ 0xBD ∷ 0x3C ∷ []
  pub sector-m25p128 : cuts 0x3C 4 (erasing_sector 0x07FFFF) some_mask (0x03FFFF ∷ 0x040000 ∷ 0x0400FF ∷ 0x040100 ∷ 0x07FFFF ∷ 0x080000 ∷ []) ≡ 0x3C ∷ 0x3D ∷ 0xBD ∷ 0x3D ∷ 0xBD ∷ 0x3C ∷ []
  pub sector-older : cuts 0x3C 5 (erasing_sector 0x00FFFF) some_mask (0x007FFF ∷ 0x008000 ∷ 0x0080FF ∷ 0x008100 ∷ 0x00FFFF ∷ 0x010000 ∷ []) ≡ 0x3C ∷ 0x3D ∷ 0xBD ∷ 0x3D ∷ 0xBD ∷ 0x3C ∷ []
  -- a bulk erase: the same in every page
  pub bulk : cuts 0x3C 0 erasing_all some_mask (0 ∷ 1 ∷ 2 ∷ 255 ∷ 256 ∷ 257 ∷ 4095 ∷ []) ≡ 0x3D ∷ 0x3C ∷ 0xFF ∷ 0xBD ∷ 0x3D ∷ 0x3C ∷ 0xBD ∷ []
  pub bulk-m25p128 : cuts 0x3C 4 erasing_all some_mask (0x000000 ∷ 0x0000FF ∷ 0x000100 ∷ 0xFFFFFF ∷ []) ≡ 0x3D ∷ 0xBD ∷ 0x3D ∷ 0xBD ∷ []
  pub bulk-masks : by_masks erasing_all (0 ∷ 255 ∷ 256 ∷ 4095 ∷ []) ≡ replicate 4 0xA5 ∷ replicate 4 0xFF ∷ replicate 4 0xBD ∷ []

-- computed by the checker
pub is_cut : Cuts
unfolding figures_of cut memory-is.cut_page memory-is.cut_sector
is_cut = record {
  idle = refl;
  settings = refl;
  every-bit = refl;
  page = refl;
  page-m25p128 = refl;
  page-masks = refl;
  sector = refl;
  sector-masks = refl;
  sector-m25p10a = refl;
  sector-m25p40 = refl;
  sector-m25p32 = refl;
  sector-m25p128 = refl;
  sector-older = refl;
  bulk = refl;
  bulk-m25p128 = refl;
  bulk-masks = refl;
}
