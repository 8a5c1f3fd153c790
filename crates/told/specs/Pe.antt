-- The M25PE40, part 6, told a second time from its own page, and computed: its figures, the seventeen rows of its table column by column, and when its record is sound.
use Rattle.std.specs.Prelude.{◌≡◌, refl, Bool, true, false, List, [], ◌∷◌, ◌++◌, map, ℕ, set, replicate}
use Rattle.parts.specs.Parts.{figures_of}
use Rattle.device.specs.Locks.{locks_sound}
use Rattle.device.specs.declared.Mode.{Mode}
use Rattle.device.specs.declared.Mode.TheVariants.{Standby, Busy, Deep}
use Rattle.device.specs.declared.Device.{Device}
use Rattle.device.specs.declared.cycle.Kind.{Kind}
use Rattle.device.specs.declared.cycle.Kind.TheVariants.{Idle, Page, Sector, All, Settings, PageWrite, PageErase, Subsector}
use Rattle.device.specs.declared.cycle.Cycle.{Cycle}
use Rattle.device.specs.Cycles.{no_slots, no_cycle, slots_sound, cycle_sound, named_sound, duration_of}
use Rattle.device.specs.Device.{latch_at, delivered, sound}
use Rattle.device.specs.Packing.{pack_answer}
use Rattle.chip.specs.declared.table.Turn.TheVariants.{Keep, Enable, Disable, Start, Sleep, Wake, Lock}
use Rattle.chip.specs.declared.table.Drive.TheVariants.{Nothing, Identification, Status, Array, Signature, Register}
use Rattle.chip.specs.declared.table.Row.{Row}
use Rattle.chip.specs.Table.{row_of, on_start}
use Rattle.told.specs.Cycles.{full, row, none, programming, erasing_sector, erasing_all, writing, replacing, erasing_page, erasing_subsector}

-- ---- figures and table

-- the seventeen codes in the order of its page: WREN, WRDI, RDID, RDSR, WRSR, WRLR, RDLR, READ, FAST_READ, PW, PP, PE, SSE, SE, BE, DP, RDP
abbrev pub codes : List ℕ
codes = 0x06 ∷ 0x04 ∷ 0x9F ∷ 0x05 ∷ 0x01 ∷ 0xE5 ∷ 0xE8 ∷ 0x03 ∷ 0x0B ∷ 0x0A ∷ 0x02 ∷ 0xDB ∷ 0x20 ∷ 0xD8 ∷ 0xC7 ∷ 0xB9 ∷ 0xAB ∷ []

-- the five codes that no other part has: PW, PE, SSE, WRLR, RDLR
abbrev pub five : List ℕ
five = 0x0A ∷ 0xDB ∷ 0x20 ∷ 0xE5 ∷ 0xE8 ∷ []

-- a column of its table
abbrev pub column : {A : Type 0} → (Row → A) → List A
column cell = map (λ (c : ℕ). cell (row_of (figures_of 6) c)) codes

-- its figures and its table
pub record Table : Type 0 where
  -- 'Figures': 524,288 bytes, 8 sectors of 65,536, subsectors of 4,096; 20 80 13; no signature, for which a 0 stands; deep power-down; highest BP 7
  pub figures : figures_of 6 ≡ record { bytes = 524288; sectors = 8; sector_bytes = 65536; subsector_bytes = 4096; maker = 0x20; memory_type = 0x80; capacity = 0x13; identifies = true; signature = 0x00; sleeps = true; highest_bp = 7; pe = true }
  -- 'Instruction table': all seventeen are known; n from least to most
  pub known : column (λ (r : Row). r.known) ≡ replicate 17 true
  pub least : column (λ (r : Row). r.least) ≡ 1 ∷ 1 ∷ 1 ∷ 1 ∷ 2 ∷ 5 ∷ 4 ∷ 4 ∷ 5 ∷ 5 ∷ 5 ∷ 4 ∷ 4 ∷ 4 ∷ 1 ∷ 1 ∷ 1 ∷ []
  pub most : column (λ (r : Row). r.most) ≡ 1 ∷ 1 ∷ 65536 ∷ 65536 ∷ 2 ∷ 5 ∷ 65536 ∷ 65536 ∷ 65536 ∷ 65536 ∷ 65536 ∷ 4 ∷ 4 ∷ 4 ∷ 1 ∷ 1 ∷ 1 ∷ []
  -- no further pulses but for the five that read
  pub no-pulses : column (λ (r : Row). r.no_pulses) ≡ true ∷ true ∷ false ∷ false ∷ true ∷ true ∷ false ∷ false ∷ false ∷ true ∷ true ∷ true ∷ true ∷ true ∷ true ∷ true ∷ true ∷ []
  pub latch : column (λ (r : Row). r.latch) ≡ false ∷ false ∷ false ∷ false ∷ true ∷ true ∷ false ∷ false ∷ false ∷ true ∷ true ∷ true ∷ true ∷ true ∷ true ∷ false ∷ false ∷ []
  -- RDSR alone is taken while busy, RDP alone in deep power-down
  pub busy : column (λ (r : Row). r.busy) ≡ false ∷ false ∷ false ∷ true ∷ replicate 13 false
  pub deep : column (λ (r : Row). r.deep) ≡ replicate 16 false ++ (true ∷ [])
  -- what each does: the latch, a cycle that starts, a lock register, the mode
  pub turn : column (λ (r : Row). r.turn) ≡ Enable ∷ Disable ∷ Keep ∷ Keep ∷ Start Settings ∷ Lock ∷ Keep ∷ Keep ∷ Keep ∷ Start PageWrite ∷ Start Page ∷ Start PageErase ∷ Start Subsector ∷ Start Sector ∷ Start All ∷ Sleep ∷ Wake ∷ []
  -- what each drives, and from which byte on those that drive: RDID, RDSR, RDLR, READ, FAST_READ
  pub drive : column (λ (r : Row). r.drive) ≡ Nothing ∷ Nothing ∷ Identification ∷ Status ∷ Nothing ∷ Nothing ∷ Register ∷ Array ∷ Array ∷ replicate 8 Nothing
  pub from : map (λ (c : ℕ). (row_of (figures_of 6) c).from) (0x9F ∷ 0x05 ∷ 0xE8 ∷ 0x03 ∷ 0x0B ∷ []) ≡ 1 ∷ 1 ∷ 4 ∷ 4 ∷ 5 ∷ []
  -- the ticks of what each starts: write status for WRSR, program for PW, PP and PE, sector erase for SSE and SE, bulk erase for BE
  pub ticks : column (λ (r : Row). on_start r.turn (λ (k : Kind). duration_of k (delivered 6 3 5 9 2)) 0) ≡ 0 ∷ 0 ∷ 0 ∷ 0 ∷ 2 ∷ 0 ∷ 0 ∷ 0 ∷ 0 ∷ 3 ∷ 3 ∷ 3 ∷ 5 ∷ 5 ∷ 9 ∷ 0 ∷ 0 ∷ []
  -- the five are unknown on parts 0 to 5
  pub five-unknown : map (λ (p : ℕ). map (λ (c : ℕ). (row_of (figures_of p) c).known) five) (0 ∷ 1 ∷ 2 ∷ 3 ∷ 4 ∷ 5 ∷ []) ≡ replicate 6 (replicate 5 false)
  -- AB elsewhere, where it is known: any n, further pulses, a signature from byte 4 on
  pub elsewhere : map (λ (p : ℕ). row_of (figures_of p) 0xAB) (0 ∷ 1 ∷ 2 ∷ 3 ∷ 5 ∷ []) ≡ replicate 5 (record { known = true; least = 1; most = 65536; no_pulses = false; latch = false; busy = false; deep = true; turn = Wake; drive = Signature; from = 4 })

-- computed by the checker
pub table : Table
unfolding figures_of row_of delivered
table = record {
  figures = refl;
  known = refl;
  least = refl;
  most = refl;
  no-pulses = refl;
  latch = refl;
  busy = refl;
  deep = refl;
  turn = refl;
  drive = refl;
  from = refl;
  ticks = refl;
  five-unknown = refl;
  elsewhere = refl;
}

-- ---- when its record is sound

-- a record by part, BP, SRWD, latch, mode, cycle and lock registers; durations 3, 5, 9, 2
abbrev pub held : ℕ → ℕ → Bool → Bool → Mode → Cycle → List ℕ → Device
held p b s l m c ls = record { part = p; bp = b; srwd = s; latch = l; mode = m; program = 3; sector_erase = 5; bulk_erase = 9; write_status = 2; cycle = c; locks = ls }

-- eight lock registers 00
abbrev pub unset : List ℕ
unset = 0 ∷ 0 ∷ 0 ∷ 0 ∷ 0 ∷ 0 ∷ 0 ∷ 0 ∷ []

-- what pack answers where there is room: 0 for a sound record, else 6; a part in standby with lock registers
abbrev pub with_locks : ℕ → List ℕ → ℕ
with_locks p ls = pack_answer (held p 0 false true Standby none ls) 304

-- a part with two ticks left of a cycle
abbrev pub in_cycle : ℕ → Cycle → ℕ
in_cycle p c = pack_answer (held p 0 false true (Busy 2) c unset) 304

-- the sectors
abbrev pub sectors : List ℕ
sectors = 0 ∷ 1 ∷ 2 ∷ 3 ∷ 4 ∷ 5 ∷ 6 ∷ 7 ∷ []

-- a page write, a page erase, a subsector erase
abbrev pub three : List Cycle
three = replacing 0 (full 0xFF) 1 ∷ erasing_page 0 ∷ erasing_subsector 0 ∷ []

-- a cycle by kind and number of bytes named, all else zero
abbrev pub naming : Kind → ℕ → Cycle
naming k n = record { kind = k; address = 0; slots = full 0; bp = 0; srwd = false; named = n }

-- which records are sound
pub record Soundness : Type 0 where
  -- each lock register is 0 to 3: 0, 1, 2, 3, 4, 7, 255 in each of the eight places; all of them 3
  pub registers : map (λ (s : ℕ). map (λ (r : ℕ). with_locks 6 (set unset s r)) (0 ∷ 1 ∷ 2 ∷ 3 ∷ 4 ∷ 7 ∷ 255 ∷ [])) sectors ≡ replicate 8 (0 ∷ 0 ∷ 0 ∷ 0 ∷ 6 ∷ 6 ∷ 6 ∷ [])
  pub all_three : with_locks 6 (replicate 8 3) ≡ 0
  -- on the other parts each is 0: 0, 1, 2, 3 in the first place and in the last
  pub other-first : map (λ (p : ℕ). map (λ (r : ℕ). with_locks p (set unset 0 r)) (0 ∷ 1 ∷ 2 ∷ 3 ∷ [])) (0 ∷ 1 ∷ 2 ∷ 3 ∷ 4 ∷ 5 ∷ []) ≡ replicate 6 (0 ∷ 6 ∷ 6 ∷ 6 ∷ [])
  pub other_last : map (λ (p : ℕ). map (λ (r : ℕ). with_locks p (set unset 7 r)) (0 ∷ 1 ∷ 2 ∷ 3 ∷ [])) (0 ∷ 1 ∷ 2 ∷ 3 ∷ 4 ∷ 5 ∷ []) ≡ replicate 6 (0 ∷ 6 ∷ 6 ∷ 6 ∷ [])
  -- there are eight, on every part: none, seven, eight, nine, and 256
  pub eight : map (λ (p : ℕ). map (λ (n : ℕ). with_locks p (replicate n 0)) (0 ∷ 7 ∷ 8 ∷ 9 ∷ 256 ∷ [])) (0 ∷ 2 ∷ 6 ∷ []) ≡ replicate 3 (6 ∷ 6 ∷ 0 ∷ 6 ∷ 6 ∷ [])
  -- in deep power-down and in a cycle too, where all is protected and locked as well
  pub modes : pack_answer (held 6 7 true false Deep none (replicate 8 3)) 304 ∷ pack_answer (held 6 7 true true (Busy 2) (replacing 0 (full 0) 256) (replicate 8 3)) 304 ∷ pack_answer (held 6 7 true false Deep none (replicate 8 4)) 304 ∷ pack_answer (held 6 7 true true (Busy 2) (replacing 0 (full 0) 256) (replicate 8 4)) 304 ∷ [] ≡ 0 ∷ 0 ∷ 6 ∷ 6 ∷ []
  -- page write, page erase and subsector erase on part 6 alone, and only while busy; it has the four other kinds too
  pub kinds : map (λ (p : ℕ). map (in_cycle p) three) (0 ∷ 1 ∷ 2 ∷ 3 ∷ 4 ∷ 5 ∷ 6 ∷ []) ≡ replicate 6 (6 ∷ 6 ∷ 6 ∷ []) ++ ((0 ∷ 0 ∷ 0 ∷ []) ∷ [])
  pub not-busy : map (λ (m : Mode). map (λ (c : Cycle). pack_answer (held 6 0 false true m c unset) 304) three) (Standby ∷ Deep ∷ []) ≡ replicate 2 (6 ∷ 6 ∷ 6 ∷ [])
  pub four-kinds : map (in_cycle 6) (programming 0x07FFFF (full 0x5A) ∷ erasing_sector 0x07FFFF ∷ erasing_all ∷ writing true 7 ∷ none ∷ []) ≡ 0 ∷ 0 ∷ 0 ∷ 0 ∷ 6 ∷ []
  -- the number of bytes named: 1 to 256 in a page write, 0 in every other kind
  pub named : map (λ (n : ℕ). in_cycle 6 (naming PageWrite n)) (0 ∷ 1 ∷ 2 ∷ 255 ∷ 256 ∷ 257 ∷ 4294967295 ∷ []) ≡ 6 ∷ 0 ∷ 0 ∷ 0 ∷ 0 ∷ 6 ∷ 6 ∷ []
  pub not_named : map (λ (k : Kind). map (λ (n : ℕ). in_cycle 6 (naming k n)) (0 ∷ 1 ∷ 256 ∷ [])) (Page ∷ Sector ∷ All ∷ Settings ∷ PageErase ∷ Subsector ∷ []) ≡ replicate 6 (0 ∷ 6 ∷ 6 ∷ [])
  pub idle-named : map (λ (p : ℕ). map (λ (n : ℕ). pack_answer (held p 0 false true Standby (naming Idle n) unset) 304) (0 ∷ 1 ∷ 256 ∷ [])) (0 ∷ 4 ∷ 6 ∷ []) ≡ replicate 3 (0 ∷ 6 ∷ 6 ∷ [])
  -- 256 slots with any byte in a page write, named or not; zero in the erases
  pub slots : map (λ (s : List ℕ). in_cycle 6 (replacing 0 s 1)) (full 0x00 ∷ full 0xFF ∷ row 0x11 0x22 0x5A 0x33 ∷ replicate 255 0 ∷ replicate 257 0 ∷ []) ≡ 0 ∷ 0 ∷ 0 ∷ 6 ∷ 6 ∷ []
  pub no-slots : map (λ (k : Kind). map (λ (i : ℕ). in_cycle 6 (record { kind = k; address = 0; slots = set (full 0) i 1; bp = 0; srwd = false; named = 0 })) (0 ∷ 255 ∷ [])) (PageErase ∷ Subsector ∷ []) ≡ replicate 2 (6 ∷ 6 ∷ [])
  -- the address is below 524,288; new BP and new SRWD are 0
  pub addresses : map (λ (a : ℕ). in_cycle 6 (replacing a (full 0) 1) ∷ in_cycle 6 (erasing_page a) ∷ in_cycle 6 (erasing_subsector a) ∷ []) (0 ∷ 0x07FFFF ∷ 0x080000 ∷ []) ≡ replicate 3 0 ∷ replicate 3 0 ∷ replicate 3 6 ∷ []
  pub new-bp : map (λ (k : Kind). in_cycle 6 (record { kind = k; address = 0; slots = full 0; bp = 1; srwd = false; named = 0 })) (PageErase ∷ Subsector ∷ []) ∷ (in_cycle 6 (record { kind = PageWrite; address = 0; slots = full 0; bp = 1; srwd = false; named = 1 }) ∷ in_cycle 6 (record { kind = PageWrite; address = 0; slots = full 0; bp = 0; srwd = true; named = 1 }) ∷ []) ∷ [] ≡ replicate 2 (6 ∷ 6 ∷ [])

-- computed by the checker
pub soundness : Soundness
unfolding latch_at sound no_slots no_cycle slots_sound cycle_sound pack_answer figures_of named_sound locks_sound
soundness = record {
  registers = refl;
  all_three = refl;
  other-first = refl;
  other_last = refl;
  eight = refl;
  modes = refl;
  kinds = refl;
  not-busy = refl;
  four-kinds = refl;
  named = refl;
  not_named = refl;
  idle-named = refl;
  slots = refl;
  no-slots = refl;
  addresses = refl;
  new-bp = refl;
}
