-- What an executed instruction does: the cycle that it starts, the bits missing, and the record. The array stays: the cycle changes it at its end. Document 01, 'Instructions', 'Program' and 'Cycles', and document 02, Wishes 5, 9 and 11.
use Rattle.std.specs.Prelude.{Bool, true, false, cond, List, ℕ, ◌/◌, ◌%◌, min, eqb, leb, length, get_or, drop}
use Rattle.memory.specs.Memory.{blank, filled}
use Rattle.memory.specs.Missing.{missing, page_of}
use Rattle.parts.specs.declared.Figures.{Figures}
use Rattle.device.specs.declared.Mode.TheVariants.{Standby, Deep}
use Rattle.device.specs.declared.Device.{Device}
use Rattle.device.specs.declared.cycle.Kind.{Kind}
use Rattle.device.specs.declared.cycle.Kind.TheVariants.{Idle, Page, Sector, All, Settings, PageWrite, PageErase, Subsector}
use Rattle.device.specs.declared.cycle.Cycle.{Cycle}
use Rattle.device.specs.Locks.{relocked}
use Rattle.device.specs.Device.{moded, locked, started}
use Rattle.device.specs.Device as record_is
use Rattle.device.specs.Cycles.{no_cycle, page_cycle, write_cycle, erase_cycle, all_cycle, settings_cycle, touched, duration_of}
use Rattle.chip.specs.declared.table.Turn.{Turn}
use Rattle.chip.specs.declared.table.Turn.TheVariants.{Keep, Enable, Disable, Start, Sleep, Wake, Lock}
use Rattle.chip.specs.Table.{on_start}

-- ---- the cycle that is started

-- SRWD of a settings byte: bit 7
abbrev pub srwd_in : ℕ → Bool
srwd_in b = leb 128 b

-- BP of a settings byte: bits 4 to 2, bits 3 and 2 where the highest BP is 3
unfoldable pub bp_in : Figures → ℕ → ℕ
bp_in f b = cond (eqb f.highest_bp 3) (b / 4 % 4) (b / 4 % 8)

-- a program's data, from byte 4 on, goes to a latch of 256 bytes, all FF at first; so does a page write's, which names as many bytes, at most 256; the settings are those of byte 1
abbrev pub cycle_in : Kind → Figures → ℕ → List ℕ → Cycle
cycle_in Idle f at sent = no_cycle
cycle_in Page f at sent = page_cycle at (filled blank at (drop 4 sent))
cycle_in Sector f at sent = erase_cycle Sector at
cycle_in All f at sent = all_cycle
cycle_in Settings f at sent = settings_cycle (srwd_in (get_or sent 1 0)) (bp_in f (get_or sent 1 0))
cycle_in PageWrite f at sent = write_cycle at (filled blank at (drop 4 sent)) (min 256 (length (drop 4 sent)))
cycle_in PageErase f at sent = erase_cycle PageErase at
cycle_in Subsector f at sent = erase_cycle Subsector at

unfoldable pub cycle_of : Kind → Figures → ℕ → List ℕ → Cycle
cycle_of kind f at sent = cycle_in kind f at sent

-- byte x at place i as it was
abbrev pub as_it_was : ℕ → ℕ → ℕ
as_it_was i x = x

-- what becomes of byte x at place i once the cycle is completed, where an instruction starts one
unfoldable pub changed : Turn → Figures → ℕ → List ℕ → ℕ → ℕ → ℕ
changed t f at sent = on_start t (λ k. touched f (cycle_of k f at sent)) as_it_was

-- ---- the bits missing

-- how many were missing for a cycle: for a program, of its data and the addressed page before; for every other kind none
abbrev pub missing_in : Kind → ℕ → List ℕ → List ℕ → ℕ
missing_in Idle at sent array = 0
missing_in Page at sent array = missing at (drop 4 sent) (page_of at array)
missing_in Sector at sent array = 0
missing_in All at sent array = 0
missing_in Settings at sent array = 0
missing_in PageWrite at sent array = 0
missing_in PageErase at sent array = 0
missing_in Subsector at sent array = 0

-- how many for an instruction: none where no cycle is started
unfoldable pub missing_of : Turn → ℕ → List ℕ → List ℕ → ℕ
missing_of t at sent array = on_start t (λ k. missing_in k at sent array) 0

-- ---- the record

-- the record after an executed instruction: a cycle that is started is remembered, and nothing of it has happened yet; a lock register takes byte 4 at once, and the latch is reset
abbrev pub turned_in : Turn → Figures → Device → ℕ → List ℕ → Device
turned_in Keep f d at sent = d
turned_in Enable f d at sent = record_is.latched d true
turned_in Disable f d at sent = record_is.latched d false
turned_in (Start k) f d at sent = started d (cycle_of k f at sent) (duration_of k d)
turned_in Sleep f d at sent = moded d d.latch Deep
turned_in Wake f d at sent = moded d d.latch Standby
turned_in Lock f d at sent = record_is.latched (locked d (relocked f d.locks at (get_or sent 4 0))) false

unfoldable pub turned : Turn → Figures → Device → ℕ → List ℕ → Device
turned t f d at sent = turned_in t f d at sent
