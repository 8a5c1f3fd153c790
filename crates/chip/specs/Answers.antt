-- Document 01, 'Answer numbers', and document 02, Wish 11: the first that applies is given. Lengths are handed over as numbers.
use Rattle.std.specs.Prelude.{Bool, true, false, cond, not, ◌&&◌, ◌||◌, List, ℕ, ◌-◌, ◌/◌, eqb, leb, ltb, length}
use Rattle.parts.specs.declared.Figures.{Figures}
use Rattle.parts.specs.Parts.{figures_of, known_part}
use Rattle.parts.specs.Protected.{protected_of}
use Rattle.device.specs.declared.Device.{Device}
use Rattle.device.specs.Device.{is_busy, is_deep, sound, ranged_of}
use Rattle.device.specs.declared.cycle.Kind.{Kind}
use Rattle.device.specs.declared.cycle.Kind.TheVariants.{Idle, Page, Sector, All, Settings, PageWrite, PageErase, Subsector}
use Rattle.device.specs.Locks.{stops, freezes, lock_of, any_stops}
use Rattle.device.specs.Cycles.{uses_of}
use Rattle.chip.specs.declared.table.Turn.{Turn}
use Rattle.chip.specs.declared.table.Turn.TheVariants.{Keep, Enable, Disable, Start, Sleep, Wake, Lock}
use Rattle.chip.specs.declared.table.Row.{Row}
use Rattle.chip.specs.declared.answers.Verdict.{Verdict}
use Rattle.chip.specs.declared.answers.Verdict.TheVariants.{Refused, Ignored, Executed}
use Rattle.chip.specs.Table.{longest, address_of, row_in, on_start}

-- ---- the host side

-- delivery: 1, 2, 7, or 0
unfoldable pub delivery_answer : ℕ → ℕ → ℕ → ℕ → ℕ → ℕ → ℕ
delivery_answer part array program sector bulk status =
    cond (not (known_part part)) 1
    (cond (not (eqb array (figures_of part).bytes)) 2
    (cond (not (ranged_of program && ranged_of sector && ranged_of bulk && ranged_of status)) 7
    0))

-- a transaction: 6, 2, 3, 4, 5, or 0
unfoldable pub host_number : Device → ℕ → ℕ → ℕ → ℕ → ℕ
host_number d array n pulses response =
    cond (not (sound d)) 6
    (cond (not (eqb array (figures_of d.part).bytes)) 2
    (cond (ltb longest n) 3
    (cond (ltb 7 pulses) 4
    (cond (ltb response n) 5
    0))))

-- ---- the chip

-- WRSR, the instruction that writes the settings
abbrev pub writes_settings : Turn → Bool
writes_settings t = on_start t (λ k. (uses_of k).settings) false

-- whether the sector of an address is among the highest that BP protects
unfoldable pub in_protected : Figures → ℕ → ℕ → Bool
in_protected f bp at = leb (f.sectors - protected_of f.sectors bp) (at / f.sector_bytes)

-- whether the sector of an address is protected: by BP, or by its lock register's write lock
unfoldable pub protected_at : Figures → Device → ℕ → Bool
protected_at f d at = in_protected f d.bp at || stops (lock_of f d.locks at)

-- whether any sector is: BP above 0, or a write lock set
unfoldable pub protected_any : Device → Bool
protected_any d = ltb 0 d.bp || any_stops d.locks

-- what a cycle has by where it writes: in the sector of its address, in all sectors, or nowhere
abbrev pub by_area : Kind → Bool → Bool → Bool
by_area Idle here all = false
by_area Page here all = here
by_area Sector here all = here
by_area All here all = all
by_area Settings here all = false
by_area PageWrite here all = here
by_area PageErase here all = here
by_area Subsector here all = here

-- what guards a cycle: the protected sector that it would write in; of a bulk erase any
abbrev pub guarded_in : Kind → Figures → Device → ℕ → Bool
guarded_in k f d at = by_area k (protected_at f d at) (protected_any d)

-- an instruction whose cycle is guarded
abbrev pub guarded : Turn → Figures → Device → ℕ → Bool
guarded t f d at = on_start t (λ k. guarded_in k f d at) false

-- the instruction that writes a lock register
abbrev pub writes_lock : Turn → Bool
writes_lock Keep = false
writes_lock Enable = false
writes_lock Disable = false
writes_lock (Start k) = false
writes_lock Sleep = false
writes_lock Wake = false
writes_lock Lock = true

-- an instruction that writes a frozen lock register
abbrev pub frozen : Turn → Figures → Device → ℕ → Bool
frozen t f d at = writes_lock t && freezes (lock_of f d.locks at)

-- whether n and the further pulses are as needed
unfoldable pub as_needed : Row → ℕ → ℕ → Bool
as_needed r n pulses = leb r.least n && leb n r.most && (not r.no_pulses || eqb pulses 0)

-- the chip ignores: 11, 14, 12, 13, 15, 16, 17, 18, 19, or 0
unfoldable pub chip_number : Device → Row → ℕ → ℕ → Bool → ℕ → ℕ
chip_number d r n pulses w at =
    cond (eqb n 0) 11
    (cond (not r.known) 14
    (cond (is_busy d.mode && not r.busy) 12
    (cond (is_deep d.mode && not r.deep) 13
    (cond (not (as_needed r n pulses)) 15
    (cond (r.latch && not d.latch) 16
    (cond (guarded r.turn (figures_of d.part) d at) 17
    (cond (writes_settings r.turn && d.srwd && not w) 18
    (cond (frozen r.turn (figures_of d.part) d at) 19
    0))))))))

-- ---- the verdict

-- a refusal before an ignored instruction, and either before an executed one
unfoldable pub decided : ℕ → ℕ → Verdict
decided host chip = cond (eqb host 0) (cond (eqb chip 0) Executed (Ignored chip)) (Refused host)

-- what becomes of a transaction
unfoldable pub verdict_of : Device → ℕ → List ℕ → ℕ → Bool → ℕ → Verdict
verdict_of d array sent pulses w response =
    decided (host_number d array (length sent) pulses response)
    (chip_number d (row_in d sent) (length sent) pulses w (address_of (figures_of d.part) sent))
