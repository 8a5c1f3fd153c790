-- Document 01, 'Program', SE, BE and 'Cycles', and document 02, Wishes 9 and 11: what is remembered of a cycle, what it does to the array, whole or cut, and how many ticks it takes.
use Rattle.std.specs.Prelude.{Bool, true, false, cond, not, ◌&&◌, ◌||◌, List, ℕ, eqb, leb, ltb, length, replicate}
use Rattle.slices.specs.Bytes.{same_bytes}
use Rattle.memory.specs.Memory.{programmed, replaced, erased, ored, cut_page, cut_write, cut_sector}
use Rattle.parts.specs.declared.Figures.{Figures}
use Rattle.device.specs.declared.Device.{Device}
use Rattle.device.specs.declared.cycle.Kind.{Kind}
use Rattle.device.specs.declared.cycle.Kind.TheVariants.{Idle, Page, Sector, All, Settings, PageWrite, PageErase, Subsector}
use Rattle.device.specs.declared.cycle.Uses.{Uses}
use Rattle.device.specs.declared.cycle.Cycle.{Cycle}

-- ---- what is remembered

-- whether a kind is a cycle; whether it uses the address, the slots, the new settings, the number of bytes named; whether it is a kind of M25PE parts alone
abbrev pub uses_row : Bool → Bool → Bool → Bool → Bool → Bool → Uses
uses_row c a l s n p = record { cycle = c; address = a; slots = l; settings = s; named = n; pe = p }

abbrev pub uses_of : Kind → Uses
uses_of Idle = uses_row false false false false false false
uses_of Page = uses_row true true true false false false
uses_of Sector = uses_row true true false false false false
uses_of All = uses_row true false false false false false
uses_of Settings = uses_row true false false true false false
uses_of PageWrite = uses_row true true true false true true
uses_of PageErase = uses_row true true false false false true
uses_of Subsector = uses_row true true false false false true

-- the slots of a cycle that has none
unfoldable pub no_slots : List ℕ
no_slots = replicate 256 0

-- no cycle: all zero
unfoldable pub no_cycle : Cycle
no_cycle = record { kind = Idle; address = 0; slots = no_slots; bp = 0; srwd = false; named = 0 }

-- a program remembers its address and all 256 slots
unfoldable pub page_cycle : ℕ → List ℕ → Cycle
page_cycle at slots = record { kind = Page; address = at; slots = slots; bp = 0; srwd = false; named = 0 }

-- a page write also how many bytes were named
unfoldable pub write_cycle : ℕ → List ℕ → ℕ → Cycle
write_cycle at slots n = record { kind = PageWrite; address = at; slots = slots; bp = 0; srwd = false; named = n }

-- an erase of a page, a subsector or a sector its address
unfoldable pub erase_cycle : Kind → ℕ → Cycle
erase_cycle k at = record { kind = k; address = at; slots = no_slots; bp = 0; srwd = false; named = 0 }

-- a bulk erase its kind alone
unfoldable pub all_cycle : Cycle
all_cycle = record { kind = All; address = 0; slots = no_slots; bp = 0; srwd = false; named = 0 }

-- a settings write the new SRWD and the new BP
unfoldable pub settings_cycle : Bool → ℕ → Cycle
settings_cycle w b = record { kind = Settings; address = 0; slots = no_slots; bp = b; srwd = w; named = 0 }

-- ---- when it is sound

-- whether two bools are equal
abbrev pub both_same : Bool → Bool → Bool
both_same a b = cond a b (not b)

-- there are 256 slots, zero where they are not used
unfoldable pub slots_sound : List ℕ → Bool → Bool
slots_sound slots used = eqb (length slots) 256 && (used || same_bytes slots no_slots)

-- how many bytes were named: 1 to 256, 0 where it is not used
unfoldable pub named_sound : ℕ → Bool → Bool
named_sound n used = cond used (leb 1 n && leb n 256) (eqb n 0)

-- a cycle is remembered exactly while busy; address and BP are within the part's; what the kind does not use is zero; a kind of M25PE parts is of no other part
unfoldable pub cycle_sound : Cycle → Figures → Bool → Bool
cycle_sound c f busy =
    both_same busy (uses_of c.kind).cycle
    && ltb c.address f.bytes
    && leb c.bp f.highest_bp
    && ((uses_of c.kind).address || eqb c.address 0)
    && slots_sound c.slots (uses_of c.kind).slots
    && ((uses_of c.kind).settings || (eqb c.bp 0 && not c.srwd))
    && named_sound c.named (uses_of c.kind).named
    && (not (uses_of c.kind).pe || f.pe)

-- ---- what it does to byte x at place i

-- completed: nothing; itself and its slot in the addressed page; FF in the addressed sector; FF everywhere; nothing; its slot where it is named; FF in the addressed page; FF in the addressed subsector
abbrev pub touched_in : Kind → Figures → ℕ → List ℕ → ℕ → ℕ → ℕ → ℕ
touched_in Idle f at slots n i x = x
touched_in Page f at slots n i x = programmed at slots i x
touched_in Sector f at slots n i x = erased f.sector_bytes at i x
touched_in All f at slots n i x = 255
touched_in Settings f at slots n i x = x
touched_in PageWrite f at slots n i x = replaced at n slots i x
touched_in PageErase f at slots n i x = erased 256 at i x
touched_in Subsector f at slots n i x = erased f.subsector_bytes at i x

unfoldable pub touched : Figures → Cycle → ℕ → ℕ → ℕ
touched f c i x = touched_in c.kind f c.address c.slots c.named i x

-- cut by a power loss: nothing; itself and (slot or mask) in the addressed page; itself or the mask at its page offset in the addressed sector; the same everywhere; nothing; the same where it is named; the same in the addressed page; the same in the addressed subsector
abbrev pub cut_in : Kind → Figures → ℕ → List ℕ → ℕ → List ℕ → ℕ → ℕ → ℕ
cut_in Idle f at slots n mask i x = x
cut_in Page f at slots n mask i x = cut_page at slots mask i x
cut_in Sector f at slots n mask i x = cut_sector f.sector_bytes at mask i x
cut_in All f at slots n mask i x = ored mask i x
cut_in Settings f at slots n mask i x = x
cut_in PageWrite f at slots n mask i x = cut_write at n mask i x
cut_in PageErase f at slots n mask i x = cut_sector 256 at mask i x
cut_in Subsector f at slots n mask i x = cut_sector f.subsector_bytes at mask i x

unfoldable pub cut : Figures → Cycle → List ℕ → ℕ → ℕ → ℕ
cut f c mask i x = cut_in c.kind f c.address c.slots c.named mask i x

-- ---- how many ticks it takes

abbrev pub duration_of : Kind → Device → ℕ
duration_of Idle d = 0
duration_of Page d = d.program
duration_of Sector d = d.sector_erase
duration_of All d = d.bulk_erase
duration_of Settings d = d.write_status
duration_of PageWrite d = d.program
duration_of PageErase d = d.program
duration_of Subsector d = d.sector_erase
