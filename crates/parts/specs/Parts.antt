-- The five parts of document 01, a row for each in its order, the older M25P10-A (document 02, Wish 4) and the M25PE40 (Wish 11).
use Rattle.std.specs.Prelude.{Bool, true, false, cond, ℕ, eqb, leb}
use Rattle.parts.specs.declared.Figures.{Figures}

-- bytes, sectors, sector bytes, subsector bytes; the three identification bytes, whether 9F exists; signature, whether B9 and AB exist; highest BP; whether it is an M25PE part, with 0A, DB, 20, E5, E8 and lock registers, on which AB only releases
abbrev pub row : ℕ → ℕ → ℕ → ℕ → ℕ → ℕ → ℕ → Bool → ℕ → Bool → ℕ → Bool → Figures
row b s z u i j k id g sl h pe =
    record { bytes = b; sectors = s; sector_bytes = z; subsector_bytes = u; maker = i; memory_type = j; capacity = k; identifies = id; signature = g; sleeps = sl; highest_bp = h; pe = pe }

-- an M25P part has no subsectors: its sector's bytes stand there
abbrev pub m25p : ℕ → ℕ → ℕ → ℕ → ℕ → ℕ → Bool → ℕ → Bool → ℕ → Figures
m25p b s z i j k id g sl h = row b s z z i j k id g sl h false

-- part 0, the bench part
abbrev pub bench : Figures
bench = m25p 4096 4 1024 0x00 0x00 0x0C true 0x0B true 3

-- part 1
abbrev pub m25p10a : Figures
m25p10a = m25p 131072 4 32768 0x20 0x20 0x11 true 0x10 true 3

-- part 2
abbrev pub m25p40 : Figures
m25p40 = m25p 524288 8 65536 0x20 0x20 0x13 true 0x12 true 7

-- part 3
abbrev pub m25p32 : Figures
m25p32 = m25p 4194304 64 65536 0x20 0x20 0x16 true 0x15 true 7

-- part 4, which has no signature: a 0 stands there and is never driven
abbrev pub m25p128 : Figures
m25p128 = m25p 16777216 64 262144 0x20 0x20 0x18 true 0x00 false 7

-- the figures of a part without Read Identification: 0s stand for its identification and are never driven
abbrev pub unidentified : Figures → Figures
unidentified f = row f.bytes f.sectors f.sector_bytes f.subsector_bytes 0x00 0x00 0x00 false f.signature f.sleeps f.highest_bp f.pe

-- part 5, the older M25P10-A: part 1's figures without 9F
abbrev pub m25p10a_older : Figures
m25p10a_older = unidentified m25p10a

-- part 6, the M25PE40, which has no signature: a 0 stands there and is never driven
abbrev pub m25pe40 : Figures
m25pe40 = row 524288 8 65536 4096 0x20 0x80 0x13 true 0x00 true 7 true

-- whether a number is a part's
abbrev pub known_part : ℕ → Bool
known_part p = leb p 6

-- a part's figures by its number; a number that is no part's has the bench part's
unfoldable pub figures_of : ℕ → Figures
figures_of p = cond (eqb p 1) m25p10a (cond (eqb p 2) m25p40 (cond (eqb p 3) m25p32 (cond (eqb p 4) m25p128 (cond (eqb p 5) m25p10a_older (cond (eqb p 6) m25pe40 bench)))))
