-- What each part drives told a second time, and computed: in standby, in a cycle and in deep power-down.
use Rattle.std.specs.Prelude.{◌≡◌, refl, true, false, List, [], ◌∷◌, map, ℕ, take, replicate}
use Rattle.parts.specs.Parts.{figures_of}
use Rattle.device.specs.Locks.{lock_of}
use Rattle.device.specs.declared.Mode.TheVariants.{Standby, Deep}
use Rattle.device.specs.declared.Device.{Device}
use Rattle.device.specs.Device.{status_byte}
use Rattle.chip.specs.Table.{row_of, address_of}
use Rattle.chip.specs.Line.{Driven, silent, drives, by_row, heard, heard_row, driven}
use Rattle.chip.specs.Worked.{record_of, usual}
use Rattle.told.specs.Cycles.{writing, busy_of, mid_erase}

-- a part in standby with a BP, SRWD 0, latch set
abbrev pub part : ℕ → ℕ → Device
part p b = record_of p b false true Standby

-- during each of the first seven bytes of a transaction, on an array of four bytes
abbrev pub line : Device → List ℕ → List Driven
line d sent = map (λ (i : ℕ). driven d (0xA0 ∷ 0xA1 ∷ 0xA2 ∷ 0xA3 ∷ []) (take i sent)) (0 ∷ 1 ∷ 2 ∷ 3 ∷ 4 ∷ 5 ∷ 6 ∷ [])

-- a code and six bytes 00, 00, 02, 00, 00, 00
abbrev pub sends : ℕ → List ℕ
sends code = code ∷ 0 ∷ 0 ∷ 2 ∷ 0 ∷ 0 ∷ 0 ∷ []

-- nothing in any of the seven bytes
abbrev pub mute : List Driven
mute = replicate 7 silent

-- the same byte in each from byte 1 on
abbrev pub always : ℕ → List Driven
always b = silent ∷ replicate 6 (drives b)

-- the same byte in each from byte 4 on
abbrev pub late : ℕ → List Driven
late b = silent ∷ silent ∷ silent ∷ silent ∷ replicate 3 (drives b)

-- three identification bytes from byte 1 on, then 00
abbrev pub names : ℕ → ℕ → ℕ → List Driven
names a b c = silent ∷ drives a ∷ drives b ∷ drives c ∷ drives 0 ∷ drives 0 ∷ drives 0 ∷ []

-- what each part drives
pub record Lines : Type 0 where
  -- RDID, which the older M25P10-A does not have
  pub names-bench : line (part 0 0) (sends 0x9F) ≡ names 0x00 0x00 0x0C
  pub names-m25p10a : line (part 1 0) (sends 0x9F) ≡ names 0x20 0x20 0x11
  pub names-m25p40 : line (part 2 0) (sends 0x9F) ≡ names 0x20 0x20 0x13
  pub names-m25p32 : line (part 3 0) (sends 0x9F) ≡ names 0x20 0x20 0x16
  pub names-m25p128 : line (part 4 0) (sends 0x9F) ≡ names 0x20 0x20 0x18
  pub names-older : line (part 5 0) (sends 0x9F) ≡ mute
  pub names-m25pe40 : line (part 6 0) (sends 0x9F) ≡ names 0x20 0x80 0x13
  -- RES, which the M25P128 does not have; on the M25PE40 AB only releases
  pub signs-bench : line (part 0 0) (sends 0xAB) ≡ late 0x0B
  pub signs-m25p10a : line (part 1 0) (sends 0xAB) ≡ late 0x10
  pub signs-m25p40 : line (part 2 0) (sends 0xAB) ≡ late 0x12
  pub signs-m25p32 : line (part 3 0) (sends 0xAB) ≡ late 0x15
  pub signs-m25p128 : line (part 4 0) (sends 0xAB) ≡ mute
  pub signs-older : line (part 5 0) (sends 0xAB) ≡ late 0x10
  pub signs-m25pe40 : line (part 6 0) (sends 0xAB) ∷ line (record_of 6 0 false true Deep) (sends 0xAB) ∷ [] ≡ mute ∷ mute ∷ []
  -- RDSR, with the highest BP
  pub status-bench : line (part 0 3) (sends 0x05) ≡ always 0x0E
  pub status-m25p32 : line (part 3 7) (sends 0x05) ≡ always 0x1E
  pub status-m25pe40 : line (part 6 7) (sends 0x05) ≡ always 0x1E
  -- READ from byte 4, FAST_READ from byte 5, from address 2 on, over the last byte to byte 0
  pub reads : line usual (sends 0x03) ≡ silent ∷ silent ∷ silent ∷ silent ∷ drives 0xA2 ∷ drives 0xA3 ∷ drives 0xA0 ∷ []
  pub reads-fast : line usual (sends 0x0B) ≡ silent ∷ silent ∷ silent ∷ silent ∷ silent ∷ drives 0xA2 ∷ drives 0xA3 ∷ []
  pub reads-m25pe40 : line (part 6 0) (sends 0x03) ∷ line (part 6 0) (sends 0x0B) ∷ [] ≡ (silent ∷ silent ∷ silent ∷ silent ∷ drives 0xA2 ∷ drives 0xA3 ∷ drives 0xA0 ∷ []) ∷ (silent ∷ silent ∷ silent ∷ silent ∷ silent ∷ drives 0xA2 ∷ drives 0xA3 ∷ []) ∷ []
  -- the others, and a code that is none
  pub others : map (λ (code : ℕ). line usual (sends code)) (0x06 ∷ 0x04 ∷ 0x01 ∷ 0x02 ∷ 0xD8 ∷ 0xC7 ∷ 0xB9 ∷ 0x9E ∷ []) ≡ replicate 8 mute
  pub others-m25pe40 : map (λ (code : ℕ). line (part 6 0) (sends code)) (0x06 ∷ 0x04 ∷ 0x01 ∷ 0xE5 ∷ 0x0A ∷ 0x02 ∷ 0xDB ∷ 0x20 ∷ 0xD8 ∷ 0xC7 ∷ 0xB9 ∷ 0xAB ∷ 0x9E ∷ []) ≡ replicate 13 mute
  -- busy: RDSR alone is heard
  pub busy : line (mid_erase 0 0 false true 2) (sends 0x05) ≡ always 0x03
  pub busy-last : line (mid_erase 0 0 false false 1) (sends 0x05) ≡ always 0x01
  pub busy-others : map (λ (code : ℕ). line (mid_erase 0 0 false true 2) (sends code)) (0x9F ∷ 0x03 ∷ 0x0B ∷ 0xAB ∷ []) ≡ replicate 4 mute
  pub last-others : map (λ (code : ℕ). line (mid_erase 0 0 false false 1) (sends code)) (0x9F ∷ 0x03 ∷ 0x0B ∷ 0xAB ∷ []) ≡ replicate 4 mute
  -- it drives the old settings while new ones are written
  pub busy-old : line (busy_of 3 1 false true 2 (writing true 6)) (sends 0x05) ≡ always 0x07
  pub last-old : line (busy_of 3 6 true false 1 (writing false 1)) (sends 0x05) ≡ always 0x99
  -- deep power-down: RES alone is heard
  pub deep : line (record_of 0 0 false true Deep) (sends 0xAB) ≡ late 0x0B
  pub deep-others : map (λ (code : ℕ). line (record_of 0 0 false true Deep) (sends code)) (0x9F ∷ 0x05 ∷ 0x03 ∷ 0x0B ∷ []) ≡ replicate 4 mute

-- computed by the checker
pub lines : Lines
unfolding figures_of status_byte row_of address_of by_row heard heard_row driven lock_of
lines = record {
  names-bench = refl;
  names-m25p10a = refl;
  names-m25p40 = refl;
  names-m25p32 = refl;
  names-m25p128 = refl;
  names-older = refl;
  names-m25pe40 = refl;
  signs-bench = refl;
  signs-m25p10a = refl;
  signs-m25p40 = refl;
  signs-m25p32 = refl;
  signs-m25p128 = refl;
  signs-older = refl;
  signs-m25pe40 = refl;
  status-bench = refl;
  status-m25p32 = refl;
  status-m25pe40 = refl;
  reads = refl;
  reads-fast = refl;
  reads-m25pe40 = refl;
  others = refl;
  others-m25pe40 = refl;
  busy = refl;
  busy-last = refl;
  busy-others = refl;
  last-others = refl;
  busy-old = refl;
  last-old = refl;
  deep = refl;
  deep-others = refl;
}
