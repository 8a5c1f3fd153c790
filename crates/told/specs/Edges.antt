-- What stands at the edges told a second time, and computed: spans as the code finds them, addresses with bytes missing, words at their borders, and a read where there is no array.
use Rattle.std.specs.Prelude.{◌≡◌, refl, List, [], ◌∷◌, map, ℕ}
use Rattle.slices.specs.Bytes.{word, word_at}
use Rattle.parts.specs.Parts.{figures_of}
use Rattle.device.specs.Locks.{lock_of}
use Rattle.device.specs.Device.{status_byte}
use Rattle.chip.specs.declared.table.Drive.{Drive}
use Rattle.chip.specs.declared.table.Drive.TheVariants.{Nothing, Identification, Status, Array, Signature, Register}
use Rattle.chip.specs.declared.line.Span.{Span}
use Rattle.chip.specs.Table.{row_of, address_of}
use Rattle.chip.specs.Line.{silent, drives, by_row, heard, heard_row, driven, span_of}
use Rattle.chip.specs.Worked.{usual}

-- first and count, one after the other
abbrev pub both : Span → List ℕ
both s = s.first ∷ s.count ∷ []

-- where something is driven from byte 4 on, of these many bytes
abbrev pub spans : Drive → List (List ℕ)
spans how = map (λ (n : ℕ). both (span_of how 4 n)) (0 ∷ 3 ∷ 4 ∷ 5 ∷ 9 ∷ 65536 ∷ [])

-- the address in these bytes, on each part
abbrev pub addresses : List ℕ → List ℕ
addresses sent = map (λ (p : ℕ). address_of (figures_of p) sent) (0 ∷ 1 ∷ 2 ∷ 3 ∷ 4 ∷ 5 ∷ 6 ∷ [])

-- what is told
pub record Edges : Type 0 where
  -- spans: none up to the first driven byte, then from it on
  pub silent-span : spans Nothing ≡ (0 ∷ 0 ∷ []) ∷ (0 ∷ 0 ∷ []) ∷ (0 ∷ 0 ∷ []) ∷ (0 ∷ 0 ∷ []) ∷ (0 ∷ 0 ∷ []) ∷ (0 ∷ 0 ∷ []) ∷ []
  pub array-span : spans Array ≡ (0 ∷ 0 ∷ []) ∷ (0 ∷ 0 ∷ []) ∷ (0 ∷ 0 ∷ []) ∷ (4 ∷ 1 ∷ []) ∷ (4 ∷ 5 ∷ []) ∷ (4 ∷ 65532 ∷ []) ∷ []
  pub same-spans : spans Identification ∷ spans Status ∷ spans Signature ∷ spans Register ∷ [] ≡ spans Array ∷ spans Array ∷ spans Array ∷ spans Array ∷ []
  -- an address with bytes missing: they are 00
  pub no_bytes : addresses [] ≡ 0 ∷ 0 ∷ 0 ∷ 0 ∷ 0 ∷ 0 ∷ 0 ∷ []
  pub code-alone : addresses (0x03 ∷ []) ≡ 0 ∷ 0 ∷ 0 ∷ 0 ∷ 0 ∷ 0 ∷ 0 ∷ []
  pub high-alone : addresses (0x03 ∷ 0x41 ∷ []) ≡ 0x000000 ∷ 0x010000 ∷ 0x010000 ∷ 0x010000 ∷ 0x410000 ∷ 0x010000 ∷ 0x010000 ∷ []
  pub two_bytes : addresses (0x03 ∷ 0x41 ∷ 0x12 ∷ []) ≡ 0x000200 ∷ 0x011200 ∷ 0x011200 ∷ 0x011200 ∷ 0x411200 ∷ 0x011200 ∷ 0x011200 ∷ []
  pub further : addresses (0x03 ∷ 0x41 ∷ 0x12 ∷ 0x34 ∷ 0xFF ∷ []) ≡ 0x000234 ∷ 0x011234 ∷ 0x011234 ∷ 0x011234 ∷ 0x411234 ∷ 0x011234 ∷ 0x011234 ∷ []
  -- words at their borders, low byte first
  pub words : map word (0 ∷ 255 ∷ 256 ∷ 65535 ∷ 65536 ∷ 16777215 ∷ 16777216 ∷ 4294967295 ∷ []) ≡ (0 ∷ 0 ∷ 0 ∷ 0 ∷ []) ∷ (255 ∷ 0 ∷ 0 ∷ 0 ∷ []) ∷ (0 ∷ 1 ∷ 0 ∷ 0 ∷ []) ∷ (255 ∷ 255 ∷ 0 ∷ 0 ∷ []) ∷ (0 ∷ 0 ∷ 1 ∷ 0 ∷ []) ∷ (255 ∷ 255 ∷ 255 ∷ 0 ∷ []) ∷ (0 ∷ 0 ∷ 0 ∷ 1 ∷ []) ∷ (255 ∷ 255 ∷ 255 ∷ 255 ∷ []) ∷ []
  pub words_back : map (λ (at : ℕ). word_at (1 ∷ 2 ∷ 3 ∷ 4 ∷ 5 ∷ []) at) (0 ∷ 1 ∷ 2 ∷ 4 ∷ 5 ∷ []) ≡ 0x04030201 ∷ 0x05040302 ∷ 0x00050403 ∷ 0x00000005 ∷ 0 ∷ []
  -- a read where there is no array drives FF
  pub nowhere : driven usual [] (0x03 ∷ 0 ∷ 0 ∷ 0 ∷ []) ∷ driven usual [] (0x0B ∷ 0 ∷ 0 ∷ 0x10 ∷ 0 ∷ 0 ∷ []) ∷ driven usual [] (0x03 ∷ 0 ∷ 0 ∷ []) ∷ [] ≡ drives 0xFF ∷ drives 0xFF ∷ silent ∷ []

-- computed by the checker
pub edges : Edges
unfolding figures_of status_byte row_of address_of by_row heard heard_row driven lock_of
edges = record {
  silent-span = refl;
  array-span = refl;
  same-spans = refl;
  no_bytes = refl;
  code-alone = refl;
  high-alone = refl;
  two_bytes = refl;
  further = refl;
  words = refl;
  words_back = refl;
  nowhere = refl;
}
