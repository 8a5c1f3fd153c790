-- The memory of a part, byte by byte: from document 01, 'Program', SE, BE and READ, from document 02, Wish 9, a program and an erase that were cut, and from Wish 11 a page write, whole and cut.
--     blank       a latch before any data: 256 bytes FF
--     filled     a latch after data that starts at an address: data byte k goes to slot (address + k) modulo 256, one after the other
--     reached     some data byte goes to a slot
--     landed      a slot after the data: the last byte that went to it, or what it held
--     anded       byte x at place i and its slot, bit by bit
--     programmed  byte x at place i after the page of an address was programmed: itself and its slot, bit by bit; other pages stay
--     named       place i is among the `count` that a page write from an address on names: those from the address on, wrapping in the page
--     placed      byte x at place i: its slot where it is named, else itself
--     replaced    byte x at place i after the page of an address was written: named, it is its slot; the rest of the page and other pages stay
--     erased      byte x at place i after the sector of an address became FF
--     ored        byte x at place i or the mask at its offset in the page, bit by bit
--     cut_page     byte x at place i after a program of the page of an address was cut: itself and (slot or mask), bit by bit; other pages stay
--     cut_write    byte x at place i after a write of the page of an address was cut: named, it is itself or the mask; the rest of the page and other pages stay
--     cut_sector   byte x at place i after an erase of the sector of an address was cut: itself or the mask; other sectors stay
--     rolled      what byte i of a read is, from an address on, over the last byte to byte 0; FF where there is no array
use Rattle.std.specs.Prelude.{Bool, false, cond, ◌||◌, List, [], ◌∷◌, ℕ, ◌+◌, ◌-◌, ◌/◌, ◌%◌, length, get_or, set, replicate, eqb, ltb}
use Rattle.std.specs.Int.Bits.{bit_and, bit_or}

unfoldable pub blank : List ℕ
blank = replicate 256 255

unfoldable pub filled : List ℕ → ℕ → List ℕ → List ℕ
filled latch at [] = latch
filled latch at (b ∷ bytes) = filled (set latch (at % 256) b) (at + 1) bytes

unfoldable pub reached : ℕ → List ℕ → ℕ → Bool
reached at [] slot = false
reached at (b ∷ bytes) slot = eqb (at % 256) slot || reached (at + 1) bytes slot

unfoldable pub landed : ℕ → List ℕ → ℕ → ℕ → ℕ
landed at [] slot held = held
landed at (b ∷ bytes) slot held = landed (at + 1) bytes slot (cond (eqb (at % 256) slot) b held)

abbrev pub anded : List ℕ → ℕ → ℕ → ℕ
anded slots i x = bit_and x (get_or slots (i % 256) 0)

unfoldable pub programmed : ℕ → List ℕ → ℕ → ℕ → ℕ
programmed at slots i x = cond (eqb (i / 256) (at / 256)) (anded slots i x) x

unfoldable pub named : ℕ → ℕ → ℕ → Bool
named at count i = ltb ((i + (256 - at % 256)) % 256) count

abbrev pub placed : ℕ → ℕ → List ℕ → ℕ → ℕ → ℕ
placed at count slots i x = cond (named at count i) (get_or slots (i % 256) 0) x

unfoldable pub replaced : ℕ → ℕ → List ℕ → ℕ → ℕ → ℕ
replaced at count slots i x = cond (eqb (i / 256) (at / 256)) (placed at count slots i x) x

unfoldable pub erased : ℕ → ℕ → ℕ → ℕ → ℕ
erased size at i x = cond (eqb (i / size) (at / size)) 255 x

abbrev pub ored : List ℕ → ℕ → ℕ → ℕ
ored mask i x = bit_or x (get_or mask (i % 256) 0)

unfoldable pub cut_page : ℕ → List ℕ → List ℕ → ℕ → ℕ → ℕ
cut_page at slots mask i x = cond (eqb (i / 256) (at / 256)) (bit_and x (bit_or (get_or slots (i % 256) 0) (get_or mask (i % 256) 0))) x

unfoldable pub cut_write : ℕ → ℕ → List ℕ → ℕ → ℕ → ℕ
cut_write at count mask i x = cond (eqb (i / 256) (at / 256)) (cond (named at count i) (ored mask i x) x) x

unfoldable pub cut_sector : ℕ → ℕ → List ℕ → ℕ → ℕ → ℕ
cut_sector size at mask i x = cond (eqb (i / size) (at / size)) (ored mask i x) x

abbrev pub rolled : List ℕ → ℕ → ℕ → ℕ
rolled array at i = get_or array ((at + i) % length array) 255
