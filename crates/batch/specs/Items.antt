-- Document 02, Wish 3: the bytes of a batch read as a row of items, and an item read as an event.
use Rattle.std.specs.Prelude.{ℕ, zero, suc, ◌+◌, ◌*◌, ◌/◌, ◌%◌, Bool, true, cond, ◌&&◌, ◌||◌, List, [], ◌∷◌, map, length, take, drop, ◌==◌, nat_lt, slice_index}
use Rattle.slices.specs.Bytes.{word_at}
use Rattle.chip.specs.Events.{Event, sends, waits}

-- two bytes of length, little-endian; then the flag byte
abbrev pub length_in : List ℕ → ℕ
length_in b = slice_index b 0 + 256 * slice_index b 1

abbrev pub flag_in : List ℕ → ℕ
flag_in b = slice_index b 2

-- the first item: its three bytes, and as many as its length says, or what is left of them
unfoldable pub first_in : List ℕ → List ℕ
first_in b = take (3 + length_in b) b

-- the items of the bytes behind the first k
unfoldable pub items_from : List ℕ → ℕ → List (List ℕ)
items_from [] k = []
items_from (x ∷ xs) zero = first_in (x ∷ xs) ∷ items_from xs (2 + length_in (x ∷ xs))
items_from (x ∷ xs) (suc k) = items_from xs k

-- the items of a batch, the last one perhaps cut
abbrev pub items_of : List ℕ → List (List ℕ)
items_of b = items_from b 0

-- whether it is a wait
abbrev pub is_wait : List ℕ → Bool
is_wait i = flag_in i == 16

-- an item that is not 9: not cut, and a transaction, with a flag up to 15, or a wait, with flag 16 and length 4
unfoldable pub good_item : List ℕ → Bool
good_item i = length i == 3 + length_in i && (nat_lt (flag_in i) 16 || is_wait i && length_in i == 4)

-- whether all of them are
abbrev pub all_good : List (List ℕ) → Bool
all_good [] = true
all_good (i ∷ is) = good_item i && all_good is

-- an item as an event: flag 16 is a wait, of the ticks in the four bytes behind it; else W is in bit 0 of the flag, the further pulses in bits 1 to 3, and the bytes behind it are sent
unfoldable pub event_in : List ℕ → Event
event_in i = cond (is_wait i) (waits (word_at i 3)) (sends (drop 3 i) (flag_in i / 2) (flag_in i % 2 == 1))

-- the events of a batch
abbrev pub events_of : List ℕ → List Event
events_of b = map event_in (items_of b)
