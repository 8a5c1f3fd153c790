-- Document 02, Wish 5: how many bits a program wants 1 where the array holds 0, and only an erase would have given them.
--     unmet        the bits that are 1 in a slot and 0 in byte x
--     missing_at    the same of byte x of the page in a slot that the data reached, as the data leaves the slot; 0 in a slot that no data byte reached
--     missing      the sum over the bytes of the page before, from the address and the data
--     page_of       the page of an address, as far as there is one
--     most_missing  8 bits in each of 256 slots
use Rattle.std.specs.Prelude.{cond, List, ℕ, ◌-◌, ◌*◌, ◌/◌, take, drop}
use Rattle.std.specs.Int.Bits.{bit_and}
use Rattle.std.specs.Int.Count.{ones}
use Rattle.slices.specs.Changed.{sum_at}
use Rattle.memory.specs.Memory.{reached, landed}

abbrev pub unmet : ℕ → ℕ → ℕ
unmet slot x = ones (bit_and slot (255 - x))

unfoldable pub missing_at : ℕ → List ℕ → ℕ → ℕ → ℕ
missing_at at bytes slot x = cond (reached at bytes slot) (unmet (landed at bytes slot 255) x) 0

unfoldable pub missing : ℕ → List ℕ → List ℕ → ℕ
missing at bytes page = sum_at (missing_at at bytes) page

unfoldable pub page_of : ℕ → List ℕ → List ℕ
page_of at array = take 256 (drop (at / 256 * 256) array)

abbrev pub most_missing : ℕ
most_missing = 2048
