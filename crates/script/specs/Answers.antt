-- The lines that are printed: decimal numbers without leading zeros, hexadecimal in capitals.
--     answer_line   a line's number, its answer and its response
--     end_line      `end` and the count of lines
--     Printed      what the printers promise
use Rattle.std.specs.Prelude.{◌≡◌, cond, List, [], ◌∷◌, ◌++◌, ℕ, zero, suc, ◌+◌, ◌-◌, ◌/◌, ◌%◌, min, eqb, ltb, length, get_or}
use Prim.Native.Char.{code}
use Rattle.slices.specs.Changed.{map_at}
use Rattle.script.specs.Text.{ascii}

-- the decimal digits of a number that has at most k of them
abbrev pub decimal_in : ℕ → ℕ → List ℕ
decimal_in zero n = []
decimal_in (suc k) n = let more = decimal_in k (n / 10) ++ (code "0" + n % 10) ∷ [] in cond (ltb n 10) ((code "0" + n) ∷ []) more

-- the decimal digits of a number
unfoldable pub decimal : ℕ → List ℕ
decimal n = decimal_in (suc n) n

-- the hexadecimal digit of a number below 16
unfoldable pub hex_digit : ℕ → ℕ
hex_digit n = cond (ltb n 10) (code "0" + n) (code "A" + (n - 10))

-- the two hexadecimal digits of a byte
abbrev pub hex_byte : ℕ → List ℕ
hex_byte b = hex_digit (b / 16) ∷ hex_digit (b % 16) ∷ []

-- the hexadecimal digits of bytes
abbrev pub hex_text : List ℕ → List ℕ
hex_text [] = []
hex_text (b ∷ bs) = hex_byte b ++ hex_text bs

-- the same, or a dash where there are no bytes
unfoldable pub hex_or_dash : List ℕ → List ℕ
hex_or_dash bytes = cond (eqb (length bytes) 0) (ascii "-") (hex_text bytes)

-- a line's number, its answer and its response, parted by one space
unfoldable pub answer_line : ℕ → ℕ → List ℕ → List ℕ
answer_line number answer bytes = decimal number ++ ascii " " ++ decimal answer ++ ascii " " ++ hex_or_dash bytes ++ ascii "\n"

-- `end` and the count of lines
unfoldable pub end_line : ℕ → List ℕ
end_line lines = ascii "end " ++ decimal lines ++ ascii "\n"

-- what a byte x at place i becomes where characters are written from a place on
unfoldable pub over : ℕ → List ℕ → ℕ → ℕ → ℕ
over from line i x = cond (ltb i from) x (get_or line (i - from) x)

-- the line stands in the text from a place on, as far as there is room, the rest stays, and r is the place past it
pub record Printed (line text : List ℕ) (from : ℕ) (text' : List ℕ) (r : ℕ) : Type 0 where
  pub past : r ≡ min (from + length line) (length text)
  pub written : text' ≡ map_at (over from line) text
