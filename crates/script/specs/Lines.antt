-- What a line asks: `x W bits hex`, `w t` or `p`, fields parted by one space, of at most 600 characters.
--     meaning   the command of a line
--     bytes_of   the bytes that it sends
--     Parsed    what `parse` promises
use Rattle.std.specs.Prelude.{◌≡◌, Bool, true, cond, ◌&&◌, ◌||◌, List, [], ◌∷◌, ℕ, ◌+◌, ◌-◌, ◌*◌, ◌%◌, eqb, leb, ltb, length, get_or, drop}
use Prim.Native.Char.{Char, code}
use Rattle.slices.specs.Changed.{map_at}
use Rattle.script.specs.Text.{is}
use Rattle.script.specs.declared.Command.{Command}
use Rattle.script.specs.declared.Command.TheVariants.{Exchange, Wait, PowerUp, Malformed}

-- whether a character lies from a to b
abbrev pub between : Char → Char → ℕ → Bool
between a b x = leb (code a) x && leb x (code b)

-- the value of a digit: 0 to 9, A to F or a to f; 16 for another character
unfoldable pub digit_of : ℕ → ℕ
digit_of x =
    cond (between "0" "9" x) (x - code "0")
    (cond (between "A" "F" x) (10 + (x - code "A")) (cond (between "a" "f" x) (10 + (x - code "a")) 16))

-- whether every character is a digit below a base
abbrev pub all_below : ℕ → List ℕ → Bool
all_below base [] = true
all_below base (x ∷ xs) = ltb (digit_of x) base && all_below base xs

-- the number whose decimal digits follow those of v
abbrev pub number_from : ℕ → List ℕ → ℕ
number_from v [] = v
number_from v (x ∷ xs) = number_from (10 * v + digit_of x) xs

-- the number of decimal digits
unfoldable pub number_of : List ℕ → ℕ
number_of xs = number_from 0 xs

-- the bytes of hexadecimal pairs
abbrev pub pairs : List ℕ → List ℕ
pairs [] = []
pairs (a ∷ []) = []
pairs (a ∷ (b ∷ xs)) = (16 * digit_of a + digit_of b) ∷ pairs xs

-- a field of hexadecimal pairs, one at least
unfoldable pub is_hex : List ℕ → Bool
is_hex xs = ltb 0 (length xs) && eqb (length xs % 2) 0 && all_below 16 xs

-- a field of decimal digits, one at least, of a number below 2^32
unfoldable pub is_number : List ℕ → Bool
is_number xs = ltb 0 (length xs) && all_below 10 xs && ltb (number_of xs) 4294967296

-- `x`, W (0 or 1), bits (0 to 7) and hexadecimal pairs; with no bytes the line ends after the bits
unfoldable pub is_exchange : List ℕ → Bool
is_exchange line =
    is "x" (get_or line 0 0)
    && is " " (get_or line 1 0)
    && ltb (digit_of (get_or line 2 0)) 2
    && is " " (get_or line 3 0)
    && ltb (digit_of (get_or line 4 0)) 8
    && (eqb (length line) 5 || (is " " (get_or line 5 0) && is_hex (drop 6 line)))

-- `w` and a number of ticks
unfoldable pub is_wait : List ℕ → Bool
is_wait line = is "w" (get_or line 0 0) && is " " (get_or line 1 0) && is_number (drop 2 line)

-- `p` alone
unfoldable pub is_power_up : List ℕ → Bool
is_power_up line = eqb (length line) 1 && is "p" (get_or line 0 0)

-- the bytes of an exchange; another line has none
unfoldable pub bytes_of : List ℕ → List ℕ
bytes_of line = cond (ltb 600 (length line)) [] (cond (is_exchange line) (pairs (drop 6 line)) [])

-- what a line asks
unfoldable pub meaning : List ℕ → Command
meaning line =
    cond (ltb 600 (length line)) Malformed
    (cond (is_exchange line) (Exchange (is "1" (get_or line 2 0)) (digit_of (get_or line 4 0)) (length (bytes_of line)))
    (cond (is_wait line) (Wait (number_of (drop 2 line)))
    (cond (is_power_up line) PowerUp Malformed)))

-- the command r is what the line asks, and its bytes stand at the start of the buffer, as far as that has room
pub record Parsed (line sent : List ℕ) (r : Command) (sent' : List ℕ) : Type 0 where
  pub command : r ≡ meaning line
  pub stored : sent' ≡ map_at (get_or (bytes_of line)) sent
