-- Characters as their numbers in ASCII.
use Rattle.std.specs.Prelude.{Bool, List, ℕ, eqb}
use mathlib.Core.List as list
use Prim.Native.Char.{Char, code}
use Prim.Native.String.{String, [], ◌∷◌}

-- the characters of a text
abbrev pub ascii : String → List ℕ
ascii [] = list.[]
ascii (c ∷ s) = list.◌∷◌ (code c) (ascii s)

-- whether a number is that of a character
abbrev pub is : Char → ℕ → Bool
is c x = eqb x (code c)
