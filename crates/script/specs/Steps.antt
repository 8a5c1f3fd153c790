-- What the steps promise: the number and the ticks that are read, and what the methods of a text print.
use Rattle.std.specs.Prelude.{cond, drop, List, ℕ, Option, Some, None}
use Rattle.script.specs.declared.Text.{Text}
use Rattle.script.specs.Lines.{number_of, is_number, is_wait}
use Rattle.script.specs.Answers.{Printed}

-- the number of a field, where it is one
abbrev pub number_in : List ℕ → Option ℕ
number_in text = cond (is_number text) (Some (number_of text)) None

-- the ticks of a line that waits
abbrev pub ticks_in : List ℕ → Option ℕ
ticks_in line = cond (is_wait line) (Some (number_of (drop 2 line))) None

-- characters stand in a text from where it was on, as far as there is room, and the place is past them
abbrev pub Prints : List ℕ → Text → Text → Type 0
Prints line old new = Printed line old.bytes.now old.at new.bytes.now new.at
