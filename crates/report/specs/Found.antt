-- What the pass that touches nothing promises.
use Rattle.std.specs.Prelude.{◌≡◌, List, [], ◌∷◌, ℕ, ◌+◌, ◌≤◌, ◌<◌, cond, eqb, length, get_or}
use Rattle.parts.specs.declared.Figures.{Figures}
use Rattle.parts.specs.Parts.{figures_of}
use Rattle.device.specs.declared.Device.{Device}
use Rattle.device.specs.Chip.{Chip, chip}
use Rattle.chip.specs.Events.{Event, after, reply}
use Rattle.report.specs.Totals.{Dealt, dealt, total_of, totals, largest}
use Rattle.report.specs.Report.{gained}

-- there are 353 numbers, and n more fits in each
pub record Spare (counts : List ℕ) (n : ℕ) : Type 0 where
  pub long : length counts ≡ totals
  pub each : (i : ℕ) → get_or counts i 0 + n ≤ largest

-- number k is more by n, the others stay
pub record Raised (k n : ℕ) (was is : List ℕ) : Type 0 where
  pub long : length is ≡ length was
  pub each : (i : ℕ) → get_or is i 0 ≡ get_or was i 0 + cond (eqb i k) n 0

-- each number is more by what a list of transactions gives
pub record Grown (f : Figures) (ts : List Dealt) (was is : List ℕ) : Type 0 where
  pub long : length is ≡ totals
  pub each : (i : ℕ) → i < totals → get_or is i 0 ≡ get_or was i 0 + total_of f ts i

-- an event foreseen on a chip: the record that it would leave, and what it would give
pub record SeenOn (e : Event) (c : Chip) (part : ℕ) (was : List ℕ) (next : Device) (is : List ℕ) : Type 0 where
  pub device : next ≡ (after e c).device
  pub grown : Grown (figures_of part) (dealt (e ∷ []) (reply e c ∷ [])) was is

-- whatever bytes stand in an array of this length
abbrev pub Seen : Event → Device → ℕ → ℕ → List ℕ → Device → List ℕ → Type 0
Seen e d array part was next is = (xs : List ℕ) → length xs ≡ array → SeenOn e (chip d xs) part was next is

-- the numbers that a list of events would give, whatever bytes stand in an array of this length
pub record Counted (es : List Event) (d : Device) (array : ℕ) (counts : List ℕ) : Type 0 where
  pub long : length counts ≡ totals
  pub each : (xs : List ℕ) → length xs ≡ array → (i : ℕ) → i < totals → get_or counts i 0 ≡ gained es (chip d xs) i
