-- Document 02, Wish 12, what is proved of reports: sums over the numbers, and a week of files, each going on from the last.
use Rattle.std.specs.Prelude.{◌≡◌, List, [], ◌∷◌, ◌++◌, ℕ, zero, suc, ◌+◌}
use Rattle.device.specs.declared.Checked.{Checked}
use Rattle.device.specs.Chip.{Chip, chip}
use Rattle.chip.specs.Events.{Event}
use Rattle.batch.specs.Items.{events_of}
use Rattle.report.specs.Report.{Reported}

-- a number for each place below n, summed
abbrev pub sum_below : ℕ → (ℕ → ℕ) → ℕ
sum_below zero f = 0
sum_below (suc n) f = sum_below n f + f n

-- the events of files, in order
abbrev pub events_of_all : List (List ℕ) → List Event
events_of_all [] = []
events_of_all (file ∷ files) = events_of file ++ events_of_all files

-- files reported in order, each on the chip and the totals that the call before it handed back, with any responses and answers: from a chip and totals, those that answered 0, and the chip and the totals at the end
pub data Week : List (List ℕ) → Chip → List ℕ → List (List ℕ) → Chip → List ℕ → Type 0 where
  none : (c : Chip) (held : List ℕ) → Week [] c held [] c held
  took : (file : List ℕ) (files : List (List ℕ)) (c : Chip) (held responses answers : List ℕ) (r : Checked) (array' responses' answers' held' : List ℕ) (kept : List (List ℕ)) (end : Chip) (last : List ℕ)
      → Reported c.device c.array file responses answers held r array' responses' answers' held' → r.answer ≡ 0 → Week files (chip r.device array') held' kept end last → Week (file ∷ files) c held (file ∷ kept) end last
  refuses : (file : List ℕ) (files : List (List ℕ)) (c : Chip) (held responses answers : List ℕ) (r : Checked) (array' responses' answers' held' : List ℕ) (kept : List (List ℕ)) (end : Chip) (last : List ℕ)
      → Reported c.device c.array file responses answers held r array' responses' answers' held' → (r.answer ≡ 0 → ⊥) → Week files (chip r.device array') held' kept end last → Week (file ∷ files) c held kept end last
