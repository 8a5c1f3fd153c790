-- Document 02, Wish 10: a row of records beside one array, as chips beside each other.
use Rattle.std.specs.Prelude.{Bool, true, ◌&&◌, List, [], ◌∷◌, ◌++◌, ℕ, ◌+◌, get_or, take, drop}
use Rattle.parts.specs.Parts.{figures_of}
use Rattle.device.specs.declared.Device.{Device}
use Rattle.device.specs.Chip.{Chip, chip}
use Rattle.device.specs.Device.{sound, zero_record}

-- how many bytes the part of a record has
abbrev pub bytes_of : Device → ℕ
bytes_of d = (figures_of d.part).bytes

-- the sum of the parts
abbrev pub sum_of : List Device → ℕ
sum_of [] = 0
sum_of (d ∷ ds) = bytes_of d + sum_of ds

-- every record of the row is sound
abbrev pub all_sound : List Device → Bool
all_sound [] = true
all_sound (d ∷ ds) = sound d && all_sound ds

-- the chips: each has its record, and its part of the array; a chip's bytes begin where those before it end
abbrev pub chips_in : List Device → List ℕ → List Chip
chips_in [] array = []
chips_in (d ∷ ds) array = chip d (take (bytes_of d) array) ∷ chips_in ds (drop (bytes_of d) array)

-- the records of chips, in row order
abbrev pub row_of : List Chip → List Device
row_of [] = []
row_of (c ∷ cs) = c.device ∷ row_of cs

-- the bytes of chips, in row order
abbrev pub array_of : List Chip → List ℕ
array_of [] = []
array_of (c ∷ cs) = c.array ++ array_of cs

-- record i of a row, counted from 0
abbrev pub at : List Device → ℕ → Device
at ds i = get_or ds i zero_record

-- chip i of chips, counted from 0
abbrev pub nth : List Chip → ℕ → Chip
nth cs i = get_or cs i (chip zero_record [])
