-- The chip: a record and its array.
use Rattle.std.specs.Prelude.{List, ℕ}
use Rattle.device.specs.declared.Device.{Device}

pub record Chip : Type 0 where
  pub device : Device
  pub array : List ℕ

-- a record beside an array
abbrev pub chip : Device → List ℕ → Chip
chip d a = record { device = d; array = a }
