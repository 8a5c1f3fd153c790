-- Document 02, Wish 4: what the older M25P10-A, part 5, has in common with part 1.
use Rattle.std.specs.Prelude.{◌≡◌, Bool, true, not, List, [], ◌∷◌, ℕ, eqb}
use Rattle.slices.specs.Chosen.{on_zero}
use Rattle.device.specs.declared.Device.{Device}
use Rattle.device.specs.declared.Checked.{Checked}
use Rattle.device.specs.Time.{Timed, wait_call, power_up_call, loss_call}
use Rattle.chip.specs.Outcome.{Outcome, transacted, Delivered}
use Rattle.chip.specs.Events.{Chip, Event, sends, waits, starts, loses, every, run, story}

-- the same record with another part number
abbrev pub as_part : ℕ → Device → Device
as_part p d = record { part = p; bp = d.bp; srwd = d.srwd; latch = d.latch; mode = d.mode; program = d.program; sector_erase = d.sector_erase; bulk_erase = d.bulk_erase; write_status = d.write_status; cycle = d.cycle; locks = d.locks }

-- the same outcome of a transaction, the next record's part number apart
abbrev pub outcome_as : ℕ → Outcome → Outcome
outcome_as p o = record { answer = o.answer; device = as_part p o.device; array = o.array; response = o.response }

-- the same of a delivery; a refused one gives the all-zero record, whatever the part
abbrev pub delivered_as : ℕ → Checked → Checked
delivered_as p r = record { answer = r.answer; device = on_zero r.answer (as_part p r.device) r.device }

-- the same of a record beside its array
abbrev pub chip_as : ℕ → Chip → Chip
chip_as p c = record { device = as_part p c.device; array = c.array }

-- the same of waiting, power-up and power loss
abbrev pub timed_as : ℕ → Timed → Timed
timed_as p o = record { answer = o.answer; chip = chip_as p o.chip }

-- a transaction whose first byte is other than 9F, or that has no bytes at all
abbrev pub not_rdid : List ℕ → Bool
not_rdid [] = true
not_rdid (code ∷ rest) = not (eqb code 0x9F)

-- such a transaction, waiting, power-up or power loss
abbrev pub without9_f : Event → Bool
without9_f (sends bytes pulses w) = not_rdid bytes
without9_f (waits t) = true
without9_f starts = true
without9_f (loses mask told) = true

-- one part does what another does, but for 9F: same answer, same line, same array, same next record, its part number apart
pub record DoesAs (old new : ℕ) : Type 0 where
  -- every record of the part, array, transaction (bytes, further pulses, level of W) and response, the first byte other than 9F or no bytes at all
  pub transacts : (d : Device) (array sent : List ℕ) (pulses : ℕ) (w : Bool) (response : List ℕ) → d.part ≡ old → not_rdid sent ≡ true
      → transacted d array sent pulses w response ≡ outcome_as old (transacted (as_part new d) array sent pulses w response)
  -- every record of the part beside any array
  pub waits : (c : Chip) (t : ℕ) → c.device.part ≡ old → wait_call c t ≡ timed_as old (wait_call (chip_as new c) t)
  pub powers_up : (c : Chip) → c.device.part ≡ old → power_up_call c ≡ timed_as old (power_up_call (chip_as new c))
  pub loses : (c : Chip) (mask : List ℕ) (told : Bool) → c.device.part ≡ old → loss_call c mask told ≡ timed_as old (loss_call (chip_as new c) mask told)
  -- whatever deliveries of the two hand back
  pub delivers : {array : List ℕ} {program sector bulk status : ℕ} {r s : Checked} {array' array'' : List ℕ}
      → Delivered new array program sector bulk status r array' → Delivered old array program sector bulk status s array'' → (s ≡ delivered_as old r) × (array'' ≡ array')
  -- every list of transactions without 9F, waits, power-ups and power losses
  pub lives : (es : List Event) (c : Chip) → c.device.part ≡ old → every without9_f es ≡ true → (story es c ≡ story es (chip_as new c)) × (run es c ≡ chip_as old (run es (chip_as new c)))
