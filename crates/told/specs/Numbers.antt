-- The numbers of the refusals told a second time, in the order of the papers' tables, and computed.
use Rattle.std.specs.Prelude.{◌≡◌, refl, List, [], ◌∷◌, ◌++◌, map, ℕ, Result, Ok, Err}
use Rattle.refusals.specs.declared.Refusal.{Refusal}
use Rattle.refusals.specs.declared.Refusal.TheVariants.{UnknownPart, ArrayLength, TooManyBytes, TooManyPulses, ResponseShort, NotSound, OddDuration, PackedLength, BadItem, BufferShort, NoBytes, WhileBusy, WhileDeep, UnknownCode, OddLength, LatchReset, Protected, SettingsFrozen, LockFrozen, OddSample, RunTooLong, OutputShort, NoImage, ImageLength, BadBlock, ListShort, MaskLength, OddRow, NoSuchChip, RowArrayLength, TotalsFull}
use Rattle.refusals.specs.Numbers.{number_of, answer_of}

-- ---- short forms

-- what the host side refuses, document 01
abbrev pub by-host : List Refusal
by-host = UnknownPart ∷ ArrayLength ∷ TooManyBytes ∷ TooManyPulses ∷ ResponseShort ∷ NotSound ∷ OddDuration ∷ PackedLength ∷ []

-- what the chip ignores, document 01
abbrev pub by-chip : List Refusal
by-chip = NoBytes ∷ WhileBusy ∷ WhileDeep ∷ UnknownCode ∷ OddLength ∷ LatchReset ∷ Protected ∷ SettingsFrozen ∷ []

-- what the wishes of document 02 add: batches, a frozen lock, pins, images, a power loss, buses, reports
abbrev pub by-wish : List Refusal
by-wish = BadItem ∷ BufferShort ∷ LockFrozen ∷ OddSample ∷ RunTooLong ∷ OutputShort ∷ NoImage ∷ ImageLength ∷ BadBlock ∷ ListShort ∷ MaskLength ∷ OddRow ∷ NoSuchChip ∷ RowArrayLength ∷ TotalsFull ∷ []

-- ---- the numbers

pub record Refusals : Type 0 where
  pub host : map number_of by-host ≡ 1 ∷ 2 ∷ 3 ∷ 4 ∷ 5 ∷ 6 ∷ 7 ∷ 8 ∷ []
  pub chip : map number_of by-chip ≡ 11 ∷ 12 ∷ 13 ∷ 14 ∷ 15 ∷ 16 ∷ 17 ∷ 18 ∷ []
  pub wish : map number_of by-wish ≡ 9 ∷ 10 ∷ 19 ∷ 21 ∷ 22 ∷ 23 ∷ 31 ∷ 32 ∷ 33 ∷ 34 ∷ 41 ∷ 51 ∷ 52 ∷ 53 ∷ 71 ∷ []
  pub accepted : answer_of {A = ℕ} (Ok 5) ≡ 0
  pub refused : map (λ (r : Refusal). answer_of {A = ℕ} (Err r)) (by-host ++ by-chip) ≡ map number_of (by-host ++ by-chip)

pub told : Refusals
told = record { host = refl; chip = refl; wish = refl; accepted = refl; refused = refl }
