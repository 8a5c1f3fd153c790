-- The numbers of the papers: that of each refusal, and that of a call.
use Rattle.std.specs.Prelude.{ℕ, Result, Ok, Err}
use Rattle.refusals.specs.declared.Refusal.{Refusal}
use Rattle.refusals.specs.declared.Refusal.TheVariants.{UnknownPart, ArrayLength, TooManyBytes, TooManyPulses, ResponseShort, NotSound, OddDuration, PackedLength, BadItem, BufferShort, NoBytes, WhileBusy, WhileDeep, UnknownCode, OddLength, LatchReset, Protected, SettingsFrozen, LockFrozen, OddSample, RunTooLong, OutputShort, NoImage, ImageLength, BadBlock, ListShort, MaskLength, OddRow, NoSuchChip, RowArrayLength, TotalsFull}

-- the number of a refusal
abbrev pub number_of : Refusal → ℕ
number_of UnknownPart = 1
number_of ArrayLength = 2
number_of TooManyBytes = 3
number_of TooManyPulses = 4
number_of ResponseShort = 5
number_of NotSound = 6
number_of OddDuration = 7
number_of PackedLength = 8
number_of BadItem = 9
number_of BufferShort = 10
number_of NoBytes = 11
number_of WhileBusy = 12
number_of WhileDeep = 13
number_of UnknownCode = 14
number_of OddLength = 15
number_of LatchReset = 16
number_of Protected = 17
number_of SettingsFrozen = 18
number_of LockFrozen = 19
number_of OddSample = 21
number_of RunTooLong = 22
number_of OutputShort = 23
number_of NoImage = 31
number_of ImageLength = 32
number_of BadBlock = 33
number_of ListShort = 34
number_of MaskLength = 41
number_of OddRow = 51
number_of NoSuchChip = 52
number_of RowArrayLength = 53
number_of TotalsFull = 71

-- the number that answers a call: 0 where it is not refused
abbrev pub answer_of : {A : Type 0} → Result A Refusal → ℕ
answer_of (Ok _) = 0
answer_of (Err refusal) = number_of refusal
