-- Wish 1 worked on the bench part, by hand from its words: runs with the output after each sample, and the answers.
use Rattle.std.specs.Prelude.{Bool, true, false, cond, ◌&&◌, List, [], ◌∷◌, ◌++◌, ℕ, suc, ◌+◌, ◌*◌, ◌-◌, T, eqb, length, get_or, replicate}
use Rattle.device.specs.declared.Device.{Device}
use Rattle.device.specs.Chip.{chip}
use Rattle.device.specs.Device.{status_byte}
use Rattle.device.specs.Time.{finished}
use Rattle.chip.specs.declared.Done.{Done}
use Rattle.chip.specs.Worked.{same, bench, quick}
use Rattle.pins.specs.Run.{Ran}

-- ---- samples, and what is seen

-- some samples, and the output after each
pub record Stretch : Type 0 where
  pub samples : List ℕ
  pub output : List ℕ

-- one sample and the output after it. 24 is W and Hold high and the rest low; Select high is 1 more, the clock 2, data 4; W low is 8 less, Hold low 16
abbrev pub at : ℕ → ℕ → Stretch
at s o = record { samples = s ∷ []; output = o ∷ [] }

-- two samples for each bit: the clock low, then high, data beside it and the rest as in `base`
abbrev pub clock : ℕ → List ℕ → List ℕ
clock base [] = []
clock base (b ∷ bs) = (base + 4 * b) ∷ (base + 4 * b + 2) ∷ clock base bs

-- what shows with a bit shows in both its samples
abbrev pub twice : List ℕ → List ℕ
twice [] = []
twice (o ∷ os) = o ∷ o ∷ twice os

-- bits shifted in with Select low, W and Hold high, and what shows with each from the fall of the clock on
abbrev pub bits : List ℕ → List ℕ → Stretch
bits bs os = record { samples = clock 24 bs; output = twice os }

-- the same with W low
abbrev pub bits_w_low : List ℕ → List ℕ → Stretch
bits_w_low bs os = record { samples = clock 16 bs; output = twice os }

-- a run on an array of one byte over and over: its length and that byte, the samples, the length of the output; then the answer, the bits missing and the status byte after it, and byte 0 of the array once the cycle that it leaves is completed: up to then every byte is as it was
pub record Case : Type 0 where
  pub device : Device
  pub bytes : ℕ
  pub was : ℕ
  pub run : List Stretch
  pub room : ℕ
  pub answer : ℕ
  pub missing : ℕ
  pub status : ℕ
  pub first : ℕ

-- the samples of a run
abbrev pub samples_in : List Stretch → List ℕ
samples_in [] = []
samples_in (s ∷ ss) = s.samples ++ samples_in ss

-- the output after each of them
abbrev pub output_in : List Stretch → List ℕ
output_in [] = []
output_in (s ∷ ss) = s.output ++ output_in ss

-- the output before the run
abbrev pub unwritten : ℕ → List ℕ
unwritten n = replicate n 9

-- the output after it: with answer 0 a byte for each sample, the rest as before
abbrev pub written : Case → List ℕ
written k = cond (eqb k.answer 0) (output_in k.run ++ unwritten (k.room - length (output_in k.run))) (unwritten k.room)

-- an outcome is as the case says
abbrev pub as_told : Case → Done → List ℕ → List ℕ → Bool
as_told k r array output =
    eqb r.answer.number k.answer && eqb r.answer.first 0 && eqb r.answer.count 0 && eqb r.answer.missing k.missing && same output (written k) && eqb (status_byte r.device) k.status && eqb (get_or array 0 0) k.was && eqb (get_or (finished (chip r.device array)).array 0 0) k.first

-- whatever the promise of a run admits at these cases is as they say
abbrev pub AllAsTold : List Case → Type 0
AllAsTold [] = Unit
AllAsTold (k ∷ ks) =
    ((r : Done) (array' output' : List ℕ) → Ran k.device (replicate k.bytes k.was) (samples_in k.run) (unwritten k.room) r array' output' → T (as_told k r array' output')) × AllAsTold ks

-- ---- short forms

-- on an array all FF, not refused, no bits missing, with room for one byte more
abbrev pub leaves : Device → List Stretch → ℕ → ℕ → Case
leaves d ss status first = record { device = d; bytes = 4096; was = 0xFF; run = ss; room = suc (length (samples_in ss)); answer = 0; missing = 0; status = status; first = first }

-- the same, byte 0 of the array FF to the end
abbrev pub runs : Device → List Stretch → ℕ → Case
runs d ss status = leaves d ss status 0xFF

-- the same samples a second time
abbrev pub twice_over : List Stretch → List Stretch
twice_over ss = ss ++ ss

-- BP 0, SRWD 0, latch reset: status 0000 0000
abbrev pub plain : Device
plain = bench 0 false false

-- BP 1, SRWD 1, latch reset: status 1000 0100
abbrev pub marked : Device
marked = bench 1 true false

-- the bits of a byte, most significant first
abbrev pub row : ℕ → ℕ → ℕ → ℕ → ℕ → ℕ → ℕ → ℕ → List ℕ
row a b c d e f g h = a ∷ b ∷ c ∷ d ∷ e ∷ f ∷ g ∷ h ∷ []

-- a byte 00
abbrev pub zeros : List ℕ
zeros = row 0 0 0 0 0 0 0 0

-- nothing is driven during a byte
abbrev pub dark : List ℕ
dark = row 2 2 2 2 2 2 2 2

-- 06, write enable
abbrev pub wren : Stretch
wren = bits (row 0 0 0 0 0 1 1 0) dark

-- 05, read the status
abbrev pub rdsr : Stretch
rdsr = bits (row 0 0 0 0 0 1 0 1) dark

-- a status read that shows these bits
abbrev pub reads : List ℕ → List Stretch
reads os = rdsr ∷ bits zeros os ∷ at 25 2 ∷ []

-- a status read of `marked` as far as bit 3 of its status, with the clock high
abbrev pub half_read : List Stretch → List Stretch
half_read ss = rdsr ∷ bits (0 ∷ 0 ∷ 0 ∷ 0 ∷ 0 ∷ []) (1 ∷ 0 ∷ 0 ∷ 0 ∷ 0 ∷ []) ∷ ss

-- its last bits 1 and 0, after the rise of the clock at bit 2
abbrev pub other_half : List Stretch
other_half = at 26 1 ∷ bits (0 ∷ 0 ∷ []) (0 ∷ 0 ∷ []) ∷ at 25 2 ∷ []

-- ---- transactions

-- a status read: bits of byte 1, most significant first, from the fall after the eighth rise on
abbrev pub status_read : Case
status_read = runs marked (reads (row 1 0 0 0 0 1 0 0)) 0x84

-- write enable, and a status read that shows it
abbrev pub enabled : Case
enabled = runs plain (wren ∷ at 25 2 ∷ reads (row 0 0 0 0 0 0 1 0)) 0x02

-- write enable, then write disable, in order
abbrev pub in_order : Case
in_order = runs plain (wren ∷ at 25 2 ∷ bits (row 0 0 0 0 0 1 0 0) dark ∷ at 25 2 ∷ reads zeros) 0x00

-- a page program of 5A at 000000: no ticks pass, so it is still busy, and byte 0 becomes 5A only when its cycle is completed
abbrev pub programmed : Case
programmed =
    leaves (bench 0 false true)
    (bits (row 0 0 0 0 0 0 1 0) dark ∷ bits zeros dark ∷ bits zeros dark ∷ bits zeros dark ∷ bits (row 0 1 0 1 1 0 1 0) dark ∷ at 25 2 ∷ reads (row 0 0 0 0 0 0 1 1))
    0x03 0x5A

-- a page program of 5A and FF over an array all 0F: two bits of 5A are missing and four of FF. The same once more is ignored, as the chip is busy, and adds nothing
abbrev pub rewritten : Case
rewritten =
    record {
      device = bench 0 false true;
      bytes = 4096;
      was = 0x0F;
      run = twice_over (bits (row 0 0 0 0 0 0 1 0) dark ∷ bits zeros dark ∷ bits zeros dark ∷ bits zeros dark ∷ bits (row 0 1 0 1 1 0 1 0) dark ∷ bits (row 1 1 1 1 1 1 1 1) dark ∷ at 25 2 ∷ []);
      room = 2 * (6 * 16 + 1);
      answer = 0;
      missing = 6;
      status = 0x03;
      first = 0x0A;
    }

-- a bulk erase of one tick: the latch is reset at once, and no ticks pass
abbrev pub one_tick : Case
one_tick = runs quick (bits (row 1 1 0 0 0 1 1 1) dark ∷ at 25 2 ∷ reads (row 0 0 0 0 0 0 0 1)) 0x01

-- a read of the array from 000000 on
abbrev pub array_read_case : Case
array_read_case = runs plain (bits (row 0 0 0 0 0 0 1 1) dark ∷ bits zeros dark ∷ bits zeros dark ∷ bits zeros dark ∷ bits zeros (row 1 1 1 1 1 1 1 1) ∷ at 25 2 ∷ []) 0x00

-- two whole bytes and three further pulses: bits of the unfinished last byte are shown
abbrev pub further_read : Case
further_read = runs marked (rdsr ∷ bits zeros (row 1 0 0 0 0 1 0 0) ∷ bits (0 ∷ 0 ∷ 0 ∷ []) (1 ∷ 0 ∷ 0 ∷ []) ∷ at 25 2 ∷ []) 0x84

-- write enable with a further pulse is not executed
abbrev pub further_pulse : Case
further_pulse = runs plain (wren ∷ bits (0 ∷ []) (2 ∷ []) ∷ at 25 2 ∷ reads zeros) 0x00

-- unfinished at the end: no effect
abbrev pub unfinished : Case
unfinished = runs plain (wren ∷ at 24 2 ∷ []) 0x00

-- the first sample has Select low and the clock high: a bit is taken
abbrev pub first_high : Case
first_high = runs marked (at 26 2 ∷ bits (0 ∷ 0 ∷ 0 ∷ 0 ∷ 1 ∷ 0 ∷ 1 ∷ []) (2 ∷ 2 ∷ 2 ∷ 2 ∷ 2 ∷ 2 ∷ 2 ∷ []) ∷ bits zeros (row 1 0 0 0 0 1 0 0) ∷ at 25 2 ∷ []) 0x84

-- ---- W, read as Select rises

-- SRWD 1, W low but in the sample in which Select rises: a write of the settings to 00 is executed: busy, and the old ones show
abbrev pub w_high : Case
w_high = runs (bench 0 true true) (bits_w_low (row 0 0 0 0 0 0 0 1) dark ∷ bits_w_low zeros dark ∷ at 25 2 ∷ at 17 2 ∷ reads (row 1 0 0 0 0 0 1 1)) 0x83

-- SRWD 1, W low in that sample alone: ignored
abbrev pub w_low_case : Case
w_low_case = runs (bench 0 true true) (bits (row 0 0 0 0 0 0 0 1) dark ∷ bits zeros dark ∷ at 17 2 ∷ at 25 2 ∷ reads (row 1 0 0 0 0 0 1 0)) 0x82

-- ---- holds

-- Hold falls with the clock low: a hold at once, output 2, and the bit from before after it; a pulse in it takes no bit
abbrev pub held : Case
held = runs marked (half_read (at 24 1 ∷ at 8 2 ∷ at 10 2 ∷ at 8 2 ∷ at 24 1 ∷ other_half)) 0x84

-- Hold falls with the clock high: the hold starts when the clock next goes low, after the output has changed
abbrev pub held_later : Case
held_later = runs marked (half_read (at 10 0 ∷ at 8 2 ∷ at 10 2 ∷ at 8 2 ∷ at 24 1 ∷ other_half)) 0x84

-- that fall undone with the clock still high: no hold
abbrev pub fall_undone : Case
fall_undone = runs marked (half_read (at 10 0 ∷ at 26 0 ∷ at 24 1 ∷ other_half)) 0x84

-- in a hold Hold rises with the clock high, first undone, then till the clock goes low
abbrev pub rise_undone : Case
rise_undone = runs marked (half_read (at 24 1 ∷ at 8 2 ∷ at 10 2 ∷ at 26 2 ∷ at 10 2 ∷ at 8 2 ∷ at 10 2 ∷ at 26 2 ∷ at 24 1 ∷ other_half)) 0x84

-- write enable with a hold after its fourth bit, and pulses with data high in it
abbrev pub held_within : Case
held_within =
    runs plain
    (bits (0 ∷ 0 ∷ 0 ∷ 0 ∷ []) (2 ∷ 2 ∷ 2 ∷ 2 ∷ []) ∷ at 24 2 ∷ at 8 2 ∷ at 14 2 ∷ at 12 2 ∷ at 14 2 ∷ at 12 2 ∷ at 24 2 ∷ at 26 2
    ∷ bits (1 ∷ 1 ∷ 0 ∷ []) (2 ∷ 2 ∷ 2 ∷ []) ∷ at 25 2 ∷ reads (row 0 0 0 0 0 0 1 0))
    0x02

-- Select rises in a hold: thrown away
abbrev pub thrown_away : Case
thrown_away = runs plain (wren ∷ at 24 2 ∷ at 8 2 ∷ at 9 2 ∷ at 25 2 ∷ reads zeros) 0x00

-- the rise of Hold still waits for the clock: thrown away too
abbrev pub still_held : Case
still_held = runs plain (wren ∷ at 24 2 ∷ at 8 2 ∷ at 10 2 ∷ at 26 2 ∷ at 27 2 ∷ at 25 2 ∷ reads zeros) 0x00

-- the fall of Hold still waits for the clock: executed
abbrev pub not_yet_held : Case
not_yet_held = runs plain (wren ∷ at 10 2 ∷ at 11 2 ∷ at 25 2 ∷ reads (row 0 0 0 0 0 0 1 0)) 0x02

-- Hold low as Select falls with the clock low: a hold, in which a pulse takes no bit
abbrev pub falls_held : Case
falls_held = runs plain (at 9 2 ∷ at 8 2 ∷ at 14 2 ∷ at 12 2 ∷ at 24 2 ∷ wren ∷ at 25 2 ∷ reads (row 0 0 0 0 0 0 1 0)) 0x02

-- Hold low as Select falls with the clock high: a hold when the clock next goes low
abbrev pub falls_held_later : Case
falls_held_later = runs plain (at 27 2 ∷ at 11 2 ∷ at 10 2 ∷ at 8 2 ∷ at 14 2 ∷ at 12 2 ∷ at 24 2 ∷ wren ∷ at 25 2 ∷ reads (row 0 0 0 0 0 0 1 0)) 0x02

-- ---- Select, clock and Hold in one sample

-- Hold low as Select falls with the clock low: a hold at once, in which the rise of the clock in the same sample takes no bit
abbrev pub falls_held_at_once : Case
falls_held_at_once = runs plain (at 9 2 ∷ at 14 2 ∷ at 26 2 ∷ at 24 2 ∷ wren ∷ at 25 2 ∷ reads (row 0 0 0 0 0 0 1 0)) 0x02

-- Select falls, then the clock rises, which takes a bit, then Hold falls, which is undone
abbrev pub falls_at_once : Case
falls_at_once = runs marked (at 10 2 ∷ at 26 2 ∷ bits (0 ∷ 0 ∷ 0 ∷ 0 ∷ 1 ∷ 0 ∷ 1 ∷ []) (2 ∷ 2 ∷ 2 ∷ 2 ∷ 2 ∷ 2 ∷ 2 ∷ []) ∷ bits zeros (row 1 0 0 0 0 1 0 0) ∷ at 25 2 ∷ []) 0x84

-- Select rises, which ends the transaction, then the clock falls, then Hold
abbrev pub rises_at_once : Case
rises_at_once = runs plain (wren ∷ at 9 2 ∷ at 25 2 ∷ reads (row 0 0 0 0 0 0 1 0)) 0x02

-- Select rises, then the clock, which is no further pulse
abbrev pub rises_with_clock : Case
rises_with_clock = runs plain (wren ∷ at 24 2 ∷ at 27 2 ∷ at 25 2 ∷ reads (row 0 0 0 0 0 0 1 0)) 0x02

-- the clock falls, then Hold: the output changes, and the hold starts at once
abbrev pub clock_with_hold : Case
clock_with_hold = runs marked (half_read (at 8 2 ∷ at 24 1 ∷ other_half)) 0x84

-- the clock rises, which takes a bit, then Hold falls, which waits
abbrev pub clock_before_hold : Case
clock_before_hold = runs marked (half_read (at 24 1 ∷ at 10 1 ∷ other_half)) 0x84

-- the clock rises in a hold, which takes no bit, then Hold rises, which waits
abbrev pub clock_before_rise : Case
clock_before_rise = runs marked (half_read (at 24 1 ∷ at 8 2 ∷ at 26 2 ∷ at 24 1 ∷ other_half)) 0x84

-- ---- answers

-- refused: record, array and output stay; the run begins with a write enable
abbrev pub refused : Device → ℕ → ℕ → ℕ → ℕ → ℕ → Case
refused d bytes s room answer status = record { device = d; bytes = bytes; was = 0xFF; run = wren ∷ at 25 2 ∷ at s 2 ∷ []; room = room; answer = answer; missing = 0; status = status; first = 0xFF }

-- 6 before 2 before 21 before 23, and each of the bits 5 to 7
abbrev pub refusals : List Case
refusals =
    refused (bench 4 false false) 4095 57 17 6 0x10
    ∷ refused plain 4095 57 17 2 0x00
    ∷ refused plain 4096 57 17 21 0x00
    ∷ refused plain 4096 89 18 21 0x00
    ∷ refused plain 4096 153 18 21 0x00
    ∷ refused plain 4096 25 17 23 0x00
    ∷ []

-- no samples and no room: not refused
abbrev pub no_samples : Case
no_samples = record { device = plain; bytes = 4096; was = 0xFF; run = []; room = 0; answer = 0; missing = 0; status = 0x00; first = 0xFF }

-- all of them
unfoldable pub cases : List Case
cases =
    status_read ∷ enabled ∷ in_order ∷ programmed ∷ rewritten ∷ one_tick ∷ array_read_case ∷ further_read ∷ further_pulse ∷ unfinished ∷ first_high ∷ w_high ∷ w_low_case ∷ held ∷ held_later ∷ fall_undone ∷ rise_undone ∷ held_within ∷ thrown_away
    ∷ still_held ∷ not_yet_held ∷ falls_held ∷ falls_held_later ∷ falls_held_at_once ∷ falls_at_once ∷ rises_at_once ∷ rises_with_clock ∷ clock_with_hold ∷ clock_before_hold ∷ clock_before_rise ∷ no_samples ∷ refusals
