-- Document 01, 'Worked on the bench part': K1 to K15 as one list, and further cases as another. A case is a record beside an array all FF, and what is then done and seen.
use Rattle.std.specs.Prelude.{Bool, true, false, ◌&&◌, List, [], ◌∷◌, ◌++◌, ℕ, eqb, length, get_or, set, replicate}
use Rattle.parts.specs.Parts.{figures_of}
use Rattle.device.specs.declared.Mode.{Mode}
use Rattle.device.specs.declared.Mode.TheVariants.{Standby, Busy, Deep}
use Rattle.device.specs.declared.Device.{Device}
use Rattle.device.specs.Locks.{no_locks}
use Rattle.device.specs.Cycles.{no_cycle, all_cycle}
use Rattle.chip.specs.declared.Answer.{Answer}
use Rattle.chip.specs.Outcome.{bare}
use Rattle.chip.specs.Events.{Chip, Event, Reply}
use Rattle.chip.specs.Events as chip

-- ---- what is done, and what is seen

pub data Step : Type 0 where
  -- an event, its whole answer, and its line
  tells : Event → Answer → List ℕ → Step
  -- byte i of the array is x
  holds : ℕ → ℕ → Step

abbrev pub same : List ℕ → List ℕ → Bool
same [] [] = true
same [] (y ∷ ys) = false
same (x ∷ xs) [] = false
same (x ∷ xs) (y ∷ ys) = eqb x y && same xs ys

-- the caller sees this answer and this line
abbrev pub gave : Reply → Answer → List ℕ → Bool
gave o a r =
    eqb o.answer.number a.number && eqb o.answer.first a.first && eqb o.answer.count a.count && eqb o.answer.missing a.missing
    && same o.line r

-- all that is to be seen is seen, in order
unfoldable pub sees : List Step → Chip → Bool
sees [] c = true
sees (tells e a r ∷ ss) c = gave (chip.reply e c) a r && sees ss (chip.after e c)
sees (holds i x ∷ ss) c = eqb (get_or c.array i 0) x && sees ss c

pub record Case : Type 0 where
  pub device : Device
  pub steps : List Step

-- a record beside an array all FF of the part's size
abbrev pub fresh : Device → Chip
fresh d = record { device = d; array = replicate (figures_of d.part).bytes 0xFF }

unfoldable pub all : List Case → Bool
all [] = true
all (k ∷ ks) = sees k.steps (fresh k.device) && all ks

-- ---- short forms

-- a record by part, BP, SRWD, latch and mode; durations 3, 5, 9, 2; no cycle
abbrev pub record_of : ℕ → ℕ → Bool → Bool → Mode → Device
record_of p b s l m = record { part = p; bp = b; srwd = s; latch = l; mode = m; program = 3; sector_erase = 5; bulk_erase = 9; write_status = 2; cycle = no_cycle; locks = no_locks }

-- a part with 3 ticks of a bulk erase left
abbrev pub erasing : ℕ → Device
erasing p = record { part = p; bp = 0; srwd = false; latch = true; mode = Busy 3; program = 3; sector_erase = 5; bulk_erase = 9; write_status = 2; cycle = all_cycle; locks = no_locks }

-- the bench part in standby, by BP, SRWD and latch
abbrev pub bench : ℕ → Bool → Bool → Device
bench b s l = record_of 0 b s l Standby

-- standby, BP 0, SRWD 0, latch set
abbrev pub usual : Device
usual = bench 0 false true

-- the same with durations of 1
abbrev pub quick : Device
quick = record { part = 0; bp = 0; srwd = false; latch = true; mode = Standby; program = 1; sector_erase = 1; bulk_erase = 1; write_status = 1; cycle = no_cycle; locks = no_locks }

-- a transaction: level of W, further pulses, the bytes; then the whole answer and the line
abbrev pub sends : Bool → ℕ → List ℕ → Answer → List ℕ → Step
sends w p bytes a r = tells (chip.sends bytes p w) a r

-- ticks go by
abbrev pub waits : ℕ → Step
waits t = tells (chip.waits t) (bare 0) []

-- power-up
abbrev pub starts : Step
starts = tells chip.starts (bare 0) []

-- power is lost and comes back, with a byte in each place of the mask, and yes or no
abbrev pub loses : ℕ → Bool → Step
loses m told = tells (chip.loses (replicate 256 m) told) (bare 0) []

-- answered by a number, with nothing driven and no bits missing; by the level of W and the further pulses
abbrev pub told : Bool → ℕ → List ℕ → ℕ → Step
told w p bytes k = sends w p bytes (bare k) (replicate (length bytes) 0xFF)

-- the same, W high and no further pulses
abbrev pub answers : List ℕ → ℕ → Step
answers bytes k = told true 0 bytes k

-- executed, and driven from a position on: the position, and what is driven
abbrev pub reads : List ℕ → ℕ → List ℕ → Step
reads bytes first r = sends true 0 bytes (record { number = 0; first = first; count = length r; missing = 0 }) (replicate first 0xFF ++ r)

-- a program that is executed, with so many bits missing
abbrev pub misses : List ℕ → ℕ → Step
misses bytes k = sends true 0 bytes (record { number = 0; first = 0; count = 0; missing = k }) (replicate (length bytes) 0xFF)

-- the status byte is s
abbrev pub status : ℕ → Step
status s = reads (0x05 ∷ 0 ∷ []) 1 (s ∷ [])

-- ---- K1 to K15

-- no bytes: 11
abbrev pub k1 : Case
k1 = record { device = usual; steps = answers [] 11 ∷ [] }

-- latch reset: `06` gives 0 and sets it; with one further pulse, 15
abbrev pub k2 : Case
k2 = record { device = bench 0 false false; steps = told true 1 (0x06 ∷ []) 15 ∷ status 0x00 ∷ answers (0x06 ∷ []) 0 ∷ status 0x02 ∷ [] }

-- latch reset: `0200001000` gives 16
abbrev pub k3 : Case
k3 = record { device = bench 0 false false; steps = answers (0x02 ∷ 0 ∷ 0 ∷ 0x10 ∷ 0 ∷ []) 16 ∷ holds 16 0xFF ∷ [] }

-- AA programmed onto F0 leaves A0, once its cycle has ended; two bits were missing
abbrev pub k4 : Case
k4 = record {
  device = usual;
  steps =
      answers (0x02 ∷ 0 ∷ 0 ∷ 0 ∷ 0xF0 ∷ []) 0 ∷ waits 3 ∷ holds 0 0xF0 ∷ answers (0x06 ∷ []) 0 ∷ misses (0x02 ∷ 0 ∷ 0 ∷ 0 ∷ 0xAA ∷ []) 2 ∷ waits 3 ∷ holds 0 0xA0 ∷ [];
}

-- 257 data bytes at 000000, first 11, last 22, between them FF: byte 0 is 22, not 00
abbrev pub k5 : Case
k5 = record { device = usual; steps = answers ((0x02 ∷ 0 ∷ 0 ∷ 0 ∷ 0x11 ∷ []) ++ (replicate 255 0xFF ++ (0x22 ∷ []))) 0 ∷ waits 3 ∷ holds 0 0x22 ∷ holds 256 0xFF ∷ [] }

-- reading two bytes from 000FFF gives byte 4,095, then byte 0; these are 5A and C3
abbrev pub k6 : Case
k6 = record {
  device = usual;
  steps =
      answers (0x02 ∷ 0 ∷ 0x0F ∷ 0xFF ∷ 0x5A ∷ []) 0 ∷ waits 3 ∷ answers (0x06 ∷ []) 0 ∷ answers (0x02 ∷ 0 ∷ 0 ∷ 0 ∷ 0xC3 ∷ []) 0 ∷ waits 3
      ∷ reads (0x03 ∷ 0 ∷ 0x0F ∷ 0xFF ∷ 0 ∷ 0 ∷ []) 4 (0x5A ∷ 0xC3 ∷ []) ∷ [];
}

-- BP 1: a program at 000BFF is executed, at 000C00 gives 17
abbrev pub k7 : Case
k7 = record { device = bench 1 false true; steps = answers (0x02 ∷ 0 ∷ 0x0C ∷ 0 ∷ 0 ∷ []) 17 ∷ answers (0x02 ∷ 0 ∷ 0x0B ∷ 0xFF ∷ 0 ∷ []) 0 ∷ waits 3 ∷ holds 3071 0 ∷ holds 3072 0xFF ∷ [] }

-- BP 1: `C7` gives 17
abbrev pub k8 : Case
k8 = record { device = bench 1 false true; steps = answers (0xC7 ∷ []) 17 ∷ [] }

-- SRWD 1: `0100` gives 18 with W low, 0 with W high
abbrev pub k9 : Case
k9 = record { device = bench 0 true true; steps = told false 0 (0x01 ∷ 0 ∷ []) 18 ∷ told true 0 (0x01 ∷ 0 ∷ []) 0 ∷ [] }

-- `01FF`: status 03 right after the write, 01 after 1 tick (document 02, Wishes 9 and 2), 8C after 1 more
abbrev pub k10 : Case
k10 = record { device = usual; steps = answers (0x01 ∷ 0xFF ∷ []) 0 ∷ status 0x03 ∷ waits 1 ∷ status 0x01 ∷ waits 1 ∷ status 0x8C ∷ [] }

-- `02000000` gives 15, so does `D800000000`
abbrev pub k11 : Case
k11 = record { device = usual; steps = answers (0x02 ∷ 0 ∷ 0 ∷ 0 ∷ []) 15 ∷ answers (0xD8 ∷ 0 ∷ 0 ∷ 0 ∷ 0 ∷ []) 15 ∷ [] }

-- a program started: status 03 after waiting 1, 01 after waiting 2, 00 after 1 more
abbrev pub k12 : Case
k12 = record { device = usual; steps = answers (0x02 ∷ 0 ∷ 0 ∷ 0 ∷ 0 ∷ []) 0 ∷ waits 1 ∷ status 0x03 ∷ waits 1 ∷ status 0x01 ∷ waits 1 ∷ status 0x00 ∷ [] }

-- deep: `0500` gives 13, `AB` gives 0 and standby
abbrev pub k13 : Case
k13 = record { device = record_of 0 0 false true Deep; steps = answers (0x05 ∷ 0 ∷ []) 13 ∷ answers (0xAB ∷ []) 0 ∷ status 0x02 ∷ [] }

-- M25P128: `AB` gives 14
abbrev pub k14 : Case
k14 = record { device = record_of 4 0 false true Standby; steps = answers (0xAB ∷ []) 14 ∷ [] }

-- latch reset, BP 3: `D8000000` gives 16, not 17
abbrev pub k15 : Case
k15 = record { device = bench 3 false false; steps = answers (0xD8 ∷ 0 ∷ 0 ∷ 0 ∷ []) 16 ∷ [] }

unfoldable pub cases : List Case
cases = k1 ∷ k2 ∷ k3 ∷ k4 ∷ k5 ∷ k6 ∷ k7 ∷ k8 ∷ k9 ∷ k10 ∷ k11 ∷ k12 ∷ k13 ∷ k14 ∷ k15 ∷ []

-- ---- further cases

-- SRWD 0, W low: `0100` is executed
abbrev pub low_alone : Case
low_alone = record { device = usual; steps = told false 0 (0x01 ∷ 0 ∷ []) 0 ∷ status 0x03 ∷ [] }

-- SRWD 1, W low: a program is executed
abbrev pub low_program : Case
low_program = record { device = bench 0 true true; steps = told false 0 (0x02 ∷ 0 ∷ 0 ∷ 0 ∷ 0x5A ∷ []) 0 ∷ waits 3 ∷ holds 0 0x5A ∷ [] }

-- a busy M25P128 answers 14 to `AB`, and 12 to what it knows
abbrev pub busy_unknown : Case
busy_unknown = record { device = erasing 4; steps = answers (0xAB ∷ []) 14 ∷ answers (0x9F ∷ 0 ∷ []) 12 ∷ [] }

-- four mixed bytes read over the end of the array, by READ and by FAST_READ
abbrev pub roll_over : Case
roll_over = record {
  device = usual;
  steps =
      answers (0x02 ∷ 0 ∷ 0x0F ∷ 0xFE ∷ 0x11 ∷ 0x5A ∷ []) 0 ∷ waits 3 ∷ answers (0x06 ∷ []) 0 ∷ answers (0x02 ∷ 0 ∷ 0 ∷ 0 ∷ 0xC3 ∷ 0x3C ∷ []) 0 ∷ waits 3
      ∷ reads (0x03 ∷ 0 ∷ 0x0F ∷ 0xFE ∷ 0 ∷ 0 ∷ 0 ∷ 0 ∷ []) 4 (0x11 ∷ 0x5A ∷ 0xC3 ∷ 0x3C ∷ [])
      ∷ reads (0x0B ∷ 0 ∷ 0x1F ∷ 0xFF ∷ 0 ∷ 0 ∷ 0 ∷ []) 5 (0x5A ∷ 0xC3 ∷ []) ∷ [];
}

-- M25P10-A: WRSR ignores bit 4
abbrev pub two_bits : Case
two_bits = record { device = record_of 1 0 false true Standby; steps = answers (0x01 ∷ 0x10 ∷ []) 0 ∷ status 0x03 ∷ waits 2 ∷ status 0x00 ∷ [] }

-- M25P40: WRSR takes bit 4
abbrev pub three_bits : Case
three_bits = record { device = record_of 2 0 false true Standby; steps = answers (0x01 ∷ 0x10 ∷ []) 0 ∷ status 0x03 ∷ waits 2 ∷ status 0x10 ∷ [] }

-- a program wraps within its page
abbrev pub wraps : Case
wraps = record { device = usual; steps = answers (0x02 ∷ 0 ∷ 0 ∷ 0xFF ∷ 0x5A ∷ 0xF0 ∷ []) 0 ∷ waits 3 ∷ holds 255 0x5A ∷ holds 0 0xF0 ∷ holds 256 0xFF ∷ [] }

-- an erased sector is FF and its neighbour stays; power-up completes a cycle
abbrev pub erases : Case
erases = record {
  device = usual;
  steps =
      answers (0x02 ∷ 0 ∷ 0x03 ∷ 0xFF ∷ 0 ∷ []) 0 ∷ waits 3 ∷ answers (0x06 ∷ []) 0 ∷ answers (0x02 ∷ 0 ∷ 0x04 ∷ 0 ∷ 0 ∷ []) 0 ∷ starts ∷ status 0x00 ∷ answers (0x06 ∷ []) 0
      ∷ answers (0xD8 ∷ 0 ∷ 0x04 ∷ 0xFF ∷ []) 0 ∷ waits 4 ∷ holds 1024 0 ∷ waits 1 ∷ holds 1023 0 ∷ holds 1024 0xFF ∷ answers (0x06 ∷ []) 0 ∷ answers (0xC7 ∷ []) 0 ∷ waits 9 ∷ holds 1023 0xFF ∷ [];
}

-- identification, then 00; the signature from byte 4 on
abbrev pub names : Case
names = record {
  device = record_of 2 0 false true Standby;
  steps = reads (0x9F ∷ 0 ∷ 0 ∷ 0 ∷ 0 ∷ []) 1 (0x20 ∷ 0x20 ∷ 0x13 ∷ 0 ∷ []) ∷ reads (0xAB ∷ 0 ∷ 0 ∷ 0 ∷ 0 ∷ 0 ∷ []) 4 (0x12 ∷ 0x12 ∷ []) ∷ [];
}

-- the older M25P10-A: `9F` gives 14 in standby; RES drives 10
abbrev pub older : Case
older = record { device = record_of 5 0 false true Standby; steps = answers (0x9F ∷ 0 ∷ 0 ∷ 0 ∷ []) 14 ∷ reads (0xAB ∷ 0 ∷ 0 ∷ 0 ∷ 0 ∷ 0 ∷ []) 4 (0x10 ∷ 0x10 ∷ []) ∷ [] }

-- while busy, too, and 12 to what it knows
abbrev pub older_busy : Case
older_busy = record { device = erasing 5; steps = answers (0x9F ∷ 0 ∷ []) 14 ∷ answers (0xAB ∷ []) 12 ∷ status 0x03 ∷ [] }

-- in deep power-down, too; RES releases it
abbrev pub older_deep : Case
older_deep = record { device = record_of 5 0 false true Deep; steps = answers (0x9F ∷ 0 ∷ []) 14 ∷ answers (0x05 ∷ 0 ∷ []) 13 ∷ answers (0xAB ∷ []) 0 ∷ status 0x02 ∷ [] }

-- durations of 1: status 01 at once, `06` gives 12 then, and 00 after waiting 1 or power-up
abbrev pub one_tick : Case
one_tick = record {
  device = quick;
  steps =
      answers (0x02 ∷ 0 ∷ 0 ∷ 0 ∷ 0x5A ∷ []) 0 ∷ status 0x01 ∷ answers (0x06 ∷ []) 12 ∷ waits 0 ∷ status 0x01 ∷ waits 1 ∷ status 0x00 ∷ holds 0 0x5A
      ∷ answers (0x06 ∷ []) 0 ∷ answers (0xD8 ∷ 0 ∷ 0 ∷ 0 ∷ []) 0 ∷ status 0x01 ∷ waits 1 ∷ status 0x00 ∷ holds 0 0xFF
      ∷ answers (0x06 ∷ []) 0 ∷ answers (0xC7 ∷ []) 0 ∷ status 0x01 ∷ starts ∷ status 0x00
      ∷ answers (0x06 ∷ []) 0 ∷ answers (0x01 ∷ 0xFF ∷ []) 0 ∷ status 0x01 ∷ waits 1 ∷ status 0x8C ∷ [];
}

-- a rewrite in place: 0F over A0 wants four bits, FF over 00 eight, FF over FF none; the 00 beside them, which no data reaches, counts nothing
abbrev pub rewrite : Case
rewrite = record {
  device = usual;
  steps =
      answers (0x02 ∷ 0 ∷ 0 ∷ 0x10 ∷ 0xA0 ∷ 0x00 ∷ 0xFF ∷ 0x00 ∷ []) 0 ∷ waits 3 ∷ answers (0x06 ∷ []) 0
      ∷ misses (0x02 ∷ 0 ∷ 0 ∷ 0x10 ∷ 0x0F ∷ 0xFF ∷ 0xFF ∷ []) 12 ∷ waits 3 ∷ holds 16 0x00 ∷ holds 17 0x00 ∷ holds 18 0xFF
      ∷ answers (0x06 ∷ []) 0 ∷ answers (0xD8 ∷ 0 ∷ 0 ∷ 0 ∷ []) 0 ∷ waits 5 ∷ answers (0x06 ∷ []) 0
      ∷ answers (0x02 ∷ 0 ∷ 0 ∷ 0x10 ∷ 0x0F ∷ 0xFF ∷ 0xFF ∷ []) 0 ∷ waits 3 ∷ holds 16 0x0F ∷ [];
}

-- data that wraps: byte 255 of the page and byte 0 count, byte 0 of the next page does not
abbrev pub wrapped_rewrite : Case
wrapped_rewrite = record {
  device = usual;
  steps =
      answers (0x02 ∷ 0 ∷ 0 ∷ 0xFF ∷ 0x0F ∷ 0xFC ∷ []) 0 ∷ waits 3 ∷ answers (0x06 ∷ []) 0 ∷ answers (0x02 ∷ 0 ∷ 0x01 ∷ 0 ∷ 0 ∷ []) 0 ∷ waits 3
      ∷ answers (0x06 ∷ []) 0 ∷ misses (0x02 ∷ 0 ∷ 0 ∷ 0xFF ∷ 0xFF ∷ 0xFF ∷ []) 6 ∷ [];
}

-- 257 data bytes over 00 and 7F, the first and the last for the same slot: what the last wants counts, not what the first wanted
abbrev pub last_wants : Case
last_wants = record {
  device = usual;
  steps =
      answers (0x02 ∷ 0 ∷ 0 ∷ 0 ∷ 0x00 ∷ 0x7F ∷ []) 0 ∷ waits 3 ∷ answers (0x06 ∷ []) 0
      ∷ misses ((0x02 ∷ 0 ∷ 0 ∷ 0 ∷ 0xFF ∷ []) ++ (replicate 255 0xFF ++ (0x03 ∷ []))) 3 ∷ [];
}

-- hardware protection entered by a status write with W low, and W low in all that follows: SRWD and BP 1 set, `0100` gives 18 and a program in the highest sector 17, before power-up and after; below that sector a program is executed
abbrev pub entered_low : Case
entered_low = record {
  device = usual;
  steps =
      told false 0 (0x01 ∷ 0x84 ∷ []) 0 ∷ waits 2 ∷ told false 0 (0x06 ∷ []) 0 ∷ told false 0 (0x01 ∷ 0 ∷ []) 18 ∷ told false 0 (0x02 ∷ 0 ∷ 0x0C ∷ 0 ∷ 0 ∷ []) 17
      ∷ starts ∷ told false 0 (0x06 ∷ []) 0 ∷ told false 0 (0x01 ∷ 0 ∷ []) 18 ∷ told false 0 (0x02 ∷ 0 ∷ 0x0C ∷ 0 ∷ 0 ∷ []) 17
      ∷ told false 0 (0x02 ∷ 0 ∷ 0x0B ∷ 0xFF ∷ 0 ∷ []) 0 ∷ waits 3 ∷ holds 3071 0 ∷ holds 3072 0xFF
      ∷ sends false 0 (0x05 ∷ 0 ∷ []) (record { number = 0; first = 1; count = 1; missing = 0 }) (0xFF ∷ 0x84 ∷ []) ∷ [];
}

-- a program's byte is the old one up to the last tick, whatever is asked in between; surplus ticks are lost
abbrev pub up_to_the_last_tick : Case
up_to_the_last_tick = record {
  device = usual;
  steps =
      answers (0x02 ∷ 0 ∷ 0 ∷ 0 ∷ 0x5A ∷ []) 0 ∷ holds 0 0xFF ∷ waits 2 ∷ holds 0 0xFF ∷ answers (0x06 ∷ []) 12 ∷ waits 0 ∷ holds 0 0xFF ∷ status 0x01 ∷ waits 1000 ∷ holds 0 0x5A
      ∷ answers (0x06 ∷ []) 0 ∷ answers (0x01 ∷ 0x8C ∷ []) 0 ∷ waits 1 ∷ status 0x01 ∷ waits 1 ∷ status 0x8C ∷ [];
}

-- a program of 0F over C3, cut with 50: C3 and (0F or 50); standby, and the latch is reset. Cut with FF nothing of it happened, with 00 it is whole
abbrev pub cut_program : Case
cut_program = record {
  device = usual;
  steps =
      answers (0x02 ∷ 0 ∷ 0x01 ∷ 0xFF ∷ 0xC3 ∷ []) 0 ∷ starts ∷ holds 511 0xC3 ∷ answers (0x06 ∷ []) 0
      ∷ misses (0x02 ∷ 0 ∷ 0x01 ∷ 0xFF ∷ 0x0F ∷ []) 2 ∷ waits 1 ∷ loses 0x50 true ∷ holds 511 0x43 ∷ status 0x00 ∷ waits 3 ∷ holds 511 0x43
      ∷ answers (0x06 ∷ []) 0 ∷ answers (0x02 ∷ 0 ∷ 0x01 ∷ 0xFF ∷ 0x02 ∷ []) 0 ∷ loses 0xFF true ∷ holds 511 0x43
      ∷ answers (0x06 ∷ []) 0 ∷ answers (0x02 ∷ 0 ∷ 0x01 ∷ 0xFF ∷ 0x02 ∷ []) 0 ∷ loses 0x00 false ∷ holds 511 0x02 ∷ holds 510 0xFF ∷ holds 512 0xFF ∷ [];
}

-- the mask's byte is the one at the offset in the page: 50 at 255, 00 elsewhere, in the second page. The erase of that sector with the same mask
abbrev pub cut_in_place : Case
cut_in_place = record {
  device = usual;
  steps =
      answers (0x02 ∷ 0 ∷ 0x01 ∷ 0xFE ∷ 0x0F ∷ 0x0F ∷ []) 0 ∷ tells (chip.loses (set (replicate 256 0) 255 0x50) true) (bare 0) [] ∷ holds 510 0x0F ∷ holds 511 0x5F ∷ holds 255 0xFF
      ∷ answers (0x06 ∷ []) 0 ∷ answers (0xD8 ∷ 0 ∷ 0 ∷ 0 ∷ []) 0 ∷ tells (chip.loses (set (replicate 256 0) 254 0xA0) true) (bare 0) [] ∷ holds 510 0xAF ∷ holds 511 0x5F ∷ [];
}

-- an erase over 00, cut with 3C: 00 or 3C; the sector beside it stays. A bulk erase cut with C0 comes on top, everywhere
abbrev pub cut_erase : Case
cut_erase = record {
  device = usual;
  steps =
      answers (0x02 ∷ 0 ∷ 0x04 ∷ 0x01 ∷ 0 ∷ []) 0 ∷ waits 3 ∷ answers (0x06 ∷ []) 0 ∷ answers (0x02 ∷ 0 ∷ 0x03 ∷ 0xFF ∷ 0 ∷ []) 0 ∷ waits 3 ∷ answers (0x06 ∷ []) 0
      ∷ answers (0xD8 ∷ 0 ∷ 0x07 ∷ 0xFF ∷ []) 0 ∷ waits 4 ∷ loses 0x3C false ∷ holds 1025 0x3C ∷ holds 1023 0x00 ∷ status 0x00
      ∷ answers (0x06 ∷ []) 0 ∷ answers (0xC7 ∷ []) 0 ∷ loses 0xC0 false ∷ holds 1025 0xFC ∷ holds 1023 0xC0 ∷ holds 0 0xFF ∷ [];
}

-- a settings write is absent on no and complete on yes; the mask is not looked at, but must be of 256 bytes
abbrev pub cut_settings : Case
cut_settings = record {
  device = usual;
  steps =
      answers (0x01 ∷ 0x84 ∷ []) 0 ∷ loses 0x00 false ∷ status 0x00 ∷ answers (0x06 ∷ []) 0 ∷ answers (0x01 ∷ 0x84 ∷ []) 0
      ∷ tells (chip.loses (replicate 255 0) true) (bare 41) [] ∷ status 0x03 ∷ loses 0xFF true ∷ status 0x84 ∷ holds 0 0xFF ∷ [];
}

-- outside a cycle a loss resets the latch, and ends deep power-down
abbrev pub idle_loss : Case
idle_loss = record { device = bench 1 true true; steps = status 0x86 ∷ loses 0x00 true ∷ status 0x84 ∷ answers (0xB9 ∷ []) 0 ∷ loses 0x00 false ∷ status 0x84 ∷ holds 0 0xFF ∷ [] }

unfoldable pub further : List Case
further = low_alone ∷ low_program ∷ entered_low ∷ busy_unknown ∷ roll_over ∷ two_bits ∷ three_bits ∷ wraps ∷ erases ∷ names ∷ older ∷ older_busy ∷ older_deep ∷ one_tick ∷ rewrite ∷ wrapped_rewrite ∷ last_wants ∷ up_to_the_last_tick ∷ cut_program ∷ cut_in_place ∷ cut_erase ∷ cut_settings ∷ idle_loss ∷ []
