-- The whole calls told a second time on the bench part, and computed: each of the twelve instructions executed, with status and bytes ticked through its cycle, power-up and power loss in mid-cycle, and what a refused call hands back.
use Rattle.std.specs.Prelude.{◌≡◌, refl, true, false, List, [], ◌∷◌, ◌++◌, ℕ, zero, suc, replicate}
use Rattle.std.specs.Int.Count.{ones_in, ones}
use Rattle.slices.specs.Changed.{map_at, window, sum_at}
use Rattle.memory.specs.Memory as memory-is
use Rattle.memory.specs.Missing.{missing_at, missing, page_of}
use Rattle.parts.specs.Parts.{figures_of}
use Rattle.parts.specs.Protected.{protected_of}
use Rattle.device.specs.Locks.{lock_of, locks_sound, no_locks}
use Rattle.device.specs.declared.Mode.TheVariants.{Deep}
use Rattle.device.specs.declared.Device.{Device}
use Rattle.device.specs.Device.{sound, status_byte, moded, latched, settled, remembering, running, started, ended, latch_at, locked}
use Rattle.device.specs.Time.{after_cycle, finished, lost, waited, time_number, wait_call, power_up_call, loss_call, powered_up, unlocked}
use Rattle.chip.specs.Table.{row_of, address_of}
use Rattle.chip.specs.Answers.{host_number, in_protected, as_needed, chip_number, decided, verdict_of, protected_any, protected_at}
use Rattle.chip.specs.Line.{by_row, heard, heard_row, driven, lined, driving_at, first_of, count_of}
use Rattle.device.specs.Cycles.{no_slots, no_cycle, page_cycle, erase_cycle, all_cycle, settings_cycle, slots_sound, cycle_sound, touched, cut, named_sound}
use Rattle.chip.specs.Change.{cycle_of, missing_of, bp_in, turned}
use Rattle.chip.specs.Outcome.{Outcome, outcome_of, transacted, bare}
use Rattle.chip.specs.Events.{sent}
use Rattle.chip.specs.Events as chip
use Rattle.chip.specs.Worked.{Step, tells, sends, waits, starts, loses, holds, sees, fresh, record_of, bench, usual, told, answers, reads, status}
use Rattle.told.specs.Cycles.{none, row, programming, busy_of, some_slots, some_mask}

-- all of these are as they say, from a record and an array all FF on
abbrev pub Seen : Device → List Step → Type 0
Seen d es = sees es (fresh d) ≡ true

-- a cycle of k ticks, one by one: a status until the last tick, another on it, a third afterwards; and up to the end these steps in each tick
abbrev pub cycle : List Step → ℕ → ℕ → ℕ → ℕ → List Step
cycle seen zero busy last idle = status idle ∷ []
cycle seen (suc zero) busy last idle = status last ∷ (seen ++ (waits 1 ∷ cycle seen zero busy last idle))
cycle seen (suc (suc k)) busy last idle = status busy ∷ (seen ++ (waits 1 ∷ cycle seen (suc k) busy last idle))

-- a transaction with W high and no further pulses, on an array of a length, every byte 11, and a response of a length, every byte 55
abbrev pub handed : Device → ℕ → List ℕ → ℕ → Outcome
handed d array sent response = transacted d (replicate array 0x11) sent 0 true (replicate response 0x55)

-- a refusal with a number: record, array and response as they came
abbrev pub refused : ℕ → Device → ℕ → ℕ → Outcome
refused k d array response = record { answer = record { number = k; first = 0; count = 0; missing = 0 }; device = d; array = replicate array 0x11; response = replicate response 0x55 }

-- three ticks before the end of a program
abbrev pub mid_program : Device
mid_program = busy_of 0 0 false true 3 (programming 0x1FF some_slots)

-- what the calls answer and hand back
pub record Calls : Type 0 where
  -- WREN: the latch is set, and waiting does not reset it
  pub wren : Seen (bench 0 false false) (status 0x00 ∷ answers (0x06 ∷ []) 0 ∷ status 0x02 ∷ waits 9 ∷ status 0x02 ∷ [])
  -- WRDI: the latch is reset
  pub wrdi : Seen usual (status 0x02 ∷ answers (0x04 ∷ []) 0 ∷ status 0x00 ∷ [])
  -- RDID: 00 00 0C from byte 1, then 00; with one byte nothing
  pub rdid : Seen usual (reads (0x9F ∷ 0 ∷ 0 ∷ 0 ∷ 0 ∷ 0 ∷ []) 1 (0x00 ∷ 0x00 ∷ 0x0C ∷ 0x00 ∷ 0x00 ∷ []) ∷ answers (0x9F ∷ []) 0 ∷ status 0x02 ∷ [])
  -- RDSR: the status byte from byte 1, repeated; with one byte nothing; with further pulses the whole bytes
  pub rdsr : Seen (bench 2 true true) (reads (0x05 ∷ 0 ∷ 0 ∷ 0 ∷ []) 1 (0x8A ∷ 0x8A ∷ 0x8A ∷ []) ∷ answers (0x05 ∷ []) 0 ∷ sends true 7 (0x05 ∷ 0 ∷ []) (record { number = 0; first = 1; count = 1; missing = 0 }) (0xFF ∷ 0x8A ∷ []) ∷ [])
  -- WRSR: two ticks; SRWD and BP are the old ones up to the last of them
  pub wrsr : Seen usual (answers (0x01 ∷ 0x84 ∷ []) 0 ∷ cycle [] 2 0x03 0x01 0x84)
  pub wrsr-back : Seen (bench 2 true true) (answers (0x01 ∷ 0x04 ∷ []) 0 ∷ cycle [] 2 0x8B 0x89 0x04)
  -- WRSR: bits 6 to 4, 1 and 0 are ignored
  pub wrsr-bits : Seen usual (answers (0x01 ∷ 0x73 ∷ []) 0 ∷ cycle [] 2 0x03 0x01 0x00)
  -- WRSR: the settings written protect and freeze
  pub wrsr-holds : Seen usual (answers (0x01 ∷ 0x84 ∷ []) 0 ∷ waits 2 ∷ answers (0x06 ∷ []) 0 ∷ answers (0x02 ∷ 0 ∷ 0x0C ∷ 0 ∷ 0 ∷ []) 17 ∷ told false 0 (0x01 ∷ 0 ∷ []) 18 ∷ answers (0x02 ∷ 0 ∷ 0x0B ∷ 0xFF ∷ 0 ∷ []) 0 ∷ holds 0xBFF 0xFF ∷ waits 3 ∷ holds 0xBFF 0x00 ∷ [])
  -- READ: from byte 4; with four bytes nothing
  pub read : Seen usual (answers (0x02 ∷ 0 ∷ 0 ∷ 0x10 ∷ 0x5A ∷ 0xC3 ∷ []) 0 ∷ waits 3 ∷ reads (0x03 ∷ 0 ∷ 0 ∷ 0x0F ∷ 0 ∷ 0 ∷ 0 ∷ 0 ∷ []) 4 (0xFF ∷ 0x5A ∷ 0xC3 ∷ 0xFF ∷ []) ∷ answers (0x03 ∷ 0 ∷ 0 ∷ 0x10 ∷ []) 0 ∷ status 0x00 ∷ [])
  -- FAST_READ: from byte 5; with five bytes nothing
  pub fast-read : Seen usual (answers (0x02 ∷ 0 ∷ 0 ∷ 0x10 ∷ 0x5A ∷ 0xC3 ∷ []) 0 ∷ waits 3 ∷ reads (0x0B ∷ 0 ∷ 0 ∷ 0x0F ∷ 0 ∷ 0 ∷ 0 ∷ 0 ∷ 0 ∷ []) 5 (0xFF ∷ 0x5A ∷ 0xC3 ∷ 0xFF ∷ []) ∷ answers (0x0B ∷ 0 ∷ 0 ∷ 0x10 ∷ 0 ∷ []) 0 ∷ status 0x00 ∷ [])
  -- PP: three ticks; the byte is the old one up to the last of them
  pub pp : Seen usual (answers (0x02 ∷ 0 ∷ 0x01 ∷ 0x10 ∷ 0x5A ∷ []) 0 ∷ (cycle (holds 0x110 0xFF ∷ []) 3 0x03 0x01 0x00 ++ (holds 0x10F 0xFF ∷ holds 0x110 0x5A ∷ holds 0x111 0xFF ∷ [])))
  -- PP: 300 data bytes fill the page and go round
  pub pp-long : Seen usual (answers ((0x02 ∷ 0 ∷ 0x01 ∷ 0xF0 ∷ []) ++ replicate 300 0x0F) 0 ∷ waits 2 ∷ holds 0x100 0xFF ∷ holds 0x1FF 0xFF ∷ waits 1 ∷ holds 0x0FF 0xFF ∷ holds 0x100 0x0F ∷ holds 0x1FF 0x0F ∷ holds 0x200 0xFF ∷ [])
  -- PP: what is ignored while it runs leaves it as it is; surplus ticks are lost, and the next cycle has all of its own
  pub pp-alone : Seen usual (answers (0x02 ∷ 0 ∷ 0 ∷ 0 ∷ 0x5A ∷ []) 0 ∷ answers (0x04 ∷ []) 12 ∷ answers (0x02 ∷ 0 ∷ 0 ∷ 0x01 ∷ 0x00 ∷ []) 12 ∷ answers (0xC7 ∷ []) 12 ∷ waits 1000 ∷ holds 0 0x5A ∷ holds 1 0xFF ∷ answers (0x06 ∷ []) 0 ∷ answers (0x02 ∷ 0 ∷ 0 ∷ 0x01 ∷ 0x33 ∷ []) 0 ∷ (cycle (holds 1 0xFF ∷ []) 3 0x03 0x01 0x00 ++ (holds 1 0x33 ∷ [])))
  -- PP: one that changes nothing is a whole cycle, too
  pub pp-nothing : Seen usual (answers (0x02 ∷ 0 ∷ 0 ∷ 0 ∷ 0xFF ∷ []) 0 ∷ cycle [] 3 0x03 0x01 0x00)
  -- SE: five ticks; the byte is the old one up to the last of them
  pub se : Seen usual (answers (0x02 ∷ 0 ∷ 0x04 ∷ 0 ∷ 0 ∷ []) 0 ∷ waits 3 ∷ answers (0x06 ∷ []) 0 ∷ answers (0xD8 ∷ 0 ∷ 0x07 ∷ 0xFF ∷ []) 0 ∷ (cycle (holds 0x400 0x00 ∷ []) 5 0x03 0x01 0x00 ++ (holds 0x400 0xFF ∷ [])))
  -- BE: nine ticks; the byte is the old one up to the last of them
  pub be : Seen usual (answers (0x02 ∷ 0 ∷ 0x0F ∷ 0xFF ∷ 0 ∷ []) 0 ∷ waits 3 ∷ answers (0x06 ∷ []) 0 ∷ answers (0xC7 ∷ []) 0 ∷ (cycle (holds 0xFFF 0x00 ∷ []) 9 0x03 0x01 0x00 ++ (holds 0xFFF 0xFF ∷ [])))
  -- DP: only RES is heard, waiting does not wake, and the latch is kept
  pub dp : Seen usual (answers (0xB9 ∷ []) 0 ∷ answers (0x05 ∷ 0 ∷ []) 13 ∷ waits 9 ∷ answers (0x04 ∷ []) 13 ∷ answers (0xAB ∷ []) 0 ∷ status 0x02 ∷ [])
  pub dp-reset : Seen (bench 0 false false) (answers (0xB9 ∷ []) 0 ∷ answers (0x06 ∷ []) 13 ∷ answers (0xAB ∷ []) 0 ∷ status 0x00 ∷ [])
  -- RES: the signature from byte 4, repeated, in standby and out of deep power-down; with up to four bytes nothing
  pub res : Seen usual (reads (0xAB ∷ 0 ∷ 0 ∷ 0 ∷ 0 ∷ 0 ∷ []) 4 (0x0B ∷ 0x0B ∷ []) ∷ status 0x02 ∷ answers (0xAB ∷ 0 ∷ 0 ∷ 0 ∷ []) 0 ∷ answers (0xAB ∷ 0 ∷ 0 ∷ []) 0 ∷ answers (0xAB ∷ 0 ∷ []) 0 ∷ [])
  pub res-deep : Seen (record_of 0 1 true true Deep) (reads (0xAB ∷ 0 ∷ 0 ∷ 0 ∷ 0 ∷ []) 4 (0x0B ∷ []) ∷ status 0x86 ∷ [])
  -- power-up in mid-cycle completes it; out of deep power-down: BP, SRWD and array kept, latch reset
  pub power-up : Seen (bench 1 true true) (answers (0x02 ∷ 0 ∷ 0 ∷ 0 ∷ 0xAA ∷ []) 0 ∷ status 0x87 ∷ holds 0 0xFF ∷ starts ∷ status 0x84 ∷ holds 0 0xAA ∷ answers (0x06 ∷ []) 0 ∷ answers (0xB9 ∷ []) 0 ∷ starts ∷ status 0x84 ∷ [])
  pub power-up-settings : Seen usual (answers (0x01 ∷ 0x8C ∷ []) 0 ∷ status 0x03 ∷ starts ∷ status 0x8C ∷ waits 2 ∷ status 0x8C ∷ [])
  -- power lost in a program: 0F and F0 over FF at the page's last byte and its first, the mask A1 and 05 there; a second loss, and waiting, change nothing more
  pub loss-program : Seen usual (answers (0x02 ∷ 0 ∷ 0x01 ∷ 0xFF ∷ 0x0F ∷ 0xF0 ∷ []) 0 ∷ waits 2 ∷ tells (chip.loses some_mask true) (bare 0) [] ∷ status 0x00 ∷ holds 0x1FF 0xAF ∷ holds 0x100 0xF5 ∷ holds 0x101 0xFF ∷ holds 0x0FF 0xFF ∷ holds 0x200 0xFF ∷ loses 0xFF false ∷ waits 3 ∷ holds 0x1FF 0xAF ∷ holds 0x100 0xF5 ∷ status 0x00 ∷ [])
  -- in a sector erase over 5A, with 81 in the mask: the sector beside it stays; then in a bulk erase, with 24
  pub loss-erase : Seen usual (answers (0x02 ∷ 0 ∷ 0x07 ∷ 0xFF ∷ 0x5A ∷ []) 0 ∷ waits 3 ∷ answers (0x06 ∷ []) 0 ∷ answers (0x02 ∷ 0 ∷ 0x08 ∷ 0 ∷ 0x5A ∷ []) 0 ∷ waits 3 ∷ answers (0x06 ∷ []) 0 ∷ answers (0xD8 ∷ 0 ∷ 0x04 ∷ 0 ∷ []) 0 ∷ loses 0x81 false ∷ status 0x00 ∷ holds 0x7FF 0xDB ∷ holds 0x800 0x5A ∷ answers (0x06 ∷ []) 0 ∷ answers (0xC7 ∷ []) 0 ∷ waits 8 ∷ loses 0x24 true ∷ status 0x00 ∷ holds 0x7FF 0xFF ∷ holds 0x800 0x7E ∷ [])
  -- in a settings write: absent on no, complete on yes
  pub loss-settings : Seen (bench 1 false true) (answers (0x01 ∷ 0x88 ∷ []) 0 ∷ loses 0x00 false ∷ status 0x04 ∷ waits 2 ∷ status 0x04 ∷ answers (0x06 ∷ []) 0 ∷ answers (0x01 ∷ 0x88 ∷ []) 0 ∷ waits 1 ∷ status 0x05 ∷ loses 0xFF true ∷ status 0x88 ∷ [])
  -- outside a cycle: the latch is reset, deep power-down ends, all else is kept
  pub loss-idle : Seen (bench 1 true true) (loses 0x00 true ∷ status 0x84 ∷ answers (0x06 ∷ []) 0 ∷ answers (0xB9 ∷ []) 0 ∷ loses 0xFF false ∷ status 0x84 ∷ holds 0 0xFF ∷ [])
  -- a mask of another length: 41, and the cycle goes on
  pub loss-refused : Seen usual (answers (0x02 ∷ 0 ∷ 0 ∷ 0 ∷ 0x5A ∷ []) 0 ∷ tells (chip.loses (replicate 257 0x00) true) (bare 41) [] ∷ status 0x03 ∷ holds 0 0xFF ∷ waits 3 ∷ status 0x00 ∷ holds 0 0x5A ∷ tells (chip.loses [] true) (bare 41) [] ∷ [])
  -- refused with 6, 2, 3, 4 or 5: nothing changes
  pub six : handed (bench 4 false true) 4096 (0x04 ∷ []) 2 ≡ refused 6 (bench 4 false true) 4096 2
  pub six-cycle : handed (busy_of 0 0 false true 3 none) 4096 (0x05 ∷ 0 ∷ []) 2 ≡ refused 6 (busy_of 0 0 false true 3 none) 4096 2
  pub two : handed usual 4095 (0x04 ∷ []) 2 ≡ refused 2 usual 4095 2
  pub three : handed usual 4096 (replicate 65537 0x05) 2 ≡ refused 3 usual 4096 2
  pub four : Seen usual (sends true 8 (0x04 ∷ []) (bare 4) (0 ∷ []) ∷ status 0x02 ∷ [])
  pub five : handed usual 4096 (0x05 ∷ 0 ∷ 0 ∷ []) 2 ≡ refused 5 usual 4096 2
  -- ignored: FF in the first n bytes alone; executed: what was driven in the first n alone
  pub ignored : (handed usual 4096 (0x03 ∷ 0 ∷ []) 4).response ≡ 0xFF ∷ 0xFF ∷ 0x55 ∷ 0x55 ∷ []
  pub executed : (handed usual 4096 (0x05 ∷ 0 ∷ []) 4).response ≡ 0xFF ∷ 0x02 ∷ 0x55 ∷ 0x55 ∷ []
  -- in a program: RDSR is executed and 06 ignored; record, cycle and array stay
  pub mid-cycle : handed mid_program 4096 (0x05 ∷ 0 ∷ []) 3 ≡ record { answer = record { number = 0; first = 1; count = 1; missing = 0 }; device = mid_program; array = replicate 4096 0x11; response = 0xFF ∷ 0x03 ∷ 0x55 ∷ [] }
  pub mid-ignored : handed mid_program 4096 (0x06 ∷ []) 3 ≡ record { answer = record { number = 12; first = 0; count = 0; missing = 0 }; device = mid_program; array = replicate 4096 0x11; response = 0xFF ∷ 0x55 ∷ 0x55 ∷ [] }
  -- a program started: the array stays, and the record remembers it
  pub started-program : handed usual 4096 (0x02 ∷ 0xFF ∷ 0xF1 ∷ 0xFF ∷ 0x5A ∷ 0xF0 ∷ []) 6 ≡ record { answer = record { number = 0; first = 0; count = 0; missing = 6 }; device = busy_of 0 0 false true 3 (programming 0x1FF (row 0xF0 0xFF 0xFF 0x5A)); array = replicate 4096 0x11; response = replicate 6 0xFF }

-- computed by the checker
pub calls : Calls
unfolding sees sent map_at window sum_at memory-is.blank memory-is.filled memory-is.programmed memory-is.erased memory-is.cut_page memory-is.cut_sector figures_of protected_of time_number wait_call power_up_call loss_call after_cycle finished lost waited sound status_byte moded latched settled remembering running started ended latch_at row_of address_of host_number in_protected as_needed chip_number decided verdict_of by_row heard heard_row driven lined driving_at first_of count_of no_slots no_cycle page_cycle erase_cycle all_cycle settings_cycle slots_sound cycle_sound cycle_of touched cut missing_of missing missing_at page_of memory-is.reached memory-is.landed ones ones_in bp_in turned outcome_of transacted named_sound locks_sound no_locks protected_at protected_any lock_of unlocked locked powered_up
calls = record {
  wren = refl;
  wrdi = refl;
  rdid = refl;
  rdsr = refl;
  wrsr = refl;
  wrsr-back = refl;
  wrsr-bits = refl;
  wrsr-holds = refl;
  read = refl;
  fast-read = refl;
  pp = refl;
  pp-long = refl;
  pp-alone = refl;
  pp-nothing = refl;
  se = refl;
  be = refl;
  dp = refl;
  dp-reset = refl;
  res = refl;
  res-deep = refl;
  power-up = refl;
  power-up-settings = refl;
  loss-program = refl;
  loss-erase = refl;
  loss-settings = refl;
  loss-idle = refl;
  loss-refused = refl;
  six = refl;
  six-cycle = refl;
  two = refl;
  three = refl;
  four = refl;
  five = refl;
  ignored = refl;
  executed = refl;
  mid-cycle = refl;
  mid-ignored = refl;
  started-program = refl;
}
