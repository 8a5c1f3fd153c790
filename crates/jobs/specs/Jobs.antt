-- Demand 3, 'Call a job': write enable, one program or erase, a wait as long as the longest cycle, write disable.
use Rattle.std.specs.Prelude.{◌≡◌, ◌⊎◌, Bool, true, false, ◌||◌, List, [], ◌∷◌, ℕ, ◌/◌, ◌≤◌, max, eqb, length, get_or}
use Rattle.parts.specs.declared.Figures.{Figures}
use Rattle.device.specs.declared.Mode.TheVariants.{Standby}
use Rattle.device.specs.declared.Device.{Device}
use Rattle.chip.specs.Table.{longest, address_of}
use Rattle.chip.specs.Events.{Chip, Good, Event, sends, waits, after, reply, run}

-- ---- a job and its four calls

-- a job: the bytes and further pulses of its program or erase; the level of W of its three transactions
pub record Job : Type 0 where
  pub sent : List ℕ
  pub pulses : ℕ
  pub w₁ : Bool
  pub w₂ : Bool
  pub w₃ : Bool

-- the greatest of the four durations
abbrev pub longest_cycle : Device → ℕ
longest_cycle d = max (max d.program d.sector_erase) (max d.bulk_erase d.write_status)

-- call 1: write enable, 06 alone, without further pulses
abbrev pub enable : Job → Event
enable j = sends (0x06 ∷ []) 0 j.w₁

-- call 2: the program or erase
abbrev pub carry : Job → Event
carry j = sends j.sent j.pulses j.w₂

-- call 3: the wait, as long as the longest cycle
abbrev pub rest : Device → Event
rest d = waits (longest_cycle d)

-- call 4: write disable, 04 alone, without further pulses
abbrev pub disable : Job → Event
disable j = sends (0x04 ∷ []) 0 j.w₃

-- the calls of a job on a chip with such a record
abbrev pub calls_of : Device → Job → List Event
calls_of d j = enable j ∷ carry j ∷ rest d ∷ disable j ∷ []

-- what a job hands back: each call is on what the one before handed back
abbrev pub after_job : Job → Chip → Chip
after_job j c = run (calls_of c.device j) c

-- the answer number that the job's program or erase gets
abbrev pub answered : Job → Chip → ℕ
answered j c = (reply (carry j) (after (enable j) c)).answer.number

-- ---- a list of jobs

-- one job after the other, each on what the one before handed back
abbrev pub run_jobs : List Job → Chip → Chip
run_jobs [] c = c
run_jobs (j ∷ js) c = run_jobs js (after_job j c)

-- a job that was run, and the answer number that its program or erase got in that run
pub record Entry : Type 0 where
  pub job : Job
  pub number : ℕ

-- what happened in the run
abbrev pub history : List Job → Chip → List Entry
history [] c = []
history (j ∷ js) c = record { job = j; number = answered j c } ∷ history js (after_job j c)

-- ---- what a job is

-- its first byte
abbrev pub code : Job → ℕ
code j = get_or j.sent 0 0

-- a program is code 02
abbrev pub is_program : Job → Bool
is_program j = eqb (code j) 0x02

-- a sector erase is code D8
abbrev pub is_sector_erase : Job → Bool
is_sector_erase j = eqb (code j) 0xD8

-- a bulk erase is code C7
abbrev pub is_bulk_erase : Job → Bool
is_bulk_erase j = eqb (code j) 0xC7

-- an erase is either
abbrev pub is_erase : Job → Bool
is_erase j = is_sector_erase j || is_bulk_erase j

-- its address, modulo the part's size
abbrev pub address : Figures → Job → ℕ
address f j = address_of f j.sent

-- the sector of its address, executed or not
abbrev pub sector : Figures → Job → ℕ
sector f j = address f j / f.sector_bytes

-- ---- where a list starts, and which jobs are well formed

-- standby: a sound record, whatever its latch, and an array of the part's length
pub record AtRest (c : Chip) : Type 0 where
  pub good : Good c
  pub standby : c.device.mode ≡ Standby

-- one program or erase, a program or sector erase with its whole address; and, with the above, no host-side number for any of the four calls: n at most 65,536, further pulses at most 7
pub record WellFormed (j : Job) : Type 0 where
  pub kind : is_program j || is_erase j ≡ true
  pub addressed : is_bulk_erase j ≡ false → 4 ≤ length j.sent
  pub few : length j.sent ≤ longest
  pub pulses : j.pulses ≤ 7

-- every job of a list
abbrev pub AllFormed : List Job → Type 0
AllFormed [] = Unit {0}
AllFormed (j ∷ js) = WellFormed j × AllFormed js

-- ---- what the calls answer

-- the program or erase is executed, or the chip ignores it with 15 or 17
abbrev pub ExecutedOr15Or17 : ℕ → Type 0
ExecutedOr15Or17 k = (k ≡ 0) ⊎ ((k ≡ 15) ⊎ (k ≡ 17))

-- no host-side number answers any of the four calls
pub record Answers (j : Job) (c : Chip) : Type 0 where
  pub enabled : (reply (enable j) c).answer.number ≡ 0
  pub carried : ExecutedOr15Or17 (answered j c)
  pub rested : (reply (rest c.device) (run (enable j ∷ carry j ∷ []) c)).answer.number ≡ 0
  pub disabled : (reply (disable j) (run (enable j ∷ carry j ∷ rest c.device ∷ []) c)).answer.number ≡ 0

-- so for every job of a run
abbrev pub AllAnswer : List Job → Chip → Type 0
AllAnswer [] c = Unit {0}
AllAnswer (j ∷ js) c = Answers j c × AllAnswer js (after_job j c)
