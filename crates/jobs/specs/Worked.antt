-- Lists of jobs on the bench part, computed: programs executed and ignored, an erase between them, two programs on one byte; and one job as a call.
use Rattle.std.specs.Prelude.{◌≡◌, refl, true, false, ◌||◌, List, [], ◌∷◌, ◌++◌, ℕ, ◌≤◌, length, get_or, replicate}
use Rattle.std.proofs.Common.{true≢false, arith, lit≤}
use Rattle.std.specs.Int.Count.{ones_in, ones}
use Rattle.std.proofs.lemmas.List.{length-replicate}
use Rattle.slices.specs.Changed.{map_at, window, sum_at}
use Rattle.memory.specs.Memory.{blank, reached, landed, programmed, erased}
use Rattle.memory.specs.Memory as memory
use Rattle.memory.specs.Missing.{missing_at, missing, page_of}
use Rattle.parts.specs.Parts.{figures_of}
use Rattle.parts.specs.Protected.{protected_of}
use Rattle.device.specs.Locks.{lock_of, locks_sound, no_locks}
use Rattle.device.specs.declared.Mode.TheVariants.{Standby, Busy}
use Rattle.device.specs.declared.Device.{Device}
use Rattle.device.specs.declared.Checked.{Checked}
use Rattle.device.specs.declared.cycle.Kind.TheVariants.{Sector}
use Rattle.device.specs.declared.cycle.Cycle.{Cycle}
use Rattle.device.specs.Device.{sound, status_byte, latch_at, moded, latched, settled, remembering, running, started, ended}
use Rattle.device.specs.Time.{after_cycle, finished, waited, time_number, wait_call}
use Rattle.chip.specs.Table.{row_of, address_of}
use Rattle.chip.specs.Answers.{host_number, chip_number, as_needed, in_protected, decided, verdict_of, protected_any, protected_at}
use Rattle.device.specs.Cycles.{no_slots, no_cycle, page_cycle, erase_cycle, all_cycle, settings_cycle, slots_sound, cycle_sound, touched, named_sound}
use Rattle.chip.specs.Line.{by_row, heard, heard_row, driven, lined, driving_at, first_of, count_of}
use Rattle.chip.specs.Change.{bp_in, cycle_of, missing_of, turned}
use Rattle.chip.specs.Outcome.{Outcome, bare, outcome_of, transacted}
use Rattle.chip.specs.Events.{Chip, sent, run}
use Rattle.jobs.specs.Jobs.{Job, Entry, longest_cycle, enable, carry, after_job, run_jobs, history, is_program, is_erase, is_bulk_erase, AtRest, WellFormed, AllFormed}
use Rattle.jobs.specs.Formula.{after_last_erase, programmed_bytes, ends_as}
use Rattle.jobs.specs.Call.{jobbed}

-- the bench part in standby with BP 1, which protects the sector from 000C00 on; durations 3, 5, 9, 2; every byte 7F
abbrev pub start : Chip
start =
    record {
      device = record { part = 0; bp = 1; srwd = false; latch = false; mode = Standby; program = 3; sector_erase = 5; bulk_erase = 9; write_status = 2; cycle = no_cycle; locks = no_locks };
      array = replicate 4096 0x7F;
    }

-- a job with W low
abbrev pub job : List ℕ → Job
job sent = record { sent = sent; pulses = 0; w₁ = false; w₂ = false; w₃ = false }

-- one byte b programmed at address 00, middle, low
abbrev pub programs : ℕ → ℕ → ℕ → Job
programs middle low b = job (0x02 ∷ 0x00 ∷ middle ∷ low ∷ b ∷ [])

-- two programs hit byte 16, one is in the protected sector, one has no data
abbrev pub first : List Job
first = programs 0x00 0x10 0xF0 ∷ programs 0x00 0x10 0xAA ∷ programs 0x0C 0x00 0x00 ∷ job (0x02 ∷ 0x00 ∷ 0x00 ∷ 0x10 ∷ []) ∷ []

-- the sector of byte 16 is erased, and two programs hit the byte again; a bulk erase with BP above 0 comes last
abbrev pub second : List Job
second = job (0xD8 ∷ 0x00 ∷ 0x00 ∷ 0x00 ∷ []) ∷ programs 0x00 0x10 0x5A ∷ programs 0x00 0x10 0x3C ∷ job (0xC7 ∷ []) ∷ []

-- the answer numbers of a run
abbrev pub numbers : List Entry → List ℕ
numbers [] = []
numbers (r ∷ rs) = r.number ∷ numbers rs

-- the start and the lists are as the theorems ask
pub ready : AtRest start
unfolding sound figures_of no_slots no_cycle slots_sound cycle_sound named_sound locks_sound no_locks
ready = record { good = record { sound = refl; whole = length-replicate {A = ℕ} 4096 0x7F }; standby = refl }

-- a job of at most five bytes is well formed
well : (sent : List ℕ) → is_program (job sent) || is_erase (job sent) ≡ true → (is_bulk_erase (job sent) ≡ false → 4 ≤ length sent) → length sent ≤ 5 → WellFormed (job sent)
well sent k a n = record { kind = k; addressed = a; few = omega arith; pulses = lit≤ tt }

pub formed : AllFormed (first ++ second)
formed = (
  well _ refl (λ h. lit≤ tt) (lit≤ tt),
  (
    well _ refl (λ h. lit≤ tt) (lit≤ tt),
    (
      well _ refl (λ h. lit≤ tt) (lit≤ tt),
      (
        well _ refl (λ h. lit≤ tt) (lit≤ tt),
        (
          well _ refl (λ h. lit≤ tt) (lit≤ tt),
          (
            well _ refl (λ h. lit≤ tt) (lit≤ tt),
            (
              well _ refl (λ h. lit≤ tt) (lit≤ tt),
              (well _ refl (λ h. absurd (true≢false h)) (lit≤ tt), tt),
            ),
          ),
        ),
      ),
    ),
  ),
)

-- what the lists show
pub record Shown : Type 0 where
  -- executed, executed, protected, no data; executed three times, protected
  pub answers : numbers (history (first ++ second) start) ≡ 0 ∷ 0 ∷ 17 ∷ 15 ∷ 0 ∷ 0 ∷ 0 ∷ 17 ∷ []
  -- 7F and F0 and AA; a byte of the protected sector stays
  pub anded : get_or (run_jobs first start).array 16 0 ≡ 0x20
  pub protects : get_or (run_jobs first start).array 0xC00 0 ≡ 0x7F
  -- FF after the erase, and 5A, and 3C; its neighbour stays FF, and the next sector as it was
  pub anew : get_or (run_jobs (first ++ second) start).array 16 0 ≡ 0x18
  pub erases : get_or (run_jobs (first ++ second) start).array 17 0 ≡ 0xFF
  pub keeps : get_or (run_jobs (first ++ second) start).array 1024 0 ≡ 0x7F
  -- the formula's own values
  pub formula-first : ends_as (figures_of 0) 16 (history first start) 0x7F ≡ 0x20
  pub formula : ends_as (figures_of 0) 16 (history (first ++ second) start) 0x7F ≡ 0x18
  pub later : programmed_bytes (figures_of 0) 16 (after_last_erase (figures_of 0) 16 (history (first ++ second) start)) ≡ 0x5A ∷ 0x3C ∷ []
  -- a program and an erase of one sector may not change places
  pub erase-last : get_or (run_jobs (programs 0x00 0x10 0xF0 ∷ job (0xD8 ∷ 0x00 ∷ 0x00 ∷ 0x00 ∷ []) ∷ []) start).array 16 0 ≡ 0xFF
  pub erase-first : get_or (run_jobs (job (0xD8 ∷ 0x00 ∷ 0x00 ∷ 0x00 ∷ []) ∷ programs 0x00 0x10 0xF0 ∷ []) start).array 16 0 ≡ 0xF0

-- computed by the checker
pub shown : Shown
unfolding sent transacted outcome_of verdict_of decided host_number chip_number row_of address_of as_needed in_protected protected_of cycle_of no_slots no_cycle page_cycle erase_cycle all_cycle settings_cycle slots_sound cycle_sound touched turned running started ended remembering moded latched waited finished after_cycle wait_call time_number sound latch_at figures_of map_at programmed erased blank memory.filled reached landed named_sound locks_sound no_locks protected_at protected_any lock_of
shown =
    record { erase-last = refl; erase-first = refl; answers = refl; anded = refl; protects = refl; erases = refl; keeps = refl; anew = refl; later = refl; formula = refl; formula-first = refl }

-- ---- one job as a call

-- a program of F0 at 000010, as a call with further pulses and a response of five bytes, over 7F
abbrev pub called : ℕ → Outcome
called pulses = jobbed start.device start.array (0x02 ∷ 0x00 ∷ 0x00 ∷ 0x10 ∷ 0xF0 ∷ []) pulses false (replicate 5 0x55)

-- what the call shows
pub record Called : Type 0 where
  -- executed, with one bit missing; the record is in standby with its latch reset, as before
  pub executed : (called 0).answer ≡ record { number = 0; first = 0; count = 0; missing = 1 }
  pub byte : get_or (called 0).array 16 0 ≡ 0x70
  pub rests : (called 0).device ≡ start.device
  pub line : (called 0).response ≡ replicate 5 0xFF
  -- one further pulse: ignored with 15, and no bits are missing
  pub ignored : (called 1).answer ≡ bare 15
  pub kept : get_or (called 1).array 16 0 ≡ 0x7F
  pub still : (called 1).device ≡ start.device
  pub silent : (called 1).response ≡ replicate 5 0xFF
  -- eight: refused with 4, and nothing changes
  pub refused : called 8 ≡ record { answer = bare 4; device = start.device; array = replicate 4096 0x7F; response = replicate 5 0x55 }

-- computed by the checker
pub is-called : Called
unfolding jobbed sent transacted outcome_of verdict_of decided host_number chip_number row_of address_of as_needed in_protected protected_of cycle_of no_slots no_cycle page_cycle erase_cycle all_cycle settings_cycle slots_sound cycle_sound touched missing_of missing missing_at page_of ones ones_in turned running started ended remembering moded latched waited finished after_cycle wait_call time_number sound status_byte latch_at figures_of map_at window sum_at programmed erased blank memory.filled reached landed by_row heard heard_row driven lined driving_at first_of count_of named_sound locks_sound no_locks protected_at protected_any lock_of
is-called = record { executed = refl; byte = refl; rests = refl; line = refl; ignored = refl; kept = refl; still = refl; silent = refl; refused = refl }

-- ---- the wait

-- the bench part with BP 0 and these four durations: program, sector erase, bulk erase, write status
abbrev pub lasting : ℕ → ℕ → ℕ → ℕ → Device
lasting p s b w = record { part = 0; bp = 0; srwd = false; latch = false; mode = Standby; program = p; sector_erase = s; bulk_erase = b; write_status = w; cycle = no_cycle; locks = no_locks }

-- the same in a cycle of two ticks or more, latch set, which it remembers
abbrev pub going : ℕ → Cycle → Device → Device
going t c d = record { part = 0; bp = 0; srwd = false; latch = true; mode = Busy t; program = d.program; sector_erase = d.sector_erase; bulk_erase = d.bulk_erase; write_status = d.write_status; cycle = c; locks = no_locks }

-- a program of F0 at 000010: the other slots are FF
abbrev pub slots : List ℕ
slots = replicate 16 0xFF ++ (0xF0 ∷ replicate 239 0xFF)

-- a record beside an array of 7F
abbrev pub chip : Device → Chip
chip d = record { device = d; array = replicate 4096 0x7F }

-- the record after write enable and what the job sends, and the wait on it
abbrev pub carried : Job → Chip → Device
carried j c = (run (enable j ∷ carry j ∷ []) c).device

-- the answer and the record after it
abbrev pub rested : Job → Chip → Checked
rested j c =
    let o = wait_call (run (enable j ∷ carry j ∷ []) c) (longest_cycle c.device) in
    record { answer = o.answer; device = o.chip.device }

-- executed, with a record
abbrev pub done : Device → Checked
done d = record { answer = 0; device = d }

-- the longest duration, a million ticks, in each of the four places, and the shortest
pub record Waits : Type 0 where
  -- the wait is that number
  pub program : longest_cycle (lasting 1000000 5 9 2) ≡ 1000000
  pub sector : longest_cycle (lasting 3 1000000 9 2) ≡ 1000000
  pub bulk : longest_cycle (lasting 3 5 1000000 2) ≡ 1000000
  pub status : longest_cycle (lasting 3 5 9 1000000) ≡ 1000000
  -- the cycle has that many ticks left before it, and is over after it: standby, latch reset
  pub programs-going : carried (programs 0x00 0x10 0xF0) (chip (lasting 1000000 5 9 2)) ≡ going 1000000 (page_cycle 16 slots) (lasting 1000000 5 9 2)
  pub programs-over : rested (programs 0x00 0x10 0xF0) (chip (lasting 1000000 5 9 2)) ≡ done (lasting 1000000 5 9 2)
  pub sector-going : carried (job (0xD8 ∷ 0x00 ∷ 0x00 ∷ 0x00 ∷ [])) (chip (lasting 3 1000000 9 2)) ≡ going 1000000 (erase_cycle Sector 0) (lasting 3 1000000 9 2)
  pub sector-over : rested (job (0xD8 ∷ 0x00 ∷ 0x00 ∷ 0x00 ∷ [])) (chip (lasting 3 1000000 9 2)) ≡ done (lasting 3 1000000 9 2)
  pub bulk-going : carried (job (0xC7 ∷ [])) (chip (lasting 3 5 1000000 2)) ≡ going 1000000 all_cycle (lasting 3 5 1000000 2)
  pub bulk-over : rested (job (0xC7 ∷ [])) (chip (lasting 3 5 1000000 2)) ≡ done (lasting 3 5 1000000 2)
  -- settings, which are no job but wait like one
  pub status-going : carried (job (0x01 ∷ 0x00 ∷ [])) (chip (lasting 3 5 9 1000000)) ≡ going 1000000 (settings_cycle false 0) (lasting 3 5 9 1000000)
  pub status-over : rested (job (0x01 ∷ 0x00 ∷ [])) (chip (lasting 3 5 9 1000000)) ≡ done (lasting 3 5 9 1000000)
  -- a cycle of one tick: the latch is reset before the wait, which ends the cycle as any other
  pub one-going : carried (programs 0x00 0x10 0xF0) (chip (lasting 1 1 1 1)) ≡ record { part = 0; bp = 0; srwd = false; latch = false; mode = Busy 1; program = 1; sector_erase = 1; bulk_erase = 1; write_status = 1; cycle = page_cycle 16 slots; locks = no_locks }
  pub one-over : rested (programs 0x00 0x10 0xF0) (chip (lasting 1 1 1 1)) ≡ done (lasting 1 1 1 1)
  -- after a job that was ignored, 06 is undone by 04
  pub ignored : (after_job (job (0xC7 ∷ 0x00 ∷ [])) (chip (lasting 3 5 9 2))).device ≡ lasting 3 5 9 2

-- computed by the checker
pub waits : Waits
unfolding sent transacted outcome_of verdict_of decided host_number chip_number row_of address_of as_needed in_protected protected_of cycle_of no_slots no_cycle page_cycle erase_cycle all_cycle settings_cycle slots_sound cycle_sound touched turned running started ended remembering moded latched waited finished after_cycle wait_call time_number sound latch_at figures_of map_at programmed erased blank memory.filled reached landed settled bp_in named_sound locks_sound no_locks protected_at protected_any lock_of
waits = record {
  program = refl;
  sector = refl;
  bulk = refl;
  status = refl;
  programs-going = refl;
  programs-over = refl;
  sector-going = refl;
  sector-over = refl;
  bulk-going = refl;
  bulk-over = refl;
  status-going = refl;
  status-over = refl;
  one-going = refl;
  one-over = refl;
  ignored = refl;
}
