-- The C call of a report: 8 or 6 of the packing, else what the report answers, and every byte of record, array and the three buffers.
use Rattle.std.specs.Prelude.{◌≡◌, List, ℕ, length}
use Rattle.device.specs.Device.{on_zero}
use Rattle.device.specs.Packing.{unpack_answer, unpack_of}
use Rattle.chip.specs.Outcome.{bare}
use Rattle.report.specs.Report.{report_number, Out, reported}
use Rattle.m25p.specs.Calls.{packed_answer, packed_by}

-- the number: 8, 6, 2, 9, 10, 71, or 0
unfoldable pub report_c : List ℕ → List ℕ → List ℕ → ℕ → ℕ → List ℕ → ℕ
report_c packed array items responses answers totals = on_zero (unpack_answer packed) (report_number (unpack_of packed).device array items responses answers totals) (unpack_answer packed)

-- what is left of the unpacked record beside the array, and of the buffers
unfoldable pub reported_c : List ℕ → List ℕ → List ℕ → List ℕ → List ℕ → List ℕ → Out
reported_c packed array items responses answers totals = reported (report_c packed array items (length responses) (length answers) totals) (unpack_of packed).device array items responses answers totals

-- what the call promises of its answer and of the bytes as they are handed back
pub record ReportedC (packed array items responses answers totals : List ℕ) (r : ℕ) (packed' array' responses' answers' totals' : List ℕ) : Type 0 where
  pub answer : r ≡ packed_answer (bare (report_c packed array items (length responses) (length answers) totals))
  pub bytes : packed' ≡ packed_by (report_c packed array items (length responses) (length answers) totals) (reported_c packed array items responses answers totals).chip.device packed
  pub memory : array' ≡ (reported_c packed array items responses answers totals).chip.array
  pub lines : responses' ≡ (reported_c packed array items responses answers totals).responses
  pub numbers : answers' ≡ (reported_c packed array items responses answers totals).answers
  pub sums : totals' ≡ (reported_c packed array items responses answers totals).totals
