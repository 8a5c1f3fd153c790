-- The whole outcome of a transaction and of a delivery, and what the calls promise.
use Rattle.std.specs.Prelude.{◌≡◌, Bool, List, ℕ, length}
use Rattle.slices.specs.Changed.{map_at, window, put}
use Rattle.parts.specs.Parts.{figures_of}
use Rattle.device.specs.declared.Device.{Device}
use Rattle.device.specs.declared.Checked.{Checked}
use Rattle.device.specs.Device.{on_zero, zero_record, delivered}
use Rattle.chip.specs.declared.answers.Verdict.{Verdict}
use Rattle.chip.specs.declared.answers.Verdict.TheVariants.{Refused, Ignored, Executed}
use Rattle.chip.specs.declared.Answer.{Answer}
use Rattle.chip.specs.declared.Done.{Done}
use Rattle.chip.specs.declared.table.Instruction.{Instruction}
use Rattle.chip.specs.declared.line.Span.{Span}
use Rattle.chip.specs.Table.{address_of, row_in}
use Rattle.chip.specs.Answers.{delivery_answer, verdict_of}
use Rattle.chip.specs.Line.{lined, first_of, count_of}
use Rattle.chip.specs.Change.{missing_of, turned}

-- ---- a transaction

-- the answer, the record, and every byte of array and response
pub record Outcome : Type 0 where
  pub answer : Answer
  pub device : Device
  pub array : List ℕ
  pub response : List ℕ

-- an answer with nothing driven and no bits missing
abbrev pub bare : ℕ → Answer
bare k = record { number = k; first = 0; count = 0; missing = 0 }

-- an executed transaction's answer and next record, as the code makes them: from where something is driven, and from the bits missing
abbrev pub executed_with : Device → Instruction → Span → ℕ → List ℕ → Done
executed_with d i s missing sent =
    record { answer = record { number = 0; first = s.first; count = s.count; missing = missing }; device = turned i.row.turn i.figures d i.address sent }

-- refused: record, array and response unchanged. Ignored: record and array stay, the first n response bytes are FF. Executed: answer 0, and what the instruction does; the array stays here too, until the cycle ends
unfoldable pub outcome_of : Verdict → Device → List ℕ → List ℕ → List ℕ → Outcome
outcome_of (Refused k) d array sent response = record { answer = bare k; device = d; array = array; response = response }
outcome_of (Ignored k) d array sent response =
    record { answer = bare k; device = d; array = array; response = map_at (window 0 (length sent) (put 255)) response }
outcome_of Executed d array sent response =
    record {
      answer =
          record {
            number = 0;
            first = first_of d array sent;
            count = count_of d array sent;
            missing = missing_of (row_in d sent).turn (address_of (figures_of d.part) sent) sent array;
          };
      device = turned (row_in d sent).turn (figures_of d.part) d (address_of (figures_of d.part) sent) sent;
      array = array;
      response = map_at (lined d array sent) response;
    }

-- a transaction: record, array, bytes sent, further pulses, level of W, response
unfoldable pub transacted : Device → List ℕ → List ℕ → ℕ → Bool → List ℕ → Outcome
transacted d array sent pulses w response =
    outcome_of (verdict_of d (length array) sent pulses w (length response)) d array sent response

-- an answer, a next record, and the array and the response as they are handed back, that are those of an outcome
pub record Meets (o : Outcome) (a : Answer) (next : Device) (array' response' : List ℕ) : Type 0 where
  pub answer : a ≡ o.answer
  pub device : next ≡ o.device
  pub memory : array' ≡ o.array
  pub line : response' ≡ o.response

-- what a transaction call promises
abbrev pub Transacted : Device → List ℕ → List ℕ → ℕ → Bool → List ℕ → Answer → Device → List ℕ → List ℕ → Type 0
Transacted d array sent pulses w response = Meets (transacted d array sent pulses w response)

-- ---- a transaction foreseen

-- number, first, count and next record of a transaction, whatever bytes stand in an array and a response of these lengths; the bits missing are the array's to tell, and the answer has none
pub record Foreseen (d : Device) (array : ℕ) (sent : List ℕ) (pulses : ℕ) (w : Bool) (response : ℕ) (a : Answer) (next : Device) : Type 0 where
  pub number : (xs r : List ℕ) → length xs ≡ array → length r ≡ response → a.number ≡ (transacted d xs sent pulses w r).answer.number
  pub first : (xs r : List ℕ) → length xs ≡ array → length r ≡ response → a.first ≡ (transacted d xs sent pulses w r).answer.first
  pub count : (xs r : List ℕ) → length xs ≡ array → length r ≡ response → a.count ≡ (transacted d xs sent pulses w r).answer.count
  pub missing : a.missing ≡ 0
  pub device : (xs r : List ℕ) → length xs ≡ array → length r ≡ response → next ≡ (transacted d xs sent pulses w r).device

-- ---- a delivery

-- what a delivery promises: executed, the record as delivered and the array all FF; refused, the all-zero record and the array as it was
pub record Delivered (part : ℕ) (array : List ℕ) (program sector bulk status : ℕ) (r : Checked) (array' : List ℕ) : Type 0 where
  pub answer : r.answer ≡ delivery_answer part (length array) program sector bulk status
  pub device : r.device ≡ on_zero (delivery_answer part (length array) program sector bulk status) (delivered part program sector bulk status) zero_record
  pub memory : array' ≡ on_zero (delivery_answer part (length array) program sector bulk status) (map_at (put 255) array) array
