-- One job as a call of its own: the host's checks first, then the four calls in order.
use Rattle.std.specs.Prelude.{Bool, List, [], ◌∷◌, ℕ, length}
use Rattle.slices.specs.Chosen.{on_zero}
use Rattle.device.specs.declared.Device.{Device}
use Rattle.chip.specs.declared.answers.Verdict.TheVariants.{Refused}
use Rattle.chip.specs.declared.Answer.{Answer}
use Rattle.chip.specs.Answers.{host_number}
use Rattle.chip.specs.Outcome.{Outcome, outcome_of, Meets, transacted}
use Rattle.chip.specs.Events.{Chip, sends, after, run}
use Rattle.jobs.specs.Jobs.{Job, enable, rest, disable}

-- the job of a call: one level of W
abbrev pub job_of : List ℕ → ℕ → Bool → Job
job_of sent pulses w = record { sent = sent; pulses = pulses; w₁ = w; w₂ = w; w₃ = w }

-- the program or erase, after write enable, with the response that was lent
abbrev pub carried_with : Job → List ℕ → Chip → Outcome
carried_with j response c = transacted (after (enable j) c).device (after (enable j) c).array j.sent j.pulses j.w₂ response

-- the wait and write disable, on what the program or erase handed back; d is the record before the job
abbrev pub ended_after : Job → Device → Outcome → Chip
ended_after j d o = run (rest d ∷ disable j ∷ []) (record { device = o.device; array = o.array })

-- the four calls in order: answer and response are those of the program or erase, record and array those that the last call hands back
abbrev pub four_calls : Job → List ℕ → Chip → Outcome
four_calls j response c =
    record {
      answer = (carried_with j response c).answer;
      device = (ended_after j c.device (carried_with j response c)).device;
      array = (ended_after j c.device (carried_with j response c)).array;
      response = (carried_with j response c).response;
    }

-- a job: record, array, bytes of the program or erase, further pulses, level of W, response; a host-side number changes nothing
unfoldable pub jobbed : Device → List ℕ → List ℕ → ℕ → Bool → List ℕ → Outcome
jobbed d array sent pulses w response =
    let host = host_number d (length array) (length sent) pulses (length response) in
    on_zero host (four_calls (job_of sent pulses w) response (record { device = d; array = array })) (outcome_of (Refused host) d array sent response)

-- what a job call promises
abbrev pub Jobbed : Device → List ℕ → List ℕ → ℕ → Bool → List ℕ → Answer → Device → List ℕ → List ℕ → Type 0
Jobbed d array sent pulses w response = Meets (jobbed d array sent pulses w response)

-- an instruction of one byte alone, without further pulses
abbrev pub alone : Device → List ℕ → ℕ → Bool → Chip
alone d array b w = after (sends (b ∷ []) 0 w) (record { device = d; array = array })
