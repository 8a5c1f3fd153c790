-- One job as a call: what its steps give, and that it is the job of the theorems.
-- Assumes nothing.
use mathlib.Core.Path.{◌≡◌, ◌∙◌}
use mathlib.Core.Bool.{Bool}
use mathlib.Core.List.{List}
use Prim.Native.Nat.{ℕ, ◌≤◌}
use lib.ListN.{length}
use Rattle.device.specs.declared.Device.{Device}
use Rattle.device.specs.declared.Checked.{Checked}
use Rattle.device.specs.Chip.{chip}
use Rattle.device.specs.Time.{Handed, wait_call}
use Rattle.chip.specs.declared.Answer.{Answer}
use Rattle.chip.specs.Answers.{host_number}
use Rattle.chip.specs.Outcome.{Outcome, Transacted}
use Rattle.chip.specs.Events.{Chip, after, reply}
use Rattle.chip.proofs.Events.{no-refusal, sent-room}
use Rattle.jobs.specs.Jobs.{Job, longest_cycle, enable, carry, after_job, AtRest, WellFormed}
use Rattle.jobs.specs.Call.{job_of, jobbed, Jobbed, alone}

module _ (d : Device) (xs sent : List ℕ) (p : ℕ) (w : Bool) (r : List ℕ) where
  -- none: the four calls, one after the other
  pub job-passes : {on : Device} {ys : List ℕ} {a : Answer} {going : Device} {zs r' : List ℕ} {rest : Checked} {us : List ℕ} {next : Device} {end : List ℕ} (t : ℕ)
      → host_number d (length xs) (length sent) p (length r) ≡ 0 → t ≡ longest_cycle d
      → on ≡ (alone d xs 0x06 w).device → ys ≡ (alone d xs 0x06 w).array
      → Transacted on ys sent p w r a going zs r'
      → Handed (wait_call (chip going zs) t) rest us
      → next ≡ (alone rest.device us 0x04 w).device → end ≡ (alone rest.device us 0x04 w).array
      → Jobbed d xs sent p w r a next end r'
  unfolding jobbed
  job-passes t h et eo ey m er en ee =
      rw h (record {
        answer = m.answer ∙ rw (eo, ey);
        device = en ∙ rw (er.device, er.memory, m.device, m.memory, et, eo, ey);
        memory = ee ∙ rw (er.device, er.memory, m.device, m.memory, et, eo, ey);
        line = m.line ∙ rw (eo, ey);
      })

-- from standby the call of a well-formed job, with room for its response, is the job of the theorems: the answer of its program or erase, bits missing among it, record and array
pub record IsJob (o : Outcome) (j : Job) (c : Chip) : Type 0 where
  pub answer : o.answer ≡ (reply (carry j) (after (enable j) c)).answer
  pub device : o.device ≡ (after_job j c).device
  pub array : o.array ≡ (after_job j c).array

pub job-call : (c : Chip) → AtRest c → (sent : List ℕ) (p : ℕ) (w : Bool) (r : List ℕ) → WellFormed (job_of sent p w) → length sent ≤ length r
    → IsJob (jobbed c.device c.array sent p w r) (job_of sent p w) c
unfolding jobbed
job-call c s sent p w r f room =
    let j = job_of sent p w in
    let e = sent-room (after (enable j) c) sent p w r room in
    rw (no-refusal c.device (length c.array) (length sent) p (length r) s.good.sound s.good.whole f.few f.pulses room)
    (record { answer = e.0; device = rw (e.1, e.2); array = rw (e.1, e.2) })
