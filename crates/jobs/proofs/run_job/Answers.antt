-- `jobs::run_job` meets its contract.
use mathlib.Core.Path.{◌≡◌, refl, sym}
use Prim.Native.Nat.{ℕ}
use Rattle.std.specs.Prelude.{Result, Ok, Err}
use Rattle.refusals.specs.declared.Refusal.{Refusal}
use Rattle.refusals.specs.Numbers.{answer_of}
use Rattle.jobs.proofs.Calls.{job-passes}
use Rattle.jobs.proofs.run_job.Goals as goal

-- what is not refused has the number 0
none : {A : Type 0} {n : ℕ} (r : Result A Refusal) → ((e : Refusal) → r ≡ Err e → ⊥) → answer_of r ≡ n → n ≡ 0
none (Ok a) h e = sym e
none (Err r) h e = absurd (h r refl)

pub returns : goal.returns
returns c =
    let a = c.args in
    let on = c.alone-enabled.ensures in
    let last = c.alone.ensures in
    job-passes a.device a.array.now a.sent.now a.pulses a.w a.response.now c.longest_cycle-longest.result (none c.host_accepts.result c.in_default.not-Err c.host_accepts.ensures)
    c.longest_cycle-longest.ensures on.0 on.1 c.transact-done.ensures c.wait.ensures last.0 last.1
