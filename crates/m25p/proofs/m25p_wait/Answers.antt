-- `m25p::m25p_wait` meets its contract.
use Rattle.std.proofs.Common.{rules}
use Rattle.device.specs.Time.{wait_call}
use Rattle.chip.proofs.Records.{wait-sound}
use Rattle.m25p.proofs.m25p_wait.Goals as goal

pub returns : goal.returns
returns c = c.timed.ensures (λ x. wait_call x c.args.ticks) (λ d p r q m. search rules) (λ x. wait-sound x c.args.ticks)
