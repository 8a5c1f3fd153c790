-- `m25p::m25p_loss` meets its contract.
use Rattle.std.proofs.Common.{rules}
use Rattle.device.specs.Time.{loss_call}
use Rattle.chip.proofs.Records.{loss-sound}
use Rattle.m25p.specs.Calls.{high}
use Rattle.m25p.proofs.m25p_loss.Goals as goal

pub returns : goal.returns
returns c = c.timed.ensures (λ x. loss_call x c.args.mask.now (high c.args.yes)) (λ d p r q m. search rules) (λ x. loss-sound x c.args.mask.now (high c.args.yes))
