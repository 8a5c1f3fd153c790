-- `m25p::m25p_power_up` meets its contract.
use Rattle.std.proofs.Common.{rules}
use Rattle.device.specs.Time.{power_up_call}
use Rattle.chip.proofs.Records.{power-up-sound}
use Rattle.m25p.proofs.m25p_power_up.Goals as goal

pub returns : goal.returns
returns c = c.timed.ensures power_up_call (λ d p r q m. search rules) power-up-sound
