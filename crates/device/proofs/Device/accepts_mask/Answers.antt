-- `device::Device::accepts_mask` meets its contract.
use Rattle.device.specs.Time.{mask_number, time_number}
use Rattle.device.proofs.Timed.{time-kept}
use borrow.Author.Rules.{rules}
use Rattle.device.proofs.Device.accepts_mask.Goals as goal

pub returns-in_err-accepts : goal.returns-in_err-accepts
returns-in_err-accepts c =
    let kept = time-kept _ _ (mask_number c.args.mask) _ c.in_err-accepts.ensures in
    search rules

pub returns-then-mask-ne256 : goal.returns-then-mask-ne256
unfolding time_number
returns-then-mask-ne256 c = search rules
