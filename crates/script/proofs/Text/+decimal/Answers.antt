-- `Text::decimal` meets its contract: by recursion on the number, which falls with each call.
use Rattle.std.proofs.Common.{◌≡◌, ◌%◌, arith}
use Rattle.script.proofs.Printing.{printed_then, decimal-one, decimal-more}
use Rattle.script.proofs.Text.+decimal.Goals as goal
use Rattle.script.proofs.Text.+decimal.Goals.{then-n-ge10, else-n-ge10}

pub returns-clause-printed : goal.returns-clause-printed
returns-clause-printed t c =
    elim c.if-n-ge10.branch [
      | then-n-ge10 w ↦ rw (decimal-more c.args.n w.if-n-ge10.true) (printed_then w.decimal.ensures.printed (rw (← w.self-is) c.push.ensures.printed))
      | else-n-ge10 w ↦ rw (decimal-one c.args.n w.if-n-ge10.false, ← w.self-is) (let z : c.args.n % 10 ≡ c.args.n = omega arith in rw z at c.push.ensures.printed)
    ]
