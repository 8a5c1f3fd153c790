use Rattle.script.proofs.Text.+decimal.Given as goal

-- the number itself falls with each call
abbrev pub decreases-decimal : goal.decreases-decimal
decreases-decimal l = l.n
