-- `run` ends: each turn passes a character at least.
use Rattle.std.proofs.Common.{length}
use Rattle.bus_run.proofs.steps.Two.run.Given as goal

abbrev pub decreases-loop-rest : goal.decreases-loop-rest
decreases-loop-rest g l = length l.rest
