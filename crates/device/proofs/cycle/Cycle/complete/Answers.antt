-- `device::cycle::Cycle::complete` meets its contract.
use Rattle.slices.proofs.Maps.{map_same}
use borrow.Author.Rules.{rules}
use Rattle.device.specs.Cycles.{touched}
use Rattle.device.proofs.cycle.Cycle.complete.Goals as goal

pub returns-in-Idle : goal.returns-in-Idle
unfolding touched
returns-in-Idle c = let same = map_same c.args.array.now in search rules

pub returns-in-Page : goal.returns-in-Page
unfolding touched
returns-in-Page c = search rules

pub returns-in-Sector : goal.returns-in-Sector
unfolding touched
returns-in-Sector c = search rules

pub returns-in-All : goal.returns-in-All
unfolding touched
returns-in-All c = search rules

pub returns-in-PageWrite : goal.returns-in-PageWrite
unfolding touched
returns-in-PageWrite c = search rules

pub returns-in-PageErase : goal.returns-in-PageErase
unfolding touched
returns-in-PageErase c = search rules

pub returns-in-Subsector : goal.returns-in-Subsector
unfolding touched
returns-in-Subsector c = search rules
