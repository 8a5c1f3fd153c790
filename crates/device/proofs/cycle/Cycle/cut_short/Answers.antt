-- `device::cycle::Cycle::cut_short` meets its contract.
use Rattle.slices.proofs.Maps.{map_same}
use borrow.Author.Rules.{rules}
use Rattle.device.specs.Cycles.{cut}
use Rattle.device.proofs.cycle.Cycle.cut_short.Goals as goal

pub returns-in-Idle : goal.returns-in-Idle
unfolding cut
returns-in-Idle c = let same = map_same c.args.array.now in search rules

pub returns-in-Page : goal.returns-in-Page
unfolding cut
returns-in-Page c = search rules

pub returns-in-Sector : goal.returns-in-Sector
unfolding cut
returns-in-Sector c = search rules

pub returns-in-All : goal.returns-in-All
unfolding cut
returns-in-All c = search rules

pub returns-in-PageWrite : goal.returns-in-PageWrite
unfolding cut
returns-in-PageWrite c = search rules

pub returns-in-PageErase : goal.returns-in-PageErase
unfolding cut
returns-in-PageErase c = search rules

pub returns-in-Subsector : goal.returns-in-Subsector
unfolding cut
returns-in-Subsector c = search rules
