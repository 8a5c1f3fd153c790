-- `chip::line::put_driven` meets its contract.
use mathlib.Core.Path.{◌∙◌, ap}
use Rattle.slices.specs.Changed.{map_at}
use Rattle.slices.proofs.Maps.{map-then}
use Rattle.chip.proofs.line.put_driven.Goals as goal

pub returns-in-Identification : goal.returns-in-Identification
returns-in-Identification c =
    c.copy.ensures ∙ (ap (map_at _) c.fill-in-Identification.ensures ∙ (map-then _ _ _ ∙ rw (c.identification.ensures, c.in-Identification.is)))
