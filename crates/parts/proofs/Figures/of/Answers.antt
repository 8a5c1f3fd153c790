-- `parts::Figures::of` meets its contract. Assumes nothing.
use borrow.Author.Rules.{rules}
use mathlib.Core.Path.{◌∙◌}
use Rattle.parts.specs.Parts.{figures_of}
use Rattle.parts.proofs.Figures.of.Goals as goal

pub returns-in-1 : goal.returns-in-1
unfolding figures_of
returns-in-1 c = c.figures.ensures ∙ rw c.in-1.is

pub returns-in-2 : goal.returns-in-2
unfolding figures_of
returns-in-2 c = c.figures-in-2.ensures ∙ rw c.in-2.is

pub returns-in-3 : goal.returns-in-3
unfolding figures_of
returns-in-3 c = c.figures-in-3.ensures ∙ rw c.in-3.is

pub returns-in-4 : goal.returns-in-4
unfolding figures_of
returns-in-4 c = c.figures-in-4.ensures ∙ rw c.in-4.is

pub returns-in-5 : goal.returns-in-5
unfolding figures_of
returns-in-5 c = c.figures-in-5.ensures ∙ rw c.in-5.is

pub returns-in-6 : goal.returns-in-6
unfolding figures_of
returns-in-6 c = c.figures-in-6.ensures ∙ rw c.in-6.is

pub returns-in_default : goal.returns-in_default
unfolding figures_of
returns-in_default c = search rules
