use Rattle.std.proofs.Common.{length}
use Rattle.grind_cutsat_terms.specs.Settling.{ApartGives}
use Rattle.grind_cutsat_units.specs.Passing.{IsPassed}
use Rattle.grind_cutsat_terms.proofs.units.parts_an_equation.parted_by_some.Given as goal

abbrev pub invariant-loop-fact : goal.invariant-loop-fact
invariant-loop-fact l = IsPassed (ApartGives l.view.terms.now.nodes l.sides.left l.sides.right) l.view.facts.now l.rest

abbrev pub decreases-loop-fact : goal.decreases-loop-fact
decreases-loop-fact l = length l.rest
