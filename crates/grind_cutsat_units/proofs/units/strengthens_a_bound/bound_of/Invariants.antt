use Rattle.std.proofs.Common.{length}
use Rattle.grind_cutsat_units.specs.Strictness.{BoundGives}
use Rattle.grind_cutsat_units.specs.Passing.{IsPassed}
use Rattle.grind_cutsat_units.proofs.units.strengthens_a_bound.bound_of.Given as goal

abbrev pub invariant-loop-fact : goal.invariant-loop-fact
invariant-loop-fact l = IsPassed (BoundGives l.view.terms.now.nodes l.view.facts.now l.sides.left l.sides.right) l.view.facts.now l.rest

abbrev pub decreases-loop-fact : goal.decreases-loop-fact
decreases-loop-fact l = length l.rest
