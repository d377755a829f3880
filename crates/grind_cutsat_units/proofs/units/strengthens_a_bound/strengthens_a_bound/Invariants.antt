use Rattle.std.proofs.Common.{length}
use Rattle.grind_cutsat_units.specs.Strictness.{DifferenceGives}
use Rattle.grind_cutsat_units.specs.Passing.{IsPassed}
use Rattle.grind_cutsat_units.proofs.units.strengthens_a_bound.strengthens_a_bound.Given as goal

abbrev pub invariant-loop-fact : goal.invariant-loop-fact
invariant-loop-fact l = IsPassed (DifferenceGives l.view.terms.now.nodes l.view.facts.now) l.view.facts.now l.rest

abbrev pub decreases-loop-fact : goal.decreases-loop-fact
decreases-loop-fact l = length l.rest
