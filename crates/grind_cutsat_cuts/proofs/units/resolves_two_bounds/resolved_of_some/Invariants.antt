use Rattle.std.proofs.Common.{length}
use Rattle.grind_cutsat_units.specs.Passing.{IsPassed}
use Rattle.grind_cutsat_cuts.specs.Resolving.{UpperGives}
use Rattle.grind_cutsat_cuts.proofs.units.resolves_two_bounds.resolved_of_some.Given as goal

abbrev pub invariant-loop-fact : goal.invariant-loop-fact
invariant-loop-fact l = IsPassed (UpperGives l.view.facts.now) l.view.facts.now l.rest

abbrev pub decreases-loop-fact : goal.decreases-loop-fact
decreases-loop-fact l = length l.rest
