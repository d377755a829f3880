use Rattle.std.proofs.Common.{ℕ, length}
use Rattle.grind_cutsat_bounds.specs.Evaluations.{value_of}
use Rattle.grind_cutsat_assignment.specs.Given.{SaysDiffer}
use Rattle.grind_cutsat_assignment.specs.Judgements.{AreReadFor, NoneSaysOf, AreUnfit}
use Rattle.grind_cutsat_assignment.proofs.differences.first_unfit.Given as goal

abbrev pub invariant-loop-fact : goal.invariant-loop-fact
invariant-loop-fact l = record {
  read : AreReadFor l.readings.terms.now.nodes l.readings.forms.now l.rest;
  within : (post a b : ℕ) → SaysDiffer l.rest l.readings.terms.now.nodes post a b → SaysDiffer l.fn.facts l.readings.terms.now.nodes post a b;
  none : NoneSaysOf l.rest l.readings.terms.now.nodes (AreUnfit l.readings.terms.now.nodes (value_of l.values))
      → NoneSaysOf l.fn.facts l.readings.terms.now.nodes (AreUnfit l.readings.terms.now.nodes (value_of l.values));
}

abbrev pub decreases-loop-fact : goal.decreases-loop-fact
decreases-loop-fact l = length l.rest
