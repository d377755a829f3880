use Rattle.std.proofs.Common.{length}
use Rattle.grind_cutsat_terms.specs.Settling.{WriteGives}
use Rattle.grind_cutsat_units.specs.Passing.{IsPassed}
use Rattle.grind_cutsat_terms.proofs.units.settles_a_comparison.written_from_some.Given as goal

abbrev pub invariant-loop-fact : goal.invariant-loop-fact
invariant-loop-fact l = IsPassed (WriteGives l.view.terms.now.nodes l.literal) l.view.facts.now l.rest

abbrev pub decreases-loop-fact : goal.decreases-loop-fact
decreases-loop-fact l = length l.rest
