use Rattle.std.proofs.Common.{All, length}
use Rattle.grind_claims.specs.Claims.{IsFormed}
use Rattle.grind_cutsat_facts.specs.declared.facts.Fact.{Fact}
use Rattle.grind_cutsat_assignment.specs.Assignments.{chosen_value}
use Rattle.grind_cutsat_assignment.specs.Judgements.{AreApart}
use Rattle.grind_cutsat_splits.specs.Judging.{PartsOnly, AreFit, EachFact, IsPassing}
use Rattle.grind_cutsat_splits.proofs.judging.first_split.Given as goal

abbrev pub invariant-loop-fact : goal.invariant-loop-fact
invariant-loop-fact l = record {
  formed : All (λ (fact : Fact). IsFormed l.scene.terms.now.nodes fact.claim) l.rest;
  passed : IsPassing (PartsOnly l.scene.terms.now.nodes (AreApart l.scene.terms.now.nodes (chosen_value l.scene.values.now))) l.fn.facts l.rest;
  fit : EachFact l.fn.facts (PartsOnly l.scene.terms.now.nodes (AreFit l.scene.terms.now.nodes (chosen_value l.scene.values.now)));
}

abbrev pub decreases-loop-fact : goal.decreases-loop-fact
decreases-loop-fact l = length l.rest
