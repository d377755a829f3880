use Rattle.std.proofs.Common.{ℕ, All, Contains, length}
use Rattle.grind_claims.specs.Claims.{IsFormed}
use Rattle.grind_cutsat_facts.specs.declared.facts.Fact.{Fact}
use Rattle.grind_cutsat_assignment.specs.Walks.{IsInt}
use Rattle.grind_cutsat_assignment.proofs.ReadingLemmas.{LeavesDiffering}
use Rattle.grind_cutsat_assignment.proofs.readings.add_differing.Given as goal

abbrev pub invariant-loop-fact : goal.invariant-loop-fact
invariant-loop-fact l = record {
  formed : All (λ (fact : Fact). IsFormed l.terms.nodes fact.claim) l.rest;
  ints : All (IsInt l.terms.nodes) l.ids;
  keeps : (n : ℕ) → Contains l.fn.ids n → Contains l.ids n;
  leaves : LeavesDiffering l.fn.facts l.rest l.terms.nodes l.ids;
}

abbrev pub decreases-loop-fact : goal.decreases-loop-fact
decreases-loop-fact l = length l.rest
