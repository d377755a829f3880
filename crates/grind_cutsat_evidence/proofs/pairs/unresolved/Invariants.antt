use Rattle.std.proofs.Common.{ℕ, length}
use Rattle.grind_cutsat_units.specs.Passing.{IsWithout}
use Rattle.grind_cutsat_evidence.specs.Pairs.{IsUnresolvedBy}
use Rattle.grind_cutsat_evidence.proofs.pairs.unresolved.Given as goal

abbrev pub invariant-loop-fact : goal.invariant-loop-fact
invariant-loop-fact l = IsWithout (λ claim. (below : ℕ) × IsUnresolvedBy l.view.facts.now below claim) l.view.facts.now l.rest

abbrev pub decreases-loop-fact : goal.decreases-loop-fact
decreases-loop-fact l = length l.rest
