use Rattle.std.proofs.Common.{drop, All}
use Rattle.grind_patterns.specs.Patterns.{IsTerm}
use Rattle.grind_patterns.proofs.terms.+building.Given as goal

abbrev pub invariant-are_terms-loop-scheme : goal.invariant-are_terms-loop-scheme
invariant-are_terms-loop-scheme l = All IsTerm (drop l.scheme-index l.fn.schemes) → All IsTerm l.fn.schemes
