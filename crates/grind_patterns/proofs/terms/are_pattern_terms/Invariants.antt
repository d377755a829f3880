use Rattle.std.proofs.Common.{drop, All}
use Rattle.grind_patterns.specs.Patterns.{IsPatternTerm}
use Rattle.grind_patterns.proofs.terms.are_pattern_terms.Given as goal

abbrev pub invariant-loop-scheme : goal.invariant-loop-scheme
invariant-loop-scheme l = All IsPatternTerm (drop l.scheme-index l.fn.schemes) → All IsPatternTerm l.fn.schemes
