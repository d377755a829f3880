use Rattle.std.proofs.Common.{drop}
use Rattle.std.specs.Prelude.{Any}
use Rattle.grind_patterns.specs.Patterns.{HasUncovered}
use Rattle.grind_patterns.proofs.terms.+covering.Given as goal

abbrev pub invariant-any_has_uncovered-loop-scheme : goal.invariant-any_has_uncovered-loop-scheme
invariant-any_has_uncovered-loop-scheme l =
    Any (HasUncovered l.fn.terms) l.fn.schemes → Any (HasUncovered l.fn.terms) (drop l.scheme-index l.fn.schemes)
