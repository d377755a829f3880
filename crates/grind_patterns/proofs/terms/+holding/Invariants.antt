use Rattle.std.proofs.Common.{drop}
use Rattle.std.specs.Prelude.{Any}
use Rattle.grind_schemes.specs.Schemes.{HasVar}
use Rattle.grind_patterns.proofs.terms.+holding.Given as goal

abbrev pub invariant-any_has_var-loop-scheme : goal.invariant-any_has_var-loop-scheme
invariant-any_has_var-loop-scheme l =
    Any (HasVar l.fn.variable) l.fn.schemes → Any (HasVar l.fn.variable) (drop l.scheme-index l.fn.schemes)
