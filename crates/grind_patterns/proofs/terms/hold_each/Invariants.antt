use Rattle.std.specs.Prelude.{ℕ, ◌<◌, Any}
use Rattle.grind_schemes.specs.Schemes.{HasVar}
use Rattle.grind_patterns.proofs.terms.hold_each.Given as goal

abbrev pub invariant-loop-variable : goal.invariant-loop-variable
invariant-loop-variable l = (k : ℕ) → k < l.variable → Any (HasVar k) l.fn.schemes
