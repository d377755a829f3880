use Rattle.std.specs.Prelude.{ℕ, Any}
use Rattle.grind_schemes.specs.Schemes.{HasVar}
use Rattle.grind_patterns.proofs.Along.{below_next}
use Rattle.grind_patterns.proofs.terms.hold_each.Goals as goal

pub loop-variable-preserved : goal.loop-variable-preserved
loop-variable-preserved c =
    below_next (λ (k : ℕ). Any (HasVar k) c.args.schemes.now) c.loop-variable.variable c.loop-variable.invariant
    (c.any_has_var.ensures.0 c.if-not-any_has_var.false)
