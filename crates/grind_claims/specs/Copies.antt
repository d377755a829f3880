-- A word for the copies of rules. No public clause cites it.
use Rattle.grind_claims.specs.declared.proof.Rule.{Rule}
use Rattle.grind_claims.specs.declared.proof.Rule.TheVariants as rules

-- a rule over forms or polynomials, or `clash`
abbrev pub IsArithmetic : Rule → Type 0
IsArithmetic rules.Read = Unit {0}
IsArithmetic rules.Write = Unit {0}
IsArithmetic rules.Line = Unit {0}
IsArithmetic rules.Poly = Unit {0}
IsArithmetic (rules.Combine divisor factors) = Unit {0}
IsArithmetic rules.Pinch = Unit {0}
IsArithmetic rules.Strict = Unit {0}
IsArithmetic rules.Apart = Unit {0}
IsArithmetic (rules.Ideal divisor factors) = Unit {0}
IsArithmetic rules.Equal = Unit {0}
IsArithmetic rules.Clash = Unit {0}
IsArithmetic _ = ⊥
