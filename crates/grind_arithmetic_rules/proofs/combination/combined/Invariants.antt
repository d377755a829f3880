use Rattle.std.proofs.Common.{◌≡◌, drop, pos}
use Rattle.grind_linear_forms.specs.Forms.{number_form}
use Rattle.grind_claims.specs.Claims.{claims_of}
use Rattle.grind_arithmetic_rules.specs.LinearRules.{combined}
use Rattle.grind_arithmetic_rules.proofs.combination.combined.Given as goal

-- what is left, after the sum so far, gives what the whole gives
abbrev pub invariant-loop-premise : goal.invariant-loop-premise
invariant-loop-premise l =
    combined (number_form (pos 0)) l.fn.factors (claims_of l.fn.premises) ≡ combined l.sum l.rest_factors (claims_of (drop l.premise-index l.fn.premises))
