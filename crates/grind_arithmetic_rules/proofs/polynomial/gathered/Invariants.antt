use Rattle.std.proofs.Common.{◌≡◌, [], drop}
use Rattle.grind_claims.specs.Claims.{claims_of}
use Rattle.grind_arithmetic_rules.specs.PolyRules.{gathered}
use Rattle.grind_arithmetic_rules.proofs.polynomial.gathered.Given as goal

-- what is left, after the sum so far, gives what the whole gives
abbrev pub invariant-loop-premise : goal.invariant-loop-premise
invariant-loop-premise l =
    gathered [] l.fn.factors (claims_of l.fn.premises) ≡ gathered l.sum l.rest_factors (claims_of (drop l.premise-index l.fn.premises))
