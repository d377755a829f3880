use Rattle.std.proofs.Common.{◌↔◌, drop}
use Rattle.grind_claims.specs.Claims.{claims_of}
use Rattle.grind_term_rules.specs.TermRules.{SayEqual}
use Rattle.grind_term_rules.proofs.congruence.say_equal.Given as goal

-- what is left says the same as the whole
abbrev pub invariant-loop-premise : goal.invariant-loop-premise
invariant-loop-premise l = SayEqual l.these l.those (claims_of (drop l.premise-index l.fn.premises)) ↔ SayEqual l.fn.left l.fn.right (claims_of l.fn.premises)
