use Rattle.grind_claims.specs.Claims.{claims_of}
use Rattle.grind_arithmetic_rules.proofs.CombineLemmas.{apart_first, apart_second}
use Rattle.grind_arithmetic_rules.proofs.apart.is_apart.Goals as goal

pub returns-then-first : goal.returns-then-first
returns-then-first c =
    apart_first c.args.terms.now.nodes (claims_of c.args.premises.now) c.args.claim.now c.in-Differ.a c.in-Differ.b
    c.in_ok-first.first c.in-Differ.is c.in_ok-first.ensures c.if-first.true

pub returns-else-first : goal.returns-else-first
returns-else-first c =
    apart_second c.args.terms.now.nodes (claims_of c.args.premises.now) c.args.claim.now c.in-Differ.a c.in-Differ.b
    c.in_ok-first.first c.in-Differ.is c.in_ok-first.ensures c.in_ok-second.second c.if-first.false c.in_ok-second.ensures
