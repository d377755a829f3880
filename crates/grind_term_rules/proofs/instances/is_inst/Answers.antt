use Rattle.grind_claims.specs.Claims.{claims_of}
use Rattle.grind_term_rules.proofs.RuleLemmas.{inst_by_body}
use Rattle.grind_term_rules.proofs.instances.is_inst.Goals as goal

pub returns : goal.returns
returns c =
    inst_by_body c.args.setting.now.lemmas.now c.args.setting.now.terms.now.nodes c.args.theorem c.args.subst.now
    (claims_of c.args.premises.now) c.args.claim.now c.in-Some.theorem.now _ c.is_body_at.result
    (c.has_none.ensures.0 c.if-not-has_none.false) c.in-Holds.is c.in-Some.ensures.some c.is_body_at.ensures
