use Rattle.grind_term_rules.proofs.InstanceWalks.{through_node, through_none}
use Rattle.grind_term_rules.proofs.instances.+matching.Goals as goal

pub is_instance-returns-in_default : goal.is_instance-returns-in_default
is_instance-returns-in_default t c =
    through_none c.args.terms.now.nodes c.args.subst.now c.in-Apply.head c.in-Apply.sort c.in-Apply.args c.args.scheme.now
    c.args.id c.in-Apply.is c.in_default.ensures.none

pub is_instance-returns-in-Some : goal.is_instance-returns-in-Some
is_instance-returns-in-Some t c =
    through_node c.args.terms.now.nodes c.args.subst.now c.are_instances.result c.in-Apply.head c.in-Apply.sort c.in-Apply.args
    c.args.scheme.now c.deref.result.now c.in-Some.ids.now c.args.id c.in-Apply.is c.deref.ensures.value c.in-Some.ensures.some
    c.are_instances.ensures
