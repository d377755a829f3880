use Rattle.std.proofs.Common.{rules, ◌≡◌, Some}
use Rattle.grind_term_graph.specs.Terms.{sort_at}
use Rattle.grind_term_rules.proofs.InstanceWalks.{substitution_goes_on}
use Rattle.grind_term_rules.proofs.instances.is_substitution.Goals as goal

pub loop-node-preserved : goal.loop-node-preserved
loop-node-preserved c =
    let these = c.in-Some.ensures.cases.0 in
    let those = c.in-Some-split_first.ensures.cases.0 in
    let first : sort_at c.args.terms.now.nodes c.in-Some.node.now ≡ Some c.in-Some-split_first.sort.now = search rules in
    substitution_goes_on c.args.terms.now.nodes _ _ _ _ _ _ those these first c.loop-node.invariant
