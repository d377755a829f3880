use Rattle.std.proofs.Common.{rules, FitsSigned, to_z, ◌<◌, length, sym, ◌∙◌}
use Rattle.std.specs.Int.{w128}
use Rattle.std.proofs.lemmas.Int.{to_z-of_z}
use Rattle.grind_value_tables.specs.Overflows.{value_of}
use Rattle.grind_value_tables.specs.Evaluations as specs
use Rattle.grind_value_tables.proofs.StepLemmas.{along_step}
use Rattle.grind_value_tables.proofs.evaluation.times_nodes.Goals as goal

pub loop-node-preserved : goal.loop-node-preserved
loop-node-preserved c =
    let back = to_z-of_z w128 c.args.coefficient c.ranges.coefficient in
    let next_fits : FitsSigned w128 c.in-Some-times_node.next = search rules in
    simp (back, to_z-of_z w128 c.in-Some-times_node.next next_fits)
    (along_step (λ n. n < length c.args.list.now) (specs.times_node (value_of c.args.list.now))
    (to_z w128 c.loop-node.product-bits) c.in-Some-times_node.next c.loop-node.rest.now c.in-Some.tail.now c.in-Some.node.now
    (specs.along (specs.times_node (value_of c.args.list.now)) c.args.coefficient c.args.nodes.now) c.in-Some.ensures.cases.0
    (sym c.times_node.ensures ∙ c.in-Some-times_node.is) (simp back at c.loop-node.invariant))
