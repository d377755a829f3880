use Rattle.std.proofs.Common.{rules, FitsSigned}
use Rattle.std.proofs.lemmas.Int.{to_z-of_z}
use Rattle.std.specs.Int.{w128}
use Rattle.grind_value_tables.specs.Overflows.{value_of}
use Rattle.grind_value_tables.proofs.KeptNodes.{keeps_iff}
use Rattle.grind_value_tables.proofs.keeping.keeps_at.Goals as goal

pub returns-clause-exact : goal.returns-clause-exact
returns-clause-exact c =
    let fits : FitsSigned w128 c.value-given.result = search rules in
    keeps_iff c.args.terms.now.nodes (value_of c.args.list.now) c.args.number c.new.result c.new-2.result
    c.node-node.result.now c.as_slice.result.now c.value-given.result c.agrees_before.result
    c.new.ensures c.new-2.ensures c.node-node.ensures.value c.as_slice.ensures.value c.value-given.ensures
    (simp (to_z-of_z w128 c.value-given.result fits) at (c.in_ok-means.ensures.exact.0 c.if-not-branch.false))
    (simp (to_z-of_z w128 c.value-given.result fits) at (c.suits_sort.ensures.0 c.if-not-suits_sort.false))
    c.agrees_before.ensures
