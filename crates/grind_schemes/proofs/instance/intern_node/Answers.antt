use Rattle.std.specs.Prelude.{◌<◌, ℕ, List, length}
use Rattle.std.proofs.Common.{subst, sym}
use Rattle.grind_term_graph.specs.Terms.{Terms}
use Rattle.grind_term_graph.specs.Placed.{placed}
use Rattle.grind_term_graph.proofs.Placing.{placed-grows}
use Rattle.grind_schemes.specs.Instances.{node_of, IsUnderway}
use Rattle.grind_schemes.proofs.InstanceLemmas.{IsUnderway-stays, over_when_full}
use Rattle.grind_schemes.proofs.instance.intern_node.Goals as goal

pub returns-in_err-args-clause-underway : goal.returns-in_err-args-clause-underway
returns-in_err-args-clause-underway c =
    let node = node_of c.args.head c.args.sort c.args.ids.now in
    IsUnderway-stays c.args.table.now (placed c.args.table.now.nodes node).0 (placed-grows c.args.table.now.nodes node)

pub returns-in-Err-clause-full : goal.returns-in-Err-clause-full
returns-in-Err-clause-full c = λ full.
    let nodes = c.args.table.now.nodes in
    let refused = c.in-Err.ensures.full.0 full in
    subst (λ (args : List ℕ). c.args.table.now.limit < length (placed nodes (node_of c.args.head c.args.sort args)).0)
    c.in_ok-args.ensures.ok
    (over_when_full nodes (node_of c.args.head c.args.sort c.in_ok-args.args) c.args.table.now.limit refused.0 refused.1)

pub returns-in-Err-clause-underway : goal.returns-in-Err-clause-underway
returns-in-Err-clause-underway c =
    let node = node_of c.args.head c.args.sort c.args.ids.now in
    subst (λ (after : Terms). IsUnderway c.args.table.now after (placed c.args.table.now.nodes node).0)
    (sym c.in-Err.ensures.err)
    (IsUnderway-stays c.args.table.now (placed c.args.table.now.nodes node).0 (placed-grows c.args.table.now.nodes node))
