use Rattle.grind_truth_tables.proofs.NeededLemmas.{gathering_begins, gathering_goes_on, gathering_ends}
use Rattle.grind_truth_tables.proofs.needed.put_all.Goals as goal

pub loop-node-init : goal.loop-node-init
loop-node-init c = gathering_begins c.args.set.now.keys c.args.nodes.now

pub loop-node-preserved : goal.loop-node-preserved
loop-node-preserved c =
    gathering_goes_on c.args.set.now.keys c.args.nodes.now c.loop-node.rest.now c.in-Some.tail.now c.loop-node.set.keys
    c.put.new.set.keys c.in-Some.node.now c.in-Some.ensures.cases.0 c.in_ok-put.ensures c.loop-node.invariant

pub returns : goal.returns
returns c =
    gathering_ends c.args.set.now.keys c.args.nodes.now c.loop-node.rest.now c.loop-node.set.keys c.in_default.ensures.cases
    c.loop-node.invariant
