use Rattle.grind_term_graph.proofs.Placing.{IfSome-found, IfSome-placed, IsSome-found}
use Rattle.grind_term_graph.proofs.table.position.Goals as goal

pub returns-clause-placed : goal.returns-clause-placed
returns-clause-placed c =
    IfSome-placed c.args.nodes.now.keys c.args.node.now c.get_index_of.result c.get_index_of.ensures.index

pub returns-clause-stored : goal.returns-clause-stored
returns-clause-stored c =
    IfSome-found c.args.nodes.now.keys c.args.node.now c.get_index_of.result c.get_index_of.ensures.index

pub returns-clause-present : goal.returns-clause-present
returns-clause-present c =
    IsSome-found c.args.nodes.now.keys c.args.node.now c.get_index_of.result c.get_index_of.ensures.found
