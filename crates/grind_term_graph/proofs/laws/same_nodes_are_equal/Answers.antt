use Rattle.grind_term_graph.proofs.Nodes.{same_node-decides}
use Rattle.grind_term_graph.proofs.laws.same_nodes_are_equal.Goals as goal

pub returns : goal.returns
returns c = same_node-decides
