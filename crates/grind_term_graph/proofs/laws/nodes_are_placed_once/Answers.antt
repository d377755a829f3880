use Rattle.grind_term_graph.proofs.Placing.{placed-once}
use Rattle.grind_term_graph.proofs.laws.nodes_are_placed_once.Goals as goal

pub returns : goal.returns
returns c = placed-once
