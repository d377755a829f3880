use Rattle.grind_term_graph.proofs.Beginnings.{slice_get-grows}
use Rattle.grind_term_graph.proofs.laws.nodes_keep_their_numbers.Goals as goal

pub returns : goal.returns
returns c = slice_get-grows
