use Rattle.grind_term_graph.proofs.Beginnings.{BeginsWith-take, BeginsWith-of_take}
use Rattle.grind_term_graph.proofs.laws.begins_by_its_first_nodes.Goals as goal

pub returns : goal.returns
returns c = λ front whole. (BeginsWith-take front whole, BeginsWith-of_take front whole)
