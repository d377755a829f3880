use Rattle.grind_term_graph.proofs.Beginnings.{BeginsWith-trans}
use Rattle.grind_term_graph.proofs.laws.beginnings_chain.Goals as goal

pub returns : goal.returns
returns c = BeginsWith-trans
