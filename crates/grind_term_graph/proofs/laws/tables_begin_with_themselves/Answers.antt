use Rattle.grind_term_graph.proofs.Beginnings.{BeginsWith-refl}
use Rattle.grind_term_graph.proofs.laws.tables_begin_with_themselves.Goals as goal

pub returns : goal.returns
returns c = BeginsWith-refl
