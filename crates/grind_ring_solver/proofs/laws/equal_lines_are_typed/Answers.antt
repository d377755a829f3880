use Rattle.grind_ring_solver.proofs.TypedLemmas.{equal_typed}
use Rattle.grind_ring_solver.proofs.laws.equal_lines_are_typed.Goals as goal

pub returns : goal.returns
returns c = equal_typed
