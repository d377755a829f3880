use Rattle.grind_ring_solver.proofs.TypedLemmas.{joining_typed}
use Rattle.grind_ring_solver.proofs.laws.joining_lines_are_typed.Goals as goal

pub returns : goal.returns
returns c = joining_typed
