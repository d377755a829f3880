use Rattle.grind_ring_solver.proofs.RestLemmas.{equal_forms_are_joined}
use Rattle.grind_ring_solver.proofs.laws.equal_forms_are_joined.Goals as goal

pub returns : goal.returns
returns c = equal_forms_are_joined
