use Rattle.grind_ring_solver.proofs.RestLemmas.{rest_is_reduced}
use Rattle.grind_ring_solver.proofs.laws.rest_is_reduced.Goals as goal

pub returns : goal.returns
returns c = rest_is_reduced
