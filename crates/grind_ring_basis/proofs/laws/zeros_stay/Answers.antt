use Rattle.grind_ring_basis.proofs.TypedLemmas.{zeros_stay}
use Rattle.grind_ring_basis.proofs.laws.zeros_stay.Goals as goal

pub returns : goal.returns
returns c = zeros_stay
