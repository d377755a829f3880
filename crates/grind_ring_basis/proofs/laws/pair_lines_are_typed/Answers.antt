use Rattle.grind_ring_basis.proofs.TypedLemmas.{pair_typed}
use Rattle.grind_ring_basis.proofs.laws.pair_lines_are_typed.Goals as goal

pub returns : goal.returns
returns c = pair_typed
