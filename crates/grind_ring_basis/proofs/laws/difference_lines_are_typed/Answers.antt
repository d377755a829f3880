use Rattle.grind_ring_basis.proofs.TypedLemmas.{difference_typed}
use Rattle.grind_ring_basis.proofs.laws.difference_lines_are_typed.Goals as goal

pub returns : goal.returns
returns c = difference_typed
