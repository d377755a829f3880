use Rattle.grind_ring_basis.proofs.TypedLemmas.{post_typed}
use Rattle.grind_ring_basis.proofs.laws.post_lines_are_typed.Goals as goal

pub returns : goal.returns
returns c = post_typed
