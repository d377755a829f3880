use Rattle.grind_monomials.proofs.Orders.{place-same}
use Rattle.grind_monomials.proofs.laws.neither_above_is_one.Goals as goal

pub returns : goal.returns
returns c = place-same
