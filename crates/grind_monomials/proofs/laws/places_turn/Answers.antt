use Rattle.grind_monomials.proofs.Orders.{place-turn}
use Rattle.grind_monomials.proofs.laws.places_turn.Goals as goal

pub returns : goal.returns
returns c = place-turn
