use Rattle.grind_monomials.proofs.Orders.{place-chain}
use Rattle.grind_monomials.proofs.laws.places_chain.Goals as goal

pub returns : goal.returns
returns c = place-chain
