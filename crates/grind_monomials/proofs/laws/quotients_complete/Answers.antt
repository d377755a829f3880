use Rattle.grind_monomials.proofs.CountLemmas.{product-quotient}
use Rattle.grind_monomials.proofs.laws.quotients_complete.Goals as goal

pub returns : goal.returns
returns c = product-quotient
