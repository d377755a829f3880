use Rattle.grind_monomials.proofs.CountLemmas.{divides-product}
use Rattle.grind_monomials.proofs.laws.factors_divide.Goals as goal

pub returns : goal.returns
returns c = divides-product
