use Rattle.grind_monomials.proofs.ValueLemmas.{value-product}
use Rattle.grind_monomials.proofs.laws.products_have_their_values.Goals as goal

pub returns : goal.returns
returns c = value-product
