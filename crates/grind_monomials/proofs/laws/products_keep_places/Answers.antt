use Rattle.grind_monomials.proofs.CountLemmas.{place-product}
use Rattle.grind_monomials.proofs.laws.products_keep_places.Goals as goal

pub returns : goal.returns
returns c = place-product
