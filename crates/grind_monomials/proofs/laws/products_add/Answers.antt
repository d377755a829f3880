use Rattle.grind_monomials.proofs.CountLemmas.{count-product, length-product, rises-product}
use Rattle.grind_monomials.proofs.laws.products_add.Goals as goal

pub returns : goal.returns
returns c = λ a b. (λ n. count-product n a b, length-product a b, λ left right. rises-product a b 0 left right)
