use Rattle.grind_lemmas.proofs.Orders.{int_mul-below}
use Rattle.grind_lemmas.proofs.products.multiples_skip.Goals as goal

pub returns : goal.returns
returns c = int_mul-below
