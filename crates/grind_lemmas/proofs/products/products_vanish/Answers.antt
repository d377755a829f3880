use Rattle.grind_lemmas.proofs.Orders.{int_mul-zero_out}
use Rattle.grind_lemmas.proofs.products.products_vanish.Goals as goal

pub returns : goal.returns
returns c = int_mul-zero_out
