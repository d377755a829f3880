use Rattle.grind_lemmas.proofs.Orders.{int_mul-le}
use Rattle.grind_lemmas.proofs.products.products_keep_order.Goals as goal

pub returns : goal.returns
returns c = int_mul-le
