use Rattle.grind_lemmas.proofs.Orders.{int_mul-nonneg}
use Rattle.grind_lemmas.proofs.products.products_stay_nonnegative.Goals as goal

pub returns : goal.returns
returns c = int_mul-nonneg
