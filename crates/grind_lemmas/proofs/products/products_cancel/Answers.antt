use Rattle.grind_lemmas.proofs.Orders.{int_mul-cancel}
use Rattle.grind_lemmas.proofs.products.products_cancel.Goals as goal

pub returns : goal.returns
returns c = int_mul-cancel
