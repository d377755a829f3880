use Rattle.grind_lemmas.proofs.Rings.{int_mul-comm}
use Rattle.grind_lemmas.proofs.products.products_commute.Goals as goal

pub returns : goal.returns
returns c = int_mul-comm
