use Rattle.grind_lemmas.proofs.Rings.{int_mul-add}
use Rattle.grind_lemmas.proofs.products.products_distribute.Goals as goal

pub returns : goal.returns
returns c = int_mul-add
