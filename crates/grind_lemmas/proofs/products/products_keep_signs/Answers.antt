use Rattle.grind_lemmas.proofs.Rings.{int_mul-neg}
use Rattle.grind_lemmas.proofs.products.products_keep_signs.Goals as goal

pub returns : goal.returns
returns c = int_mul-neg
