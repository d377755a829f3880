use Rattle.grind_lemmas.proofs.Rings.{int_mul-assoc}
use Rattle.grind_lemmas.proofs.products.products_associate.Goals as goal

pub returns : goal.returns
returns c = int_mul-assoc
