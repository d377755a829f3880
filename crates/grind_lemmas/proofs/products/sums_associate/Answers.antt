use Rattle.grind_lemmas.proofs.Rings.{int_add-assoc}
use Rattle.grind_lemmas.proofs.products.sums_associate.Goals as goal

pub returns : goal.returns
returns c = int_add-assoc
