use Rattle.grind_lemmas.proofs.Rings.{int_add-comm}
use Rattle.grind_lemmas.proofs.products.sums_commute.Goals as goal

pub returns : goal.returns
returns c = int_add-comm
