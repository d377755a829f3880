use Rattle.grind_lemmas.proofs.Orders.{ceil-unique}
use Rattle.grind_lemmas.proofs.rounding.one_ceiling.Goals as goal

pub returns : goal.returns
returns c = ceil-unique
