use Rattle.grind_lemmas.proofs.Orders.{ceil-at_most}
use Rattle.grind_lemmas.proofs.rounding.ceilings_bound.Goals as goal

pub returns : goal.returns
returns c = ceil-at_most
