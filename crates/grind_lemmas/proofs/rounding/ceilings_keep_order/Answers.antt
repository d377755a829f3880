use Rattle.grind_lemmas.proofs.Orders.{ceil-keeps_order}
use Rattle.grind_lemmas.proofs.rounding.ceilings_keep_order.Goals as goal

pub returns : goal.returns
returns c = ceil-keeps_order
