use Rattle.grind_lemmas.proofs.Quotients.{ceilings-stay_below}
use Rattle.grind_lemmas.proofs.division.ceilings_stay_below.Goals as goal

pub returns : goal.returns
returns c = ceilings-stay_below
