use Rattle.grind_lemmas.proofs.Quotients.{quotients-round_up}
use Rattle.grind_lemmas.proofs.division.quotients_round_up.Goals as goal

pub returns : goal.returns
returns c = quotients-round_up
