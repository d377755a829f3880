use Rattle.grind_lemmas.proofs.Quotients.{next_quotients-round_up}
use Rattle.grind_lemmas.proofs.division.next_quotients_round_up.Goals as goal

pub returns : goal.returns
returns c = next_quotients-round_up
