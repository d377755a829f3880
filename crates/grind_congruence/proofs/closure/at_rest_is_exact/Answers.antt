use Rattle.grind_congruence.proofs.ExactLemmas.{exact_at_rest}
use Rattle.grind_congruence.proofs.closure.at_rest_is_exact.Goals as goal

pub returns : goal.returns
returns c = exact_at_rest
