use Rattle.grind_truth_prop.proofs.RestLemmas.{nothing_left_at_rest}
use Rattle.grind_truth_prop.proofs.laws.nothing_left_at_rest.Goals as goal

pub returns : goal.returns
returns c = nothing_left_at_rest
