use Rattle.grind_truth_prop.proofs.LawLemmas.{joined_is_typed}
use Rattle.grind_truth_prop.proofs.laws.joined_is_typed.Goals as goal

pub returns : goal.returns
returns c = joined_is_typed
