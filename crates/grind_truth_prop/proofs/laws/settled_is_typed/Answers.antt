use Rattle.grind_truth_prop.proofs.SettledLemmas.{settled_is_typed}
use Rattle.grind_truth_prop.proofs.laws.settled_is_typed.Goals as goal

pub returns : goal.returns
returns c = settled_is_typed
