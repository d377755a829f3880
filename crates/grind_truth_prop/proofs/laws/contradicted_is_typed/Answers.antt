use Rattle.grind_truth_prop.proofs.SettledLemmas.{contradicted_is_typed}
use Rattle.grind_truth_prop.proofs.laws.contradicted_is_typed.Goals as goal

pub returns : goal.returns
returns c = contradicted_is_typed
