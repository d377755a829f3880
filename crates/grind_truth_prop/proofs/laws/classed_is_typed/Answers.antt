use Rattle.grind_truth_prop.proofs.LawLemmas.{classed_is_typed}
use Rattle.grind_truth_prop.proofs.laws.classed_is_typed.Goals as goal

pub returns : goal.returns
returns c = classed_is_typed
