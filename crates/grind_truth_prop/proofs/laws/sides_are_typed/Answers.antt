use Rattle.grind_truth_prop.proofs.LawLemmas.{sides_are_typed}
use Rattle.grind_truth_prop.proofs.laws.sides_are_typed.Goals as goal

pub returns : goal.returns
returns c = sides_are_typed
