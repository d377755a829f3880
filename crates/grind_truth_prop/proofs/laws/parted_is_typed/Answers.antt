use Rattle.grind_truth_prop.proofs.LawLemmas.{parted_is_typed}
use Rattle.grind_truth_prop.proofs.laws.parted_is_typed.Goals as goal

pub returns : goal.returns
returns c = parted_is_typed
