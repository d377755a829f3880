use Rattle.grind_truth_prop.proofs.RestLemmas.{no_consequence_at_wants}
use Rattle.grind_truth_prop.proofs.laws.no_consequence_at_wants.Goals as goal

pub returns : goal.returns
returns c = no_consequence_at_wants
