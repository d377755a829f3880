use Rattle.grind_cutsat_assignment.proofs.LawLemmas.{bounds_hold}
use Rattle.grind_cutsat_assignment.proofs.laws.bounds_hold.Goals as goal

pub returns : goal.returns
returns c = bounds_hold
