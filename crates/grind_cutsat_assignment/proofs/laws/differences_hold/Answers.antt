use Rattle.grind_cutsat_assignment.proofs.LawLemmas.{differences_hold}
use Rattle.grind_cutsat_assignment.proofs.laws.differences_hold.Goals as goal

pub returns : goal.returns
returns c = differences_hold
