use Rattle.grind_cutsat_units.proofs.LawLemmas.{settled_are_typed}
use Rattle.grind_cutsat_units.proofs.laws.settled_are_typed.Goals as goal

pub returns : goal.returns
returns c = settled_are_typed
