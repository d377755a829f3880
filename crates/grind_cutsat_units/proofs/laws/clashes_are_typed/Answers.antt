use Rattle.grind_cutsat_units.proofs.LawLemmas.{clashes_are_typed}
use Rattle.grind_cutsat_units.proofs.laws.clashes_are_typed.Goals as goal

pub returns : goal.returns
returns c = clashes_are_typed
