use Rattle.grind_cutsat_units.proofs.LawLemmas.{equations_are_typed}
use Rattle.grind_cutsat_units.proofs.laws.equations_are_typed.Goals as goal

pub returns : goal.returns
returns c = equations_are_typed
