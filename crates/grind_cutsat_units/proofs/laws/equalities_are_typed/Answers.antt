use Rattle.grind_cutsat_units.proofs.LawLemmas.{equalities_are_typed}
use Rattle.grind_cutsat_units.proofs.laws.equalities_are_typed.Goals as goal

pub returns : goal.returns
returns c = equalities_are_typed
