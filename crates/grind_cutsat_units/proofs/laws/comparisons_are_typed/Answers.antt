use Rattle.grind_cutsat_units.proofs.LawLemmas.{comparisons_are_typed}
use Rattle.grind_cutsat_units.proofs.laws.comparisons_are_typed.Goals as goal

pub returns : goal.returns
returns c = comparisons_are_typed
