use Rattle.grind_cutsat_units.proofs.LawLemmas.{strict_bounds_are_typed}
use Rattle.grind_cutsat_units.proofs.laws.strict_bounds_are_typed.Goals as goal

pub returns : goal.returns
returns c = strict_bounds_are_typed
