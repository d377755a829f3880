use Rattle.grind_cutsat_units.proofs.LawLemmas.{resolutions_are_typed}
use Rattle.grind_cutsat_units.proofs.laws.resolutions_are_typed.Goals as goal

pub returns : goal.returns
returns c = resolutions_are_typed
