use Rattle.grind_cutsat_units.proofs.LawLemmas.{cuts_are_typed}
use Rattle.grind_cutsat_units.proofs.laws.cuts_are_typed.Goals as goal

pub returns : goal.returns
returns c = cuts_are_typed
