use Rattle.grind_cutsat_units.proofs.LawLemmas.{pinches_are_typed}
use Rattle.grind_cutsat_units.proofs.laws.pinches_are_typed.Goals as goal

pub returns : goal.returns
returns c = pinches_are_typed
