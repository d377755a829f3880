use Rattle.grind_cutsat_units.proofs.DraftLemmas.{drafts_are_typed}
use Rattle.grind_cutsat_units.proofs.laws.drafts_are_typed.Goals as goal

pub returns : goal.returns
returns c = drafts_are_typed
