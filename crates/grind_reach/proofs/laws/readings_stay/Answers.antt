use Rattle.grind_reach.proofs.ReadingLemmas.{reading-stays}
use Rattle.grind_reach.proofs.laws.readings_stay.Goals as goal

pub returns : goal.returns
returns g c = reading-stays g.R.Algebra.operations
