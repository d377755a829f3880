use Rattle.grind_linear_forms.proofs.ReadingLemmas.{linear-stays}
use Rattle.grind_linear_forms.proofs.laws.readings_stay.Goals as goal

pub returns : goal.returns
returns c = linear-stays
