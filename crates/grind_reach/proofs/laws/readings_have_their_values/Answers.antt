use Rattle.grind_reach.proofs.ValueLemmas.{value-read}
use Rattle.grind_reach.proofs.laws.readings_have_their_values.Goals as goal

pub returns : goal.returns
returns g c = λ value v nodes n made keep respects e. value-read g.R.Algebra.operations value v keep nodes n made respects e
