use Rattle.grind_polynomials.proofs.ReadingLemmas.{value-polynomial}
use Rattle.grind_polynomials.proofs.laws.readings_have_their_values.Goals as goal

pub returns : goal.returns
returns c = λ nodes v n poly respects e. value-polynomial v nodes n poly respects e
