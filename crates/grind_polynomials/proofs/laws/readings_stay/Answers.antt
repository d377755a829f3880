use Rattle.grind_polynomials.proofs.ReadingLemmas.{polynomial-stays}
use Rattle.grind_polynomials.proofs.laws.readings_stay.Goals as goal

pub returns : goal.returns
returns c = polynomial-stays
