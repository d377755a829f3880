use Rattle.grind_differences.proofs.PolyLemmas.{poly_difference-stays}
use Rattle.grind_differences.proofs.laws.poly_differences_stay.Goals as goal

pub returns : goal.returns
returns c = λ nodes more a b poly e. poly_difference-stays c.readings_stay.ensures nodes more a b poly e
