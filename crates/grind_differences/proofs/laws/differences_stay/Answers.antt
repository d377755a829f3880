use Rattle.grind_differences.proofs.BoundLemmas.{difference-stays}
use Rattle.grind_differences.proofs.laws.differences_stay.Goals as goal

pub returns : goal.returns
returns c = λ nodes more a b form e. difference-stays c.readings_stay.ensures nodes more a b form e
