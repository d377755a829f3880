use Rattle.grind_fitting_claims.proofs.DifferenceResults.{differences_exact}
use Rattle.grind_fitting_claims.proofs.differences_are_exact.Goals as goal

pub returns : goal.returns
returns c = differences_exact
