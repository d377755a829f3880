use Rattle.grind_fitting_claims.proofs.PolyDifferenceResults.{poly_differences_exact}
use Rattle.grind_fitting_claims.proofs.poly_differences_are_exact.Goals as goal

pub returns : goal.returns
returns c = poly_differences_exact
