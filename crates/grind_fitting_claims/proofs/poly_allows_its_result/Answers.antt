use Rattle.grind_fitting_claims.proofs.PolyDifferenceResults.{poly_results}
use Rattle.grind_fitting_claims.proofs.poly_allows_its_result.Goals as goal

pub returns : goal.returns
returns c = λ lemmas goal nodes literal premises. poly_results nodes premises
