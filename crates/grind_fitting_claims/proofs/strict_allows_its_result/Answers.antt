use Rattle.grind_fitting_claims.proofs.DifferenceResults.{strict_results}
use Rattle.grind_fitting_claims.proofs.strict_allows_its_result.Goals as goal

pub returns : goal.returns
returns c = λ lemmas goal nodes literal premises. strict_results nodes premises
