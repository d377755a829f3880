use Rattle.grind_fitting_claims.proofs.DifferenceResults.{line_results}
use Rattle.grind_fitting_claims.proofs.line_allows_its_result.Goals as goal

pub returns : goal.returns
returns c = λ lemmas goal nodes literal premises. line_results nodes premises
