use Rattle.grind_fitting_claims.proofs.DifferenceResults.{read_results}
use Rattle.grind_fitting_claims.proofs.read_allows_its_result.Goals as goal

pub returns : goal.returns
returns c = λ lemmas goal nodes literal premises. read_results nodes premises
