use Rattle.grind_fitting_claims.proofs.CombineResults.{combine_results}
use Rattle.grind_fitting_claims.proofs.combine_allows_its_result.Goals as goal

pub returns : goal.returns
returns c = λ lemmas goal nodes literal divisor factors premises made.
    combine_results divisor factors premises made c.one_cut.ensures
