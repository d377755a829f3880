use Rattle.grind_fitting_claims.proofs.IdealResults.{ideal_results}
use Rattle.grind_fitting_claims.proofs.ideal_allows_its_result.Goals as goal

pub returns : goal.returns
returns c = λ lemmas goal nodes literal divisor factors premises made are.
    ideal_results divisor factors premises made are c.products_cancel.ensures
