use Rattle.grind_fitting_claims.proofs.LinearReadingsExactly.{bounds_refuse}
use Rattle.grind_fitting_claims.proofs.bounds_only_refuse.Goals as goal

pub returns : goal.returns
returns c = bounds_refuse
