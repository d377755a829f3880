use Rattle.grind_fitting_claims.proofs.PolyReadingsExactly.{poly_bounds_refuse}
use Rattle.grind_fitting_claims.proofs.poly_bounds_only_refuse.Goals as goal

pub returns : goal.returns
returns c = poly_bounds_refuse
