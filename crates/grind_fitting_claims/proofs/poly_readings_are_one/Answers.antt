use Rattle.grind_fitting_claims.proofs.PolyReadingsExactly.{poly_readings_one}
use Rattle.grind_fitting_claims.proofs.poly_readings_are_one.Goals as goal

pub returns : goal.returns
returns c = poly_readings_one
