use Rattle.grind_fitting_claims.proofs.LinearReadingsExactly.{readings_are_one}
use Rattle.grind_fitting_claims.proofs.linear_readings_are_one.Goals as goal

pub returns : goal.returns
returns c = readings_are_one
