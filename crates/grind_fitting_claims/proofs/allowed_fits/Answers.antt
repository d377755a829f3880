use Rattle.grind_fitting_claims.proofs.RulesFit.{allowed_fits}
use Rattle.grind_fitting_claims.proofs.allowed_fits.Goals as goal

pub returns : goal.returns
returns c = allowed_fits
