use Rattle.grind_congruence.proofs.FitLemmas.{fits_longer_table}
use Rattle.grind_congruence.proofs.closure.fits_longer.Goals as goal

pub returns : goal.returns
returns c = fits_longer_table
