use Rattle.grind_known_posts.proofs.FitLemmas.{known_fits}
use Rattle.grind_known_posts.proofs.laws.known_fits.Goals as goal

pub returns : goal.returns
returns c = known_fits
