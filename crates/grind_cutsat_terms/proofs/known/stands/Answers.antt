use Rattle.std.proofs.Common.{refl}
use Rattle.std.proofs.lemmas.Bool.{false≢true}
use Rattle.grind_cutsat_terms.proofs.known.stands.Goals as goal

pub returns-in-None : goal.returns-in-None
returns-in-None c = (λ yes. absurd (false≢true yes), λ h. absurd (c.in-None.ensures.none refl h.0 h.1))
