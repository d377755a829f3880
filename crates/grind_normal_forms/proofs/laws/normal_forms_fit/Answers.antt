use Rattle.grind_normal_forms.proofs.NormalLemmas.{normal-fits}
use Rattle.grind_normal_forms.proofs.laws.normal_forms_fit.Goals as goal

pub returns : goal.returns
returns c = normal-fits
