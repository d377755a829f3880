use Rattle.grind_normal_forms.proofs.NormalLemmas.{zero-rest}
use Rattle.grind_normal_forms.proofs.laws.zero_rests_have_factor_one.Goals as goal

pub returns : goal.returns
returns c = zero-rest
