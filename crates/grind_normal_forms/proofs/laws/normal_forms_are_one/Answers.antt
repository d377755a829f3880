use Rattle.grind_normal_forms.proofs.NormalLemmas.{normal-one}
use Rattle.grind_normal_forms.proofs.laws.normal_forms_are_one.Goals as goal

pub returns : goal.returns
returns c = normal-one
