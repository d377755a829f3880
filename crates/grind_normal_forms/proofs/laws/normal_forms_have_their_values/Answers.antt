use Rattle.grind_normal_forms.proofs.NormalLemmas.{value-normal}
use Rattle.grind_normal_forms.proofs.laws.normal_forms_have_their_values.Goals as goal

pub returns : goal.returns
returns c = λ v basis p normal is zero_all. value-normal v basis p normal is zero_all
