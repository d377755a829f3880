use Rattle.grind_normal_forms.proofs.FactorLemmas.{value-factors}
use Rattle.grind_normal_forms.proofs.laws.factors_have_their_values.Goals as goal

pub returns : goal.returns
returns c = λ v basis p factors normal one two. value-factors v basis p factors normal one two
