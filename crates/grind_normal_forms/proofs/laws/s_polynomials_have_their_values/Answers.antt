use Rattle.grind_normal_forms.proofs.PairLemmas.{value-s}
use Rattle.grind_normal_forms.proofs.laws.s_polynomials_have_their_values.Goals as goal

pub returns : goal.returns
returns c = λ v h a b poly e. value-s a b h v poly e
