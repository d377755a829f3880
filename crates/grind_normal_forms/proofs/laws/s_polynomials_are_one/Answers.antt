use Rattle.grind_normal_forms.proofs.PairLemmas.{s-one}
use Rattle.grind_normal_forms.proofs.laws.s_polynomials_are_one.Goals as goal

pub returns : goal.returns
returns c = s-one
