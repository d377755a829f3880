use Rattle.grind_normal_forms.proofs.NormalLemmas.{reduces-one}
use Rattle.grind_normal_forms.proofs.laws.reductions_have_one_answer.Goals as goal

pub returns : goal.returns
returns c = reduces-one
