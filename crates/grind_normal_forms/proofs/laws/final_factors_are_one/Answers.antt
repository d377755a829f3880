use Rattle.grind_normal_forms.proofs.FinalLemmas.{final-one}
use Rattle.grind_normal_forms.proofs.laws.final_factors_are_one.Goals as goal

pub returns : goal.returns
returns c = final-one
