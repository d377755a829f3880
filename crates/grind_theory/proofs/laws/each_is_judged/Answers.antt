use Rattle.grind_theory.proofs.LawLemmas.{each_is_judged}
use Rattle.grind_theory.proofs.laws.each_is_judged.Goals as goal

pub returns : goal.returns
returns c = each_is_judged
