use Rattle.grind_theory.proofs.LawLemmas.{none_refused, one_refusal}
use Rattle.grind_theory.proofs.laws.one_refusal.Goals as goal

pub returns-clause-apart : goal.returns-clause-apart
returns-clause-apart c = none_refused

pub returns-clause-one : goal.returns-clause-one
returns-clause-one c = one_refusal
