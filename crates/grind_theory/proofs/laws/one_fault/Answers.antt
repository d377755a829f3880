use Rattle.grind_theory.proofs.LawLemmas.{one_fault, none_faulty}
use Rattle.grind_theory.proofs.laws.one_fault.Goals as goal

pub returns-clause-one : goal.returns-clause-one
returns-clause-one c = one_fault

pub returns-clause-none : goal.returns-clause-none
returns-clause-none c = none_faulty
