use Rattle.grind_theory.proofs.OneTheory.{one_theory}
use Rattle.grind_theory.proofs.laws.one_theory.Goals as goal

pub returns : goal.returns
returns c = one_theory c.one_scheme.ensures
