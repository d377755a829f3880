use Rattle.grind_closure_steps.proofs.LawLemmas.{congruent_are_typed}
use Rattle.grind_closure_steps.proofs.laws.congruent_are_typed.Goals as goal

pub returns : goal.returns
returns c = congruent_are_typed
