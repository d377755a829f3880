use Rattle.grind_closure_steps.proofs.LawLemmas.{truth_is_typed}
use Rattle.grind_closure_steps.proofs.laws.truth_is_typed.Goals as goal

pub returns : goal.returns
returns c = truth_is_typed
