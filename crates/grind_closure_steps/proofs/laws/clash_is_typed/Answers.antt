use Rattle.grind_closure_steps.proofs.LawLemmas.{clash_is_typed}
use Rattle.grind_closure_steps.proofs.laws.clash_is_typed.Goals as goal

pub returns : goal.returns
returns c = clash_is_typed
