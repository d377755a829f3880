use Rattle.grind_truth_prop.proofs.StepLemmas.{rest_is, rest_of, wants_is, wants_of}
use Rattle.grind_truth_prop.proofs.step.truth_step.Goals as goal

pub returns-clause-rest : goal.returns-clause-rest
returns-clause-rest c = (
  rest_of c.args.known.now c.args.classes.now.lists c.in_ok-step.step c.in_ok-step.ensures,
  rest_is c.args.known.now c.args.classes.now.lists c.in_ok-step.step c.in_ok-step.ensures,
)

pub returns-clause-wants : goal.returns-clause-wants
returns-clause-wants c = λ n. (
  wants_of c.args.known.now c.args.classes.now.lists c.in_ok-step.step n c.in_ok-step.ensures,
  λ both. wants_is c.args.known.now c.args.classes.now.lists c.in_ok-step.step n c.in_ok-step.ensures both.0 both.1,
)
