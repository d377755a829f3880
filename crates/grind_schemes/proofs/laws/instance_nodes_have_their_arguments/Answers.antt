use Rattle.grind_schemes.proofs.InstanceNodeLemmas.{arguments-too}
use Rattle.grind_schemes.proofs.laws.instance_nodes_have_their_arguments.Goals as goal

pub returns : goal.returns
returns c = λ nodes ids_for scheme id node h e. arguments-too ids_for scheme nodes id node h e
