use Rattle.grind_linear_forms.proofs.ByNode.{refusal-by_node}
use Rattle.grind_linear_forms.proofs.laws.refusals_by_node.Goals as goal

pub returns : goal.returns
returns c = refusal-by_node
