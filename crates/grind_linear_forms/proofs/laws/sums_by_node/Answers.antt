use Rattle.grind_linear_forms.proofs.ByNode.{sum-by_node}
use Rattle.grind_linear_forms.proofs.laws.sums_by_node.Goals as goal

pub returns : goal.returns
returns c = sum-by_node
