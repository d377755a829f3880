use Rattle.grind_linear_forms.proofs.ByNode.{one-form}
use Rattle.grind_linear_forms.proofs.laws.forms_by_node.Goals as goal

pub returns : goal.returns
returns c = one-form
