use Rattle.grind_schemes.proofs.InstanceNodeLemmas.{instance_node-grows}
use Rattle.grind_schemes.proofs.laws.instance_nodes_stay.Goals as goal

pub returns : goal.returns
returns c = λ before after ids_for scheme id grows h. instance_node-grows ids_for scheme before after id grows h
