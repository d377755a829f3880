use Rattle.grind_schemes.proofs.InstanceNodeLemmas.{adds_instance}
use Rattle.grind_schemes.proofs.laws.schemes_add_their_instances.Goals as goal

pub returns : goal.returns
returns c = λ nodes vars ids_for scheme. adds_instance nodes vars ids_for scheme
