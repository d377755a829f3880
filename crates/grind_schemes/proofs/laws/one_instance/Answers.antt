use Rattle.grind_schemes.proofs.InstanceLaws.{instance_unique}
use Rattle.grind_schemes.proofs.laws.one_instance.Goals as goal

pub returns : goal.returns
returns c = λ nodes substitution scheme one other table h k.
    instance_unique substitution scheme nodes one other table h k
