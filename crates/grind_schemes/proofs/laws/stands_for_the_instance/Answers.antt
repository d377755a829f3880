use Rattle.grind_schemes.proofs.InstanceLaws.{stands, as_many}
use Rattle.grind_schemes.proofs.laws.stands_for_the_instance.Goals as goal

pub returns : goal.returns
returns c = λ nodes vars substitution scheme e formed.
    stands substitution vars scheme nodes (as_many nodes vars substitution e) formed
