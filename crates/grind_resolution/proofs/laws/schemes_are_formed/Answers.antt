use Rattle.grind_resolution.proofs.FormedSchemes.{scheme_formed}
use Rattle.grind_resolution.proofs.laws.schemes_are_formed.Goals as goal

pub returns : goal.returns
returns c = λ s scope keeps single t sort scheme h k. scheme_formed s scope keeps single t sort scheme h k
