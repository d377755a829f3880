use Rattle.grind_resolution.proofs.DeclaredLaws.{scheme_declared}
use Rattle.grind_resolution.proofs.laws.schemes_are_declared.Goals as goal

pub returns : goal.returns
returns c = λ s scope keeps single t sort scheme h k. scheme_declared s scope keeps single t sort scheme h k
