use Rattle.grind_resolution.specs.Scopes.{Gives}
use Rattle.grind_resolution.proofs.OneSchemes.{scheme_unique}
use Rattle.grind_resolution.proofs.laws.one_scheme.Goals as goal

pub returns : goal.returns
returns c = λ s scope single t a b h k. scheme_unique (Gives s scope) single t a b h k
