use Rattle.grind_resolution.specs.Scopes.{Gives}
use Rattle.grind_resolution.proofs.OneSorts.{sorted_known, sorted_counted}
use Rattle.grind_resolution.proofs.laws.sorted_is_counted.Goals as goal

pub returns : goal.returns
returns c = λ s scope t sort h. (sorted_known (Gives s scope) t sort h, sorted_counted (Gives s scope) t sort h)
