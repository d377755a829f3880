use Rattle.grind_resolution.specs.Scopes.{Gives}
use Rattle.grind_resolution.proofs.OneSorts.{sort_unique}
use Rattle.grind_resolution.proofs.laws.one_sort.Goals as goal

pub returns : goal.returns
returns c = λ s scope single t a b h k. sort_unique (Gives s scope) single t a b h k
