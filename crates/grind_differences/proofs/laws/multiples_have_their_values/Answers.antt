use Rattle.grind_differences.proofs.ValueLemmas.{multiple_value}
use Rattle.grind_differences.proofs.laws.multiples_have_their_values.Goals as goal

pub returns : goal.returns
returns c = λ v k poly. multiple_value v k poly
