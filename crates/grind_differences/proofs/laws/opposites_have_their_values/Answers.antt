use Rattle.grind_differences.proofs.ValueLemmas.{opposite_value}
use Rattle.grind_differences.proofs.laws.opposites_have_their_values.Goals as goal

pub returns : goal.returns
returns c = λ v form. opposite_value v form
