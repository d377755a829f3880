use Rattle.grind_differences.proofs.ValueLemmas.{difference_value}
use Rattle.grind_differences.proofs.laws.differences_have_their_values.Goals as goal

pub returns : goal.returns
returns c = λ nodes v a b it respects e.
    difference_value c.readings_have_their_values.ensures c.sums_have_their_values.ensures nodes v a b it respects e
