use Rattle.grind_differences.proofs.ValueLemmas.{poly_difference_value}
use Rattle.grind_differences.proofs.laws.poly_differences_have_their_values.Goals as goal

pub returns : goal.returns
returns c = λ nodes v a b it respects e.
    poly_difference_value c.readings_have_their_values.ensures c.sums_have_their_values.ensures nodes v a b it respects e
