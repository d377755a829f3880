use Rattle.grind_linear_forms.proofs.SumValues.{value-scaled_sum}
use Rattle.grind_linear_forms.proofs.laws.sums_have_their_values.Goals as goal

pub returns : goal.returns
returns c = λ v a b sum m k e.
    value-scaled_sum v c.products_associate.ensures c.products_commute.ensures c.products_distribute.ensures a b sum m k e
