use Rattle.grind_polynomials.proofs.SumValues.{value-all_products}
use Rattle.grind_polynomials.proofs.laws.sums_have_their_values.Goals as goal

pub returns : goal.returns
returns c = λ v a q b sum e. value-all_products v q b a sum e
