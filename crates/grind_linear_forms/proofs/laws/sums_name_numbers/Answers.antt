use Rattle.grind_linear_forms.proofs.Naming.{sum-names}
use Rattle.grind_linear_forms.proofs.laws.sums_name_numbers.Goals as goal

pub returns : goal.returns
returns c = sum-names
