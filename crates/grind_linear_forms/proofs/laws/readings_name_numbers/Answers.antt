use Rattle.grind_linear_forms.proofs.Naming.{linear-names}
use Rattle.grind_linear_forms.proofs.laws.readings_name_numbers.Goals as goal

pub returns : goal.returns
returns c = linear-names
