use Rattle.grind_linear_forms.proofs.Naming.{cut-names}
use Rattle.grind_linear_forms.proofs.laws.cuts_name_numbers.Goals as goal

pub returns : goal.returns
returns c = cut-names
