use Rattle.grind_differences.proofs.ValueLemmas.{value-form_of}
use Rattle.grind_differences.proofs.laws.forms_of_polys_have_their_values.Goals as goal

pub returns : goal.returns
returns c = λ v poly form e. value-form_of v poly form e
