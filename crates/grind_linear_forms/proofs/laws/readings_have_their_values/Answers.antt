use Rattle.grind_linear_forms.proofs.ReadingLemmas.{value-linear}
use Rattle.grind_linear_forms.proofs.laws.readings_have_their_values.Goals as goal

pub returns : goal.returns
returns c = λ nodes v n form respects e.
    value-linear v c.products_associate.ensures c.products_commute.ensures c.products_distribute.ensures nodes n form respects e
