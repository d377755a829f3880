use Rattle.grind_value_tables.proofs.Descent.{typed_proofs}
use Rattle.grind_value_tables.proofs.laws.typed_is_true.Goals as goal

pub returns : goal.returns
returns c = typed_proofs c.sound.ensures c.opposites_have_their_values.ensures
