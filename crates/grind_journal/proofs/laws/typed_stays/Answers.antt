use Rattle.grind_journal.proofs.Growth.{typed_stays}
use Rattle.grind_journal.proofs.laws.typed_stays.Goals as goal

pub returns : goal.returns
returns c = typed_stays c.formed_stays.ensures c.allowed_stays.ensures
