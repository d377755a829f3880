use Rattle.grind_journal.proofs.Growth.{one_first}
use Rattle.grind_journal.proofs.laws.one_first.Goals as goal

pub returns : goal.returns
returns c = one_first
