use Rattle.grind_journal.proofs.Growth.{classes_of_merged}
use Rattle.grind_journal.proofs.laws.classes_of_merged.Goals as goal

pub returns : goal.returns
returns c = classes_of_merged
