use Rattle.grind_proof_writer.proofs.LeafLemmas.{lines_keep_good}
use Rattle.grind_proof_writer.proofs.laws.lines_keep_good.Goals as goal

pub returns : goal.returns
returns c = lines_keep_good
