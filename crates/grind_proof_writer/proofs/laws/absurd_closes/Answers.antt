use Rattle.grind_proof_writer.proofs.ClosingLemmas.{absurd_closes}
use Rattle.grind_proof_writer.proofs.laws.absurd_closes.Goals as goal

pub returns : goal.returns
returns c = absurd_closes
