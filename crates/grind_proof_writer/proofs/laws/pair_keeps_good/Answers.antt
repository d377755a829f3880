use Rattle.grind_proof_writer.proofs.PairLemmas.{pair_keeps_good}
use Rattle.grind_proof_writer.proofs.laws.pair_keeps_good.Goals as goal

pub returns : goal.returns
returns c = pair_keeps_good c.typed_lines_stay.ensures
