use Rattle.grind_proof_writer.proofs.FinishLemmas.{finished_is_typed}
use Rattle.grind_proof_writer.proofs.laws.finished_is_typed.Goals as goal

pub returns : goal.returns
returns c = finished_is_typed
