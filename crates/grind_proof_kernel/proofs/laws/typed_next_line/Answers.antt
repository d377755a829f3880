use Rattle.grind_proof_kernel.proofs.LawLemmas.{typed_next_line_lem}
use Rattle.grind_proof_kernel.proofs.laws.typed_next_line.Goals as goal

pub returns : goal.returns
returns c = typed_next_line_lem c.formed_stays.ensures c.claims_stay.ensures c.allowed_stays.ensures
