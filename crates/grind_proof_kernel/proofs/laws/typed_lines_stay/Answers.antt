use Rattle.grind_proof_kernel.proofs.LawLemmas.{typed_lines_stay_lem}
use Rattle.grind_proof_kernel.proofs.laws.typed_lines_stay.Goals as goal

pub returns : goal.returns
returns c = typed_lines_stay_lem c.formed_stays.ensures c.claims_stay.ensures c.allowed_stays.ensures
