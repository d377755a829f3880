use Rattle.grind_proof_kernel.proofs.LawLemmas.{typed_lines_count_lem}
use Rattle.grind_proof_kernel.proofs.laws.typed_lines_count.Goals as goal

pub returns : goal.returns
returns c = typed_lines_count_lem c.claims_count.ensures c.premises_are_counted.ensures
