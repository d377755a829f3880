use Rattle.grind_proof_kernel.proofs.OppositeLemmas.{opposite_is_form}
use Rattle.grind_proof_kernel.proofs.literals.opposite_form.Goals as goal

pub invariant_of-result : goal.invariant_of-result
invariant_of-result c =
    opposite_is_form c.args.form.now.parts c.parts.result.now c.in_ok-parts.parts c.parts.ensures.keeps c.parts.ensures.value c.in_ok-parts.ensures
