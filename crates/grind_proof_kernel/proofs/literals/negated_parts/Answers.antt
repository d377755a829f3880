use Rattle.grind_proof_kernel.proofs.OppositeLemmas.{negated_goes_on, others_fit}
use Rattle.grind_proof_kernel.proofs.literals.negated_parts.Goals as goal

pub loop-part-preserved : goal.loop-part-preserved
loop-part-preserved c =
    let rest = c.in-Some.ensures.cases.0 in
    record {
      whole = negated_goes_on _ _ _ _ _ _ _ rest c.in_ok-push.ensures.ok c.negated-other.ensures c.loop-part.invariant.whole;
      fit = others_fit _ _ _ rest c.loop-part.invariant.fit;
    }
