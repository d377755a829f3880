use Rattle.std.proofs.Common.{ap, sym}
use Rattle.grind_claims.specs.declared.proof.Line.{Line}
use Rattle.grind_proof_kernel.proofs.LineLemmas.{next_claims}
use Rattle.grind_proof_kernel.proofs.checker.claims_at.Goals as goal

pub loop-premise-preserved : goal.loop-premise-preserved
loop-premise-preserved c =
    next_claims c.args.lines.now c.args.premises.now c.loop-premise.premise-index _ _ _ c.index-lines-premise.result c.loop-premise-test.true
    c.requires c.in_ok-push.ensures.items c.index-lines-premise.is (ap (λ (line : Line). line.claim) (sym c.index-lines-premise.is)) c.loop-premise.invariant
