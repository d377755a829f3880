use Rattle.std.proofs.Common.{take}
use Rattle.grind_claims.specs.Claims.{claims_of, AreClaimsAt}
use Rattle.grind_proof_kernel.proofs.checker.claims_at.Given as goal

-- the claims so far are those of the first premises
abbrev pub invariant-loop-premise : goal.invariant-loop-premise
invariant-loop-premise l = AreClaimsAt l.lines (take l.premise-index l.premises) (claims_of l.claims.items)
