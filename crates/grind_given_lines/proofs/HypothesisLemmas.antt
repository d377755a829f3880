-- A conclusion that is a hypothesis.
use Rattle.std.specs.Prelude.{ℕ, ◌≡◌, List, [], ◌∷◌, Some, refl}
use Rattle.std.proofs.Common.{inl}
use Rattle.grind_term_graph.specs.declared.node.Node.{Node}
use Rattle.grind_claims.specs.declared.claim.Claim.{Claim}
use Rattle.grind_claims.specs.declared.claim.Claim.TheVariants.{Holds, Fails, Absurd}
use Rattle.grind_claims.specs.declared.proof.Line.{Line}
use Rattle.grind_claims.specs.Claims.{claim_at, AreClaimsAt}
use Rattle.grind_rules.specs.Rules.{IsClash}

-- a formula that holds, and fails
pub opposed_clash : (nodes : List Node) (lines : List Line) (first second n : ℕ) → claim_at lines first ≡ Some (Holds n) →
    claim_at lines second ≡ Some (Fails n) →
    (claims : List Claim) × AreClaimsAt lines (first ∷ second ∷ []) claims × IsClash nodes claims Absurd
opposed_clash nodes lines first second n one other = (
  Holds n ∷ Fails n ∷ [],
  (one, (other, tt)),
  (refl, inl (Holds n, Fails n, inl refl, inl (n, refl, refl))),
)
