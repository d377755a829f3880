use Rattle.std.specs.Prelude.{ℕ, List, ◌∷◌, [], refl}
use Rattle.std.proofs.Common.{sym, subst}
use Rattle.grind_claims.specs.declared.claim.Claim.{Claim}
use Rattle.grind_claims.specs.declared.claim.Claim.TheVariants.{Same}
use Rattle.grind_claims.specs.Claims.{AreClaimsAt}
use Rattle.grind_proof_writer.specs.Lines.{Tells}
use Rattle.grind_proof_writer.proofs.LineLemmas.{claims_at-two}
use Rattle.grind_proof_writer.proofs.writer.Writer.transitive.Goals as goal

pub put-requires-clause-allowed : goal.put-requires-clause-allowed
put-requires-clause-allowed c =
    let first = c.args.first.now in
    let second = c.args.second.now in
    let branch : ℕ = c.args.self.now.branch in
    let claims : List Claim = Same first.left first.right ∷ Same first.right second.right ∷ [] in
    let told : Tells c.args.proof.now branch second.line (Same first.right second.right) =
    subst (λ (n : ℕ). Tells c.args.proof.now branch second.line (Same n second.right)) (sym c.requires.meets) c.requires.second in (
      claims,
      subst (λ (premises : List ℕ). AreClaimsAt c.args.proof.now.lines premises claims) (sym c.in_ok-premises.ensures)
          (claims_at-two c.args.proof.now branch first.line second.line (Same first.left first.right) (Same first.right second.right)
          c.requires.first told),
      (first.left, first.right, second.right, refl, refl),
    )
