use Rattle.std.specs.Prelude.{◌∷◌, [], refl}
use Rattle.grind_claims.specs.declared.claim.Claim.TheVariants.{Same}
use Rattle.grind_proof_writer.proofs.LineLemmas.{claims_at-one}
use Rattle.grind_proof_writer.proofs.writer.Writer.symmetric.Goals as goal

pub put_from-requires-clause-allowed : goal.put_from-requires-clause-allowed
put_from-requires-clause-allowed c =
    let told = c.args.told.now in (
      Same told.left told.right ∷ [],
      claims_at-one c.args.proof.now c.args.self.now.branch told.line (Same told.left told.right) c.requires.told,
      (told.left, told.right, refl, refl),
    )
