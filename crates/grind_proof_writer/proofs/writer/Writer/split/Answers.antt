use Rattle.std.specs.Prelude.{◌≡◌, ℕ}
use Rattle.std.proofs.Common.{sym, ap, ◌∙◌, subst}
use Rattle.grind_claims.specs.declared.claim.Claim.{Claim}
use Rattle.grind_claims.specs.declared.proof.Proof.{Proof}
use Rattle.grind_proof_writer.specs.Branches.{IsGoodSoFar, SplitsLeaf, with_branches, with_pair}
use Rattle.grind_proof_writer.proofs.writer.Writer.split.Goals as goal

pub returns-clause-good : goal.returns-clause-good
returns-clause-good c =
    let writer = c.args.self.now in
    let other : Claim = c.in_ok-other.other in
    let is : c.put_pair.new.proof ≡ with_pair c.args.proof.now writer.branch c.args.literal other =
    c.in_ok-put_pair.ensures.ok
    ∙ ap (λ (n : ℕ). with_branches c.args.proof.now (record { parent = writer.branch; after = n; literal = c.args.literal })
    (record { parent = writer.branch; after = n; literal = other })) c.len-after.ensures.value in
    subst (IsGoodSoFar writer.lemmas.now writer.goal.now) (sym is)
    (c.pair_keeps_good.ensures writer.lemmas.now writer.goal.now c.args.proof.now writer.branch c.args.literal other c.requires.good
    c.requires.leaf c.requires.literal c.requires.formed c.in_ok-other.ensures).0

pub returns-clause-pair : goal.returns-clause-pair
returns-clause-pair c =
    let writer = c.args.self.now in
    let other : Claim = c.in_ok-other.other in
    let is : c.put_pair.new.proof ≡ with_pair c.args.proof.now writer.branch c.args.literal other =
    c.in_ok-put_pair.ensures.ok
    ∙ ap (λ (n : ℕ). with_branches c.args.proof.now (record { parent = writer.branch; after = n; literal = c.args.literal })
    (record { parent = writer.branch; after = n; literal = other })) c.len-after.ensures.value in (
      other,
      c.in_ok-other.ensures,
      subst (λ (new : Proof). SplitsLeaf c.args.proof.now new writer.branch c.args.literal other) (sym is)
          (c.pair_keeps_good.ensures writer.lemmas.now writer.goal.now c.args.proof.now writer.branch c.args.literal other c.requires.good
          c.requires.leaf c.requires.literal c.requires.formed c.in_ok-other.ensures).1,
    )
