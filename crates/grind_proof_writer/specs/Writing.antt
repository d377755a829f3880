-- Words for what a writer of lines may do and has done, and proofs that are begun.
use Rattle.std.specs.Prelude.{◌≡◌, ℕ, List, []}
use Rattle.grind_schemes.specs.Goals.{GoalData}
use Rattle.grind_claims.specs.declared.claim.Claim.{Claim}
use Rattle.grind_claims.specs.declared.claim.Claim.TheVariants.{Same}
use Rattle.grind_claims.specs.declared.proof.Proof.{Proof}
use Rattle.grind_claims.specs.declared.proof.Rule.{Rule}
use Rattle.grind_proof_kernel.specs.Typing.{LinesAllow, literal_of}
use Rattle.grind_proof_writer.specs.declared.writer.Writer.{Writer}
use Rattle.grind_proof_writer.specs.declared.equality.Equality.{Equality}
use Rattle.grind_proof_writer.specs.Lines.{IsReady, Tells, Appends}
use Rattle.grind_proof_writer.specs.Branches.{IsGoodSoFar}

-- the proof has no branches but the root and no lines, and the terms of the goal, with room for as many as there are numbers
pub record IsBegun (goal : GoalData) (proof : Proof) : Type 0 where
  pub terms : proof.terms ≡ record { nodes = goal.terms.nodes; limit = 4294967295 }
  pub branches : proof.branches ≡ []
  pub lines : proof.lines ≡ []

-- the writer may write in the proof
abbrev pub CanWrite : Writer → Proof → Type 0
CanWrite writer proof = IsReady writer.lemmas.now writer.goal.now proof writer.branch

-- the proof is good so far, for the goal of the writer and its theorems
abbrev pub IsGoodFor : Writer → Proof → Type 0
IsGoodFor writer proof = IsGoodSoFar writer.lemmas.now writer.goal.now proof

-- the writer has written lines in its branch
abbrev pub Writes : Writer → Proof → Proof → Type 0
Writes writer old new = Appends writer.lemmas.now writer.goal.now old new writer.branch

-- the rule allows the claim from what these lines claim, in the writer's branch
abbrev pub MayWrite : Writer → Proof → Rule → List ℕ → Claim → Type 0
MayWrite writer proof rule premises claim =
    LinesAllow writer.lemmas.now writer.goal.now proof.terms.nodes proof.lines (literal_of proof.branches writer.branch)
    rule premises claim

-- the line of the equality tells it in the writer's branch
abbrev pub IsTold : Writer → Proof → Equality → Type 0
IsTold writer proof equality = Tells proof writer.branch equality.line (Same equality.left equality.right)
