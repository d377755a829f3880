-- Proofs of a goal that are written in the root, and their claims.
use Rattle.std.specs.Prelude.{ℕ, ◌≡◌, true, [], Bool, false}
use Rattle.grind_schemes.specs.Goals.{GoalData}
use Rattle.grind_schemes.specs.declared.lemmas.Lemmas.{Lemmas}
use Rattle.grind_claims.specs.declared.claim.Claim.{Claim}
use Rattle.grind_claims.specs.declared.claim.Claim.TheVariants.{Holds, Fails, Same, Differ}
use Rattle.grind_claims.specs.declared.proof.Proof.{Proof}
use Rattle.grind_proof_writer.specs.declared.writer.Writer.{Writer}
use Rattle.grind_proof_kernel.specs.Typing.{Typed}
use Rattle.grind_proof_writer.specs.Branches.{IsGoodSoFar}

-- a proof over the terms of the goal that has no branches but the root and is good so far
pub record IsRooted (lemmas : Lemmas) (goal : GoalData) (proof : Proof) : Type 0 where
  pub terms : proof.terms ≡ record { nodes = goal.terms.nodes; limit = 4294967295 }
  pub branches : proof.branches ≡ []
  pub good : IsGoodSoFar lemmas goal proof

-- the writer writes in the root of such a proof
pub record WritesRoot (writer : Writer) (proof : Proof) : Type 0 where
  pub branch : writer.branch ≡ 0
  pub rooted : IsRooted writer.lemmas.now writer.goal.now proof

-- what a formula that holds, or fails, is called
abbrev pub literal : Bool → ℕ → Claim
literal true node = Holds node
literal false node = Fails node

-- what is said of the sides of an equation that holds, or fails
abbrev pub sides_claim : Bool → ℕ → ℕ → Claim
sides_claim true a b = Same a b
sides_claim false a b = Differ a b

-- a typed proof over the terms of the goal, whose table has room for as many nodes as there are numbers
pub record IsProofOf (lemmas : Lemmas) (goal : GoalData) (proof : Proof) : Type 0 where
  pub typed : Typed lemmas goal proof
  pub terms : proof.terms ≡ record { nodes = goal.terms.nodes; limit = 4294967295 }
