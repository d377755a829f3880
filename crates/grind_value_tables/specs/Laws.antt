-- What a typed proof means: its lines are true, and so is its goal.
use Rattle.std.specs.Prelude.{◌≡◌, ℕ, ◌<◌, List, Some, length, slice_get, ℤ}
use Rattle.grind_term_graph.specs.Shape.{IsTermTable}
use Rattle.grind_schemes.specs.Goals.{GoalData, IsGoal}
use Rattle.grind_schemes.specs.declared.lemmas.Lemmas.{Lemmas}
use Rattle.grind_claims.specs.declared.claim.Claim.{Claim}
use Rattle.grind_claims.specs.declared.proof.Branch.{Branch}
use Rattle.grind_claims.specs.declared.proof.Line.{Line}
use Rattle.grind_claims.specs.declared.proof.Proof.{Proof}
use Rattle.grind_proof_kernel.specs.Typing.{HasTerms, TypedLine, Typed, branch_above, literal_of}
use Rattle.grind_value_tables.specs.Respects.{Respects, zero_value}
use Rattle.grind_value_tables.specs.Truths.{ClaimTrue, AreTrue, InstancesTrue, GoalTrue}

-- what the branch and its ancestors assume is true
abbrev pub AssumesTruth : (ℕ → ℤ) → List Branch → ℕ → Type 0
AssumesTruth v branches branch = (steps above : ℕ) (literal : Claim) → branch_above branches steps branch ≡ Some above
    → literal_of branches above ≡ Some literal → ClaimTrue v literal

-- the terms of the proof are a term table that begins with the goal's, and the table of values respects them
pub record IsTableFor (goal : GoalData) (proof : Proof) (v : ℕ → ℤ) : Type 0 where
  pub table : IsTermTable proof.terms.nodes proof.terms.limit
  pub begins : HasTerms goal proof
  pub respects : Respects proof.terms.nodes v

-- each line of the proof is typed
abbrev pub HasTypedLines : Lemmas → GoalData → Proof → Type 0
HasTypedLines lemmas goal proof = (i : ℕ) → i < length proof.lines → TypedLine lemmas goal proof i

-- where the hypotheses and the listed instances are true and the conclusion is false, and each line is typed, a line claims
-- what is true if all that its branch assumes is true
abbrev pub Sound : Type 0
Sound =
    (lemmas : Lemmas) (goal : GoalData) (proof : Proof) (v : ℕ → ℤ) → IsTableFor goal proof v →
    AreTrue v goal.hyps → InstancesTrue v proof → v goal.show ≡ zero_value → HasTypedLines lemmas goal proof →
    (i : ℕ) (line : Line) → slice_get proof.lines i ≡ Some line →
    AssumesTruth v proof.branches line.branch → ClaimTrue v line.claim

-- a typed proof makes its goal true in each table of values that respects its terms
abbrev pub TypedIsTrue : Type 0
TypedIsTrue =
    (lemmas : Lemmas) (goal : GoalData) (proof : Proof) (v : ℕ → ℤ) → IsGoal goal → IsTableFor goal proof v →
    Typed lemmas goal proof → GoalTrue goal proof v
