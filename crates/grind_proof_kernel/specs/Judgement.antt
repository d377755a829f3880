-- What the answers of the checker mean.
use Rattle.std.specs.Prelude.{ℕ, ◌<◌, ◌≤◌, length}
use Rattle.grind_schemes.specs.Goals.{GoalData}
use Rattle.grind_schemes.specs.declared.lemmas.Lemmas.{Lemmas}
use Rattle.grind_claims.specs.declared.proof.Proof.{Proof}
use Rattle.grind_proof_kernel.specs.declared.checker.Verdict.{Verdict}
use Rattle.grind_proof_kernel.specs.declared.checker.Verdict.TheVariants as verdict
use Rattle.grind_proof_kernel.specs.Typing.{IsGoodBranch, Typed, TypedLine}

-- no branch is bad
abbrev pub HasGoodBranches : Proof → Type 0
HasGoodBranches proof = (b : ℕ) → b ≤ length proof.branches → IsGoodBranch proof b

-- the branch of that number is bad, and each branch before it is not
pub record IsFirstBadBranch (proof : Proof) (first : ℕ) : Type 0 where
  pub stands : first ≤ length proof.branches
  pub bad : ¬ IsGoodBranch proof first
  pub before : (b : ℕ) → b < first → IsGoodBranch proof b

-- no branch is bad, line `first` is not typed, and each line before it is
pub record IsFirstBadLine (lemmas : Lemmas) (goal : GoalData) (proof : Proof) (first : ℕ) : Type 0 where
  pub branches : HasGoodBranches proof
  pub stands : first < length proof.lines
  pub bad : ¬ TypedLine lemmas goal proof first
  pub before : (i : ℕ) → i < first → TypedLine lemmas goal proof i

-- the answer is right: typed, or the first bad branch, or the first bad line where no branch is bad
abbrev pub IsRight : Lemmas → GoalData → Proof → Verdict → Type 0
IsRight lemmas goal proof verdict.Typed = Typed lemmas goal proof
IsRight lemmas goal proof (verdict.BadBranch first) = IsFirstBadBranch proof first
IsRight lemmas goal proof (verdict.BadLine first) = IsFirstBadLine lemmas goal proof first
