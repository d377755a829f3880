-- Lines of a proof that is being written: which may be cited in a branch, and what lines put after a proof leave as it was.
use Rattle.std.specs.Prelude.{◌≡◌, ℕ, ◌+◌, ◌<◌, List, ◌++◌, All, length, slice_get}
use Rattle.std.specs.Option.{IsSomeAnd}
use Rattle.grind_schemes.specs.Goals.{GoalData}
use Rattle.grind_schemes.specs.declared.lemmas.Lemmas.{Lemmas}
use Rattle.grind_claims.specs.declared.claim.Claim.{Claim}
use Rattle.grind_claims.specs.declared.proof.Line.{Line}
use Rattle.grind_claims.specs.declared.proof.Proof.{Proof}
use Rattle.grind_claims.specs.declared.proof.Rule.{Rule}
use Rattle.grind_proof_kernel.specs.Typing.{HasTerms, IsBranch, Reaches, TypedLine}

-- each line of the proof is typed
abbrev pub AreTyped : Lemmas → GoalData → Proof → Type 0
AreTyped lemmas goal proof = (i : ℕ) → i < length proof.lines → TypedLine lemmas goal proof i

-- lines may be written in the branch: the proof has the terms of the goal and the branch, and its lines are typed
pub record IsReady (lemmas : Lemmas) (goal : GoalData) (proof : Proof) (branch : ℕ) : Type 0 where
  pub terms : HasTerms goal proof
  pub stands : IsBranch proof.branches branch
  pub typed : AreTyped lemmas goal proof

-- the line of that number may be cited in the branch: it stands there or in an ancestor
abbrev pub IsUsable : Proof → ℕ → ℕ → Type 0
IsUsable proof branch number = IsSomeAnd (slice_get proof.lines number) (λ (line : Line). Reaches proof.branches line.branch branch)

-- and it claims this
abbrev pub Tells : Proof → ℕ → ℕ → Claim → Type 0
Tells proof branch number claim =
    IsSomeAnd (slice_get proof.lines number) (λ (line : Line). Reaches proof.branches line.branch branch × (line.claim ≡ claim))

-- the last line has that number, stands in the branch itself, and claims this
abbrev pub EndsWith : Proof → ℕ → ℕ → Claim → Type 0
EndsWith proof branch number claim =
    (length proof.lines ≡ number + 1)
    × IsSomeAnd (slice_get proof.lines number) (λ (line : Line). (line.branch ≡ branch) × (line.claim ≡ claim))

-- the new proof has the terms and branches of the old one and its lines, with lines of that branch after them, and each of
-- its lines is typed
pub record Appends (lemmas : Lemmas) (goal : GoalData) (old new : Proof) (branch : ℕ) : Type 0 where
  pub terms : new.terms ≡ old.terms
  pub branches : new.branches ≡ old.branches
  pub lines : (more : List Line) × (new.lines ≡ old.lines ++ more) × All (λ (line : Line). line.branch ≡ branch) more
  pub typed : AreTyped lemmas goal new

-- the line of these parts
abbrev pub line_of : ℕ → Rule → List ℕ → Claim → Line
line_of branch rule premises claim = record { branch = branch; rule = rule; premises = premises; claim = claim }
