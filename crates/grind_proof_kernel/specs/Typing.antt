-- Which lines and which proofs are typed.
use Rattle.std.specs.Prelude.{◌≡◌, ◌==◌, ℕ, zero, suc, ◌+◌, ◌<◌, ◌≤◌, ◌⊎◌, List, ◌∷◌, ◌++◌, [], All, Option, Some, None, find, length, reverse, slice_get, option_and_then}
use Rattle.std.specs.Option.{IsSomeAnd, option_map}
use Rattle.grind_term_graph.specs.declared.node.Node.{Node}
use Rattle.grind_schemes.specs.Goals.{GoalData}
use Rattle.grind_term_graph.specs.Beginnings.{BeginsWith}
use Rattle.grind_schemes.specs.declared.lemmas.Lemmas.{Lemmas}
use Rattle.grind_claims.specs.declared.claim.Claim.{Claim}
use Rattle.grind_claims.specs.declared.claim.Claim.TheVariants.{Absurd}
use Rattle.grind_claims.specs.declared.proof.Branch.{Branch}
use Rattle.grind_claims.specs.declared.proof.Line.{Line}
use Rattle.grind_claims.specs.declared.proof.Proof.{Proof}
use Rattle.grind_claims.specs.declared.proof.Rule.{Rule}
use Rattle.grind_claims.specs.Claims.{IsFormed, AreClaimsAt}
use Rattle.grind_proof_kernel.specs.Literals.{IsLiteral, AreOpposite}
use Rattle.grind_rules.specs.Rules.{RuleAllows}

-- the terms of the proof begin with those of the goal
abbrev pub HasTerms : GoalData → Proof → Type 0
HasTerms goal proof = BeginsWith goal.terms.nodes proof.terms.nodes

-- the branch of that number: 0 is the root, and the listed ones count from 1
abbrev pub branch_at : List Branch → ℕ → Option Branch
branch_at branches zero = None
branch_at branches (suc b) = slice_get branches b

-- a proof has this branch: the root, or a listed one
abbrev pub IsBranch : List Branch → ℕ → Type 0
IsBranch branches branch = branch ≤ length branches

-- the parent of a branch; the root has none
abbrev pub parent_of : List Branch → ℕ → Option ℕ
parent_of branches branch = option_map (λ (it : Branch). it.parent) (branch_at branches branch)

-- what a branch assumes besides its parent; the root assumes nothing
abbrev pub literal_of : List Branch → ℕ → Option Claim
literal_of branches branch = option_map (λ (it : Branch). it.literal) (branch_at branches branch)

-- the branch that is so many steps above this one
abbrev pub branch_above : List Branch → ℕ → ℕ → Option ℕ
branch_above branches zero branch = Some branch
branch_above branches (suc steps) branch = option_and_then (parent_of branches) (branch_above branches steps branch)

-- the first branch is the second or an ancestor of it. No ancestor of a branch is more steps above it than there are
-- branches, unless the parents run in a circle, which those of a typed proof do not.
abbrev pub Reaches : List Branch → ℕ → ℕ → Type 0
Reaches branches above branch =
    (steps : ℕ) × (steps ≤ length branches) × (branch_above branches steps branch ≡ Some above)

-- line i, in this branch, may use that line: it stands before, in this branch or an ancestor of it
abbrev pub Serves : List Branch → List Line → ℕ → ℕ → ℕ → Type 0
Serves branches lines i branch premise =
    (premise < i) × IsSomeAnd (slice_get lines premise) (λ (line : Line). Reaches branches line.branch branch)

-- the rule allows the claim, in a branch that assumes the literal, from what the lines of these numbers claim
abbrev pub LinesAllow : Lemmas → GoalData → List Node → List Line → Option Claim → Rule → List ℕ → Claim → Type 0
LinesAllow lemmas goal nodes lines literal rule premises claim = (claims : List Claim)
    × AreClaimsAt lines premises claims × RuleAllows lemmas goal nodes literal rule claims claim

-- the line is typed as line i
pub record IsTypedAs (lemmas : Lemmas) (goal : GoalData) (proof : Proof) (i : ℕ) (line : Line) : Type 0 where
  pub claim : IsFormed proof.terms.nodes line.claim
  pub branch : IsBranch proof.branches line.branch
  pub premises : All (Serves proof.branches proof.lines i line.branch) line.premises
  pub rule : LinesAllow lemmas goal proof.terms.nodes proof.lines (literal_of proof.branches line.branch) line.rule line.premises line.claim

-- there is a line i, and it is typed
abbrev pub TypedLine : Lemmas → GoalData → Proof → ℕ → Type 0
TypedLine lemmas goal proof i = IsSomeAnd (slice_get proof.lines i) (IsTypedAs lemmas goal proof i)

-- where the lines of a branch may begin: the root at the first line
abbrev pub begin_of : List Branch → ℕ → Option ℕ
begin_of branches zero = Some 0
begin_of branches (suc b) = option_map (λ (it : Branch). it.after) (slice_get branches b)

-- Pair k of a proof is its branches 2 * k + 1 and 2 * k + 2, k from 0.

-- the pair, both branches of which are listed, has this parent
abbrev pub IsPairOf : List Branch → ℕ → ℕ → Type 0
IsPairOf branches k parent =
    (k + k + 2 ≤ length branches) × (parent_of branches (k + k + 1) ≡ Some parent)

-- the branch is the parent of a pair
abbrev pub IsParent : List Branch → ℕ → Type 0
IsParent branches branch = (k : ℕ) × IsPairOf branches k branch

-- each line of the branch stands before that line
abbrev pub StandsBefore : List Line → ℕ → ℕ → Type 0
StandsBefore lines branch after =
    (i : ℕ) → IsSomeAnd (slice_get lines i) (λ (line : Line). line.branch ≡ branch) → i < after

-- each line of the branch stands at that line or after it
abbrev pub StandsBehind : List Line → ℕ → ℕ → Type 0
StandsBehind lines branch after =
    (i : ℕ) → IsSomeAnd (slice_get lines i) (λ (line : Line). line.branch ≡ branch) → after ≤ i

-- the last line of the branch, if it has one
abbrev pub last_in : List Line → ℕ → Option Line
last_in lines branch = find (λ (line : Line). line.branch == branch) (reverse lines)

-- the last line of the branch claims a contradiction
abbrev pub IsClosed : List Line → ℕ → Type 0
IsClosed lines branch = IsSomeAnd (last_in lines branch) (λ (line : Line). line.claim ≡ Absurd)

-- what holds of every branch, the root too, from the line on at which it begins: its lines stand there or after, and
-- it is the parent of a pair, or its last line claims a contradiction
pub record IsWhole (branches : List Branch) (lines : List Line) (branch after : ℕ) : Type 0 where
  pub stands : StandsBehind lines branch after
  pub ends : IsParent branches branch ⊎ IsClosed lines branch

-- the first branch of pair k goes on from a branch before it, at or after the line at which that one begins and after all
-- of its lines; no earlier pair has this parent, and the other branch of the pair is listed
pub record IsFirst (nodes : List Node) (branches : List Branch) (lines : List Line) (k : ℕ) (it : Branch) : Type 0 where
  pub other : k + k + 2 ≤ length branches
  pub above : it.parent < k + k + 1
  pub within : it.after ≤ length lines
  pub begins : IsSomeAnd (begin_of branches it.parent) (λ (after : ℕ). after ≤ it.after)
  pub parent_lines : StandsBefore lines it.parent it.after
  pub alone : (j : ℕ) → j < k → ¬ IsPairOf branches j it.parent
  pub literal : IsLiteral it.literal
  pub formed : IsFormed nodes it.literal

-- the second branch of a pair has the parent and the beginning of the first, and assumes the opposite
pub record IsSecond (first it : Branch) : Type 0 where
  pub parent : it.parent ≡ first.parent
  pub after : it.after ≡ first.after
  pub literal : AreOpposite first.literal it.literal

-- the branch of that number, one of pair k, is as its place in the pair asks
abbrev pub IsInPair : List Node → List Branch → List Line → ℕ → ℕ → Branch → Type 0
IsInPair nodes branches lines k branch it =
    ((branch ≡ k + k + 1) × IsFirst nodes branches lines k it)
    ⊎ ((branch ≡ k + k + 2) × IsSomeAnd (branch_at branches (k + k + 1)) (λ (first : Branch). IsSecond first it))

-- a listed branch is as its place asks, and whole
pub record IsInPlace (nodes : List Node) (branches : List Branch) (lines : List Line) (branch : ℕ) (it : Branch) : Type 0 where
  pub pair : (k : ℕ) × IsInPair nodes branches lines k branch it
  pub whole : IsWhole branches lines branch it.after

-- the branch is not bad
abbrev pub IsGoodBranch : Proof → ℕ → Type 0
IsGoodBranch proof zero = IsWhole proof.branches proof.lines 0 0
IsGoodBranch proof (suc b) =
    IsSomeAnd (slice_get proof.branches b) (IsInPlace proof.terms.nodes proof.branches proof.lines (suc b))

-- no branch is bad, and each line is typed
pub record Typed (lemmas : Lemmas) (goal : GoalData) (proof : Proof) : Type 0 where
  pub branches : (b : ℕ) → b ≤ length proof.branches → IsGoodBranch proof b
  pub lines : (i : ℕ) → i < length proof.lines → TypedLine lemmas goal proof i

-- the proof with one more line at its end
abbrev pub appended : Proof → Line → Proof
appended proof line = record { terms = proof.terms; branches = proof.branches; lines = proof.lines ++ line ∷ [] }
