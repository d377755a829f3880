-- Proofs that are not finished: which of their branches are open, and what is kept while lines and pairs are added.
use Rattle.std.specs.Prelude.{◌≡◌, ℕ, zero, suc, ◌+◌, ◌≤◌, ◌⊎◌, List, [], ◌∷◌, ◌++◌, Some, length, slice_get}
use Rattle.std.specs.Option.{IsSomeAnd}
use Rattle.grind_term_graph.specs.declared.node.Node.{Node}
use Rattle.grind_schemes.specs.Goals.{GoalData}
use Rattle.grind_schemes.specs.declared.lemmas.Lemmas.{Lemmas}
use Rattle.grind_claims.specs.declared.claim.Claim.{Claim}
use Rattle.grind_claims.specs.declared.proof.Branch.{Branch}
use Rattle.grind_claims.specs.declared.proof.Line.{Line}
use Rattle.grind_claims.specs.declared.proof.Proof.{Proof}
use Rattle.grind_proof_kernel.specs.Literals.{AreOpposite}
use Rattle.grind_proof_kernel.specs.Typing.{HasTerms, IsBranch, IsParent, IsClosed, IsInPair, StandsBehind, Reaches, literal_of}
use Rattle.grind_proof_writer.specs.Lines.{AreTyped}

-- A branch is the parent of a pair, or closed, or open.

-- the branch is not the parent of a pair
pub record IsLeaf (branches : List Branch) (branch : ℕ) : Type 0 where
  pub stands : IsBranch branches branch
  pub childless : ¬ IsParent branches branch

-- the branch is open: it is not the parent of a pair, and its last line, if it has one, claims no contradiction
pub record IsOpen (proof : Proof) (branch : ℕ) : Type 0 where
  pub leaf : IsLeaf proof.branches branch
  pub unclosed : ¬ IsClosed proof.lines branch

-- a listed branch is as its place in its pair asks, and its lines stand at the line at which it begins or after
pub record IsPlacedSoFar (nodes : List Node) (branches : List Branch) (lines : List Line) (branch : ℕ) (it : Branch) : Type 0 where
  pub pair : (k : ℕ) × IsInPair nodes branches lines k branch it
  pub stands : StandsBehind lines branch it.after

-- the branch of that number is; of the root nothing is asked
abbrev pub HasPlace : Proof → ℕ → Type 0
HasPlace proof zero = Unit {0}
HasPlace proof (suc b) =
    IsSomeAnd (slice_get proof.branches b) (IsPlacedSoFar proof.terms.nodes proof.branches proof.lines (suc b))

-- the proof is good so far: it has the terms of the goal, each of its branches is in its place, and each of its lines is
-- typed. Only its ends may be missing
pub record IsGoodSoFar (lemmas : Lemmas) (goal : GoalData) (proof : Proof) : Type 0 where
  pub terms : HasTerms goal proof
  pub branches : (b : ℕ) → b ≤ length proof.branches → HasPlace proof b
  pub lines : AreTyped lemmas goal proof

-- each branch ends: it is the parent of a pair or closed
abbrev pub IsFinished : Proof → Type 0
IsFinished proof = (b : ℕ) → b ≤ length proof.branches → IsParent proof.branches b ⊎ IsClosed proof.lines b

-- the proof with two branches after the others
abbrev pub with_branches : Proof → Branch → Branch → Proof
with_branches proof one other =
    record { terms = proof.terms; branches = proof.branches ++ one ∷ other ∷ []; lines = proof.lines }

-- the proof with a pair below this branch, which begins after all lines and assumes these two
abbrev pub with_pair : Proof → ℕ → Claim → Claim → Proof
with_pair proof parent one other =
    with_branches proof (record { parent = parent; after = length proof.lines; literal = one })
    (record { parent = parent; after = length proof.lines; literal = other })

-- what another branch than this one is, it stays: a leaf, closed, or not closed
pub record KeepsOthers (old new : Proof) (branch : ℕ) : Type 0 where
  pub leaf : (b : ℕ) → ¬ (b ≡ branch) → IsLeaf old.branches b → IsLeaf new.branches b
  pub parent : (b : ℕ) → IsParent old.branches b → IsParent new.branches b
  pub closed : (b : ℕ) → ¬ (b ≡ branch) → IsClosed old.lines b → IsClosed new.lines b
  pub unclosed : (b : ℕ) → IsBranch old.branches b → ¬ (b ≡ branch) → IsClosed new.lines b → IsClosed old.lines b

-- a branch of a new pair: it is open, assumes this, and may cite what its parent may
pub record IsChild (old new : Proof) (parent child : ℕ) (literal : Claim) : Type 0 where
  pub is_open : IsOpen new child
  pub literal_is : literal_of new.branches child ≡ Some literal
  pub reaches : (above : ℕ) → Reaches old.branches above parent → Reaches new.branches above child

-- the new proof has a pair below this branch, the two branches after all others, and nothing else is changed
pub record SplitsLeaf (old new : Proof) (parent : ℕ) (one other : Claim) : Type 0 where
  pub is : new ≡ with_pair old parent one other
  pub parent_is : IsParent new.branches parent
  pub first : IsChild old new parent (length old.branches + 1) one
  pub second : IsChild old new parent (length old.branches + 2) other
  pub others : KeepsOthers old new parent

-- the same, by a literal and its opposite
abbrev pub IsSplitBy : Proof → Proof → ℕ → Claim → Type 0
IsSplitBy old new parent literal = (other : Claim) × AreOpposite literal other × SplitsLeaf old new parent literal other
