-- What an explanation of an equality needs.
use Rattle.std.specs.Prelude.{◌≡◌, ℕ, ◌<◌, ◌≤◌, List, [], ◌∷◌, ◌++◌, Some, All, length, slice_get}
use Rattle.std.specs.Option.{IsSomeAnd}
use Rattle.grind_claims.specs.declared.claim.Claim.TheVariants.{Same}
use Rattle.grind_claims.specs.declared.proof.Line.{Line}
use Rattle.grind_claims.specs.declared.proof.Proof.{Proof}
use Rattle.grind_proof_writer.specs.Lines.{Tells}
use Rattle.grind_congruence.specs.declared.edge.Edge.{Edge}
use Rattle.grind_needed_edges.specs.declared.why.Why.{Why}
use Rattle.grind_needed_edges.specs.declared.why.Why.TheVariants as why
use Rattle.grind_needed_edges.specs.Needed.{AreJoinedWithin}

-- the reason serves for the edge at that place: a line tells it, or it is a congruence by the edges before it
abbrev pub IsReason : Proof → ℕ → List Edge → ℕ → Edge → Why → Type 0
IsReason proof branch edges place edge (why.Line number) = Tells proof branch number (Same edge.left edge.right)
IsReason proof branch edges place edge why.Congruence = AreJoinedWithin proof.terms.nodes edges place edge.left edge.right

-- there is a reason for each of the first edges, so many of them
abbrev pub HasReasons : Proof → ℕ → List Edge → List Why → ℕ → Type 0
HasReasons proof branch edges whys count =
    (place : ℕ) (edge : Edge) → place < count → slice_get edges place ≡ Some edge
    → IsSomeAnd (slice_get whys edge.why) (IsReason proof branch edges place edge)

-- no two of the lines claim the same
abbrev pub DifferInClaims : List Line → Type 0
DifferInClaims [] = Unit {0}
DifferInClaims (line ∷ lines) = All (λ (other : Line). ¬ (other.claim ≡ line.claim)) lines × DifferInClaims lines

-- the line claims one of certain equalities
abbrev pub IsLineAmong : (ℕ → ℕ → Type 0) → Line → Type 0
IsLineAmong Among line = (a : ℕ) × (b : ℕ) × (line.claim ≡ Same a b) × Among a b

-- the new proof has lines after those of the old one that claim certain equalities, no two of them the same, and at most two
-- lines more
pub record IsBrief (Among : ℕ → ℕ → Type 0) (old new : Proof) : Type 0 where
  pub lines : List Line
  pub last : List Line
  pub after : new.lines ≡ old.lines ++ (lines ++ last)
  pub among : All (IsLineAmong Among) lines
  pub differ : DifferInClaims lines
  pub short : length last ≤ 2
