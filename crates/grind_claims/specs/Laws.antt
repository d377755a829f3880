-- What stays true of claims where terms and lines grow.
use Rattle.std.specs.Prelude.{◌≡◌, ℕ, List, ◌++◌, length}
use Rattle.grind_term_graph.specs.declared.node.Node.{Node}
use Rattle.grind_claims.specs.declared.claim.Claim.{Claim}
use Rattle.grind_claims.specs.declared.proof.Line.{Line}
use Rattle.grind_claims.specs.Claims.{IsFormed, AreClaimsAt}

-- a well-formed claim stays so where terms are appended to the others
abbrev pub FormedStays : Type 0
FormedStays = (nodes more : List Node) (claim : Claim) → IsFormed nodes claim → IsFormed (nodes ++ more) claim

-- what lines claim they still claim where lines are appended to the others
abbrev pub ClaimsStay : Type 0
ClaimsStay = (lines more : List Line) (numbers : List ℕ) (claims : List Claim) →
    AreClaimsAt lines numbers claims → AreClaimsAt (lines ++ more) numbers claims

-- there are as many claims as lines that claim them
abbrev pub ClaimsCount : Type 0
ClaimsCount = (lines : List Line) (numbers : List ℕ) (claims : List Claim) →
    AreClaimsAt lines numbers claims → length claims ≡ length numbers
