-- Which claims are well formed, and what the lines of a proof claim.
use Rattle.std.specs.Prelude.{◌≡◌, ℕ, List, [], ◌∷◌, All, Option, Some, IsSome, map, slice_get, ⊤}
use Rattle.std.specs.Option.{option_map}
use Rattle.std.specs.Borrow.{Bor}
use Rattle.grind_term_graph.specs.declared.node.Node.{Node}
use Rattle.grind_term_graph.specs.Terms.{prop, int, sort_at}
use Rattle.grind_linear_forms.specs.Naming.{NamesNumbers}
use Rattle.grind_polynomials.specs.declared.poly.Term.{Term}
use Rattle.grind_claims.specs.declared.claim.Claim.{Claim}
use Rattle.grind_claims.specs.declared.claim.Claim.TheVariants.{Holds, Fails, Same, Differ, AtMost, Zero, Absurd}
use Rattle.grind_claims.specs.declared.proof.Line.{Line}

-- each node of the polynomial is a whole number of the table
abbrev pub MultipliesNumbers : List Node → List Term → Type 0
MultipliesNumbers nodes poly = All (λ (term : Term). All (λ n. sort_at nodes n ≡ Some int) term.monomial) poly

-- two nodes of one sort
abbrev pub AreOfOneSort : List Node → ℕ → ℕ → Type 0
AreOfOneSort nodes left right = IsSome (sort_at nodes left) × (sort_at nodes left ≡ sort_at nodes right)

-- a claim over these nodes: truth and falsity are of formulas, terms are equal or different within one sort, and forms
-- and polynomials name whole numbers
abbrev pub IsFormed : List Node → Claim → Type 0
IsFormed nodes (Holds node) = sort_at nodes node ≡ Some prop
IsFormed nodes (Fails node) = sort_at nodes node ≡ Some prop
IsFormed nodes (Same left right) = AreOfOneSort nodes left right
IsFormed nodes (Differ left right) = AreOfOneSort nodes left right
IsFormed nodes (AtMost form) = NamesNumbers nodes form
IsFormed nodes (Zero poly) = MultipliesNumbers nodes poly
IsFormed nodes Absurd = ⊤

-- the claims that a list of references leads to
abbrev pub claims_of : List (Bor Claim) → List Claim
claims_of premises = map (λ (premise : Bor Claim). premise.now) premises

-- what a line claims
abbrev pub claim_at : List Line → ℕ → Option Claim
claim_at lines number = option_map (λ (line : Line). line.claim) (slice_get lines number)

-- these lines claim this, one by one
abbrev pub AreClaimsAt : List Line → List ℕ → List Claim → Type 0
AreClaimsAt lines [] [] = ⊤
AreClaimsAt lines [] (claim ∷ claims) = ⊥
AreClaimsAt lines (number ∷ numbers) [] = ⊥
AreClaimsAt lines (number ∷ numbers) (claim ∷ claims) =
    (claim_at lines number ≡ Some claim) × AreClaimsAt lines numbers claims
