-- What each line is: its premises rise, each is one of the facts that it may rest on, with a factor other than 0, and the rule
-- `ideal` allows it. And that what is reduced to 0 stays so.
use Rattle.std.specs.Prelude.{◌≡◌, ◌≢◌, ℕ, ◌<◌, ◌⊎◌, List, [], ◌∷◌, ◌++◌, All, ⊤}
use Rattle.grind_polynomials.specs.declared.poly.Term.{Term}
use Rattle.grind_polynomials.specs.Polynomials.{IsPoly}
use Rattle.grind_claims.specs.declared.claim.Claim.TheVariants.{Zero}
use Rattle.grind_arithmetic_rules.specs.PolyRules.{IsIdeal}
use Rattle.grind_ring_basis.specs.declared.types.Fact.{Fact}
use Rattle.grind_ring_basis.specs.declared.types.Basis.{Basis}
use Rattle.grind_ring_basis.specs.declared.types.Pair.{Pair}
use Rattle.grind_ring_basis.specs.declared.types.Places.{Places}
use Rattle.grind_ring_basis.specs.declared.types.Share.{Share}
use Rattle.grind_ring_basis.specs.declared.types.Combination.{Combination}
use Rattle.grind_ring_basis.specs.Bases.{fact, IsElement, ReducesToZero}
use Rattle.grind_ring_basis.specs.Shares.{posts_in, factors_in, claims_in}
use Rattle.grind_ring_basis.specs.Lines.{IsPostLine, IsPairLine, IsDifferenceLine}

-- the numbers rise strictly, all above this one
abbrev pub RisesAbove : ℕ → List ℕ → Type 0
RisesAbove low [] = ⊤
RisesAbove low (n ∷ ns) = (low < n) × RisesAbove n ns

-- the numbers rise strictly
abbrev pub IsRising : List ℕ → Type 0
IsRising [] = ⊤
IsRising (n ∷ ns) = RisesAbove n ns

-- each premise is one of those that may be, and has a factor other than 0
abbrev pub ArePremises : (ℕ → List Term → Type 0) → List (ℕ × Share) → Type 0
ArePremises may_be [] = ⊤
ArePremises may_be (one ∷ rest) = may_be one.0 one.1.poly × (one.1.factor ≢ []) × ArePremises may_be rest

-- the line claims, by the rule `ideal`, that this is 0, and rests on such premises
pub record IsTypedLine (may_be : ℕ → List Term → Type 0) (rest : List Term) (line : Combination) : Type 0 where
  pub premises : List (ℕ × Share)
  pub from_are : line.from ≡ posts_in premises
  pub factors_are : line.factors ≡ factors_in premises
  pub given : ArePremises may_be premises
  pub rising : IsRising line.from
  pub allowed : IsIdeal line.divisor line.factors (claims_in premises) (Zero rest)

-- the post and the polynomial are the fact, or an element of the basis
abbrev pub IsFactOrElement : Basis → Fact → ℕ → List Term → Type 0
IsFactOrElement basis it post poly = ((post ≡ it.post) × (poly ≡ it.poly)) ⊎ IsElement basis (fact post poly)

-- the line for the normal form of a fact rests on the fact and on elements of the basis
abbrev pub PostLinesAreTyped : Type 0
PostLinesAreTyped = (basis : Basis) (it : Fact) (rest : List Term) (line : Combination) → IsPostLine basis it rest line
    → IsTypedLine (IsFactOrElement basis it) rest line

-- the line for the normal form of an S-polynomial rests on elements of the basis
abbrev pub PairLinesAreTyped : Type 0
PairLinesAreTyped = (basis : Basis) (places : Places) (pair : Pair) (rest : List Term) (line : Combination)
    → IsPairLine basis places pair rest line → IsTypedLine (λ post poly. IsElement basis (fact post poly)) rest line

-- and so does the line for a polynomial that is reduced to 0
abbrev pub DifferenceLinesAreTyped : Type 0
DifferenceLinesAreTyped = (basis : Basis) (poly : List Term) (line : Combination) → IsDifferenceLine basis poly line
    → IsTypedLine (λ post poly. IsElement basis (fact post poly)) poly line

-- the basis with further elements after its own
abbrev pub grown : Basis → List ℕ → List (List Term) → Basis
grown basis posts elements = record { posts = basis.posts ++ posts; elements = basis.elements ++ elements }

-- what is reduced to 0 over a basis of polynomials other than 0 still is where further elements join it
abbrev pub ZerosStay : Type 0
ZerosStay = (basis : Basis) (posts : List ℕ) (elements : List (List Term)) (poly : List Term)
    → All (λ b. IsPoly b × (b ≢ [])) basis.elements → IsPoly poly
    → ReducesToZero basis poly → ReducesToZero (grown basis posts elements) poly
