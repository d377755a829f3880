-- What the rules over polynomials allow.
use Rattle.std.specs.Prelude.{◌≡◌, ◌≢◌, ℕ, List, [], ◌∷◌, All, Option, Some, None, ℤ, pos, FitsSigned}
use Rattle.std.specs.Int.{w128}
use Rattle.std.specs.Option.{option_and_then}
use Rattle.grind_term_graph.specs.declared.node.Node.{Node}
use Rattle.grind_polynomials.specs.declared.poly.Term.{Term}
use Rattle.grind_polynomials.specs.Sums.{sum_product}
use Rattle.grind_polynomials.specs.Readings.{answered}
use Rattle.grind_differences.specs.Differences.{poly_difference}
use Rattle.grind_differences.specs.Equations.{multiple_poly, IsOtherThanZero}
use Rattle.grind_claims.specs.declared.claim.Claim.{Claim}
use Rattle.grind_claims.specs.declared.claim.Claim.TheVariants.{Holds, Fails, Same, Differ, AtMost, Zero, Absurd}

-- poly: the polynomial of two whole numbers that are equal, of the one less that of the other, is 0
abbrev pub IsPolyRule : List Node → List Claim → Claim → Type 0
IsPolyRule nodes premises claim = (a : ℕ) × (b : ℕ) × (poly : List Term)
    × (premises ≡ Same a b ∷ []) × (claim ≡ Zero poly) × (poly_difference nodes a b ≡ Some poly)

-- equal: two whole numbers are equal where the polynomial of the one less that of the other is 0
abbrev pub IsEqual : List Node → List Claim → Claim → Type 0
IsEqual nodes premises claim = (a : ℕ) × (b : ℕ) × (poly : List Term)
    × (premises ≡ Zero poly ∷ []) × (claim ≡ Same a b) × (poly_difference nodes a b ≡ Some poly)

-- the polynomial that a premise says is 0
abbrev pub zero_of : Claim → Option (List Term)
zero_of (Zero poly) = Some poly
zero_of (Holds n) = None
zero_of (Fails n) = None
zero_of (Same a b) = None
zero_of (Differ a b) = None
zero_of (AtMost form) = None
zero_of Absurd = None

-- a polynomial, and the premises after it, each times its factor, added from left to right
abbrev pub gathered : List Term → List (List Term) → List Claim → Option (List Term)
gathered sum [] [] = Some sum
gathered sum [] (premise ∷ premises) = None
gathered sum (factor ∷ factors) [] = None
gathered sum (factor ∷ factors) (premise ∷ premises) =
    option_and_then (λ next. gathered next factors premises)
    (option_and_then (λ poly. answered (sum_product sum factor poly)) (zero_of premise))

-- each coefficient of the polynomial fits in 128 bits
abbrev pub CoefficientsFit : List Term → Type 0
CoefficientsFit poly = All (λ (term : Term). FitsSigned w128 term.coefficient) poly

-- ideal: a polynomial that fits is 0 where a number other than 0, times it, is the sum of premises that are 0, each times its
-- factor
abbrev pub IsIdeal : ℤ → List (List Term) → List Claim → Claim → Type 0
IsIdeal divisor factors premises claim = (rest : List Term) × (claim ≡ Zero rest) × (divisor ≢ pos 0)
    × (gathered [] factors premises ≡ Some (multiple_poly divisor rest)) × CoefficientsFit rest

-- a number other than 0 that is 0
abbrev pub IsFalseZero : Claim → Type 0
IsFalseZero one = (poly : List Term) × (one ≡ Zero poly) × IsOtherThanZero poly
