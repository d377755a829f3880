-- The results of the rules over polynomials, over whole numbers without bounds, and where they fit in 128 bits.
use Rattle.std.specs.Prelude.{◌≡◌, ◌≢◌, ◌↔◌, ℕ, ◌+◌, List, [], ◌∷◌, ◌++◌, length, Option, Some, All, ⊤, false, ℤ, pos, negsuc, ◌+ℤ◌, ◌*ℤ◌, FitsSigned}
use Rattle.std.specs.Int.{w128}
use Rattle.grind_term_graph.specs.declared.node.Node.{Node}
use Rattle.grind_schemes.specs.Goals.{GoalData}
use Rattle.grind_schemes.specs.declared.lemmas.Lemmas.{Lemmas}
use Rattle.grind_monomials.specs.declared.order.Place.{Place}
use Rattle.grind_monomials.specs.declared.order.Place.TheVariants.{Above, Same, Below}
use Rattle.grind_monomials.specs.Order.{place}
use Rattle.grind_monomials.specs.Monomials.{product}
use Rattle.grind_polynomials.specs.declared.poly.Term.{Term}
use Rattle.grind_polynomials.specs.Polynomials.{IsPoly, is_over}
use Rattle.grind_differences.specs.Differences.{poly_reading, poly_difference}
use Rattle.grind_differences.specs.Equations.{multiple_poly}
use Rattle.grind_claims.specs.declared.claim.Claim.{Claim}
use Rattle.grind_claims.specs.declared.claim.Claim.TheVariants as claims
use Rattle.grind_claims.specs.declared.proof.Rule.TheVariants as rules
use Rattle.grind_arithmetic_rules.specs.PolyRules.{CoefficientsFit}
use Rattle.grind_rules.specs.Rules.{RuleAllows}
use Rattle.grind_fitting_claims.specs.Results.{AllowsResult, IsWellMade}

-- the first number for a monomial that is the same, else the other
abbrev pub chosen : Place → ℤ → ℤ → ℤ
chosen Same first other = first
chosen Above first other = other
chosen Below first other = other

-- the coefficient of the monomial m, which is 0 where no term has it
abbrev pub number_at : List ℕ → List Term → ℤ
number_at m [] = pos 0
number_at m (term ∷ rest) = chosen (place term.monomial m) term.coefficient (number_at m rest)

-- two terms, which are multiplied
pub record Pair : Type 0 where
  pub first : Term
  pub second : Term

-- the coefficient of their product
abbrev pub pair_number : Pair → ℤ
pair_number pair = pair.first.coefficient *ℤ pair.second.coefficient

-- the monomial of their product
abbrev pub pair_monomial : Pair → List ℕ
pair_monomial pair = product pair.first.monomial pair.second.monomial

-- a term with each of some terms, in turn
abbrev pub pairs_with : Term → List Term → List Pair
pairs_with q [] = []
pairs_with q (b ∷ bs) = record { first = q; second = b } ∷ pairs_with q bs

-- each term of a polynomial with each of another, in turn
abbrev pub pairs_of : List Term → List Term → List Pair
pairs_of [] bs = []
pairs_of (q ∷ qs) bs = pairs_with q bs ++ pairs_of qs bs

-- each factor with its polynomial, in turn
abbrev pub all_pairs : List (List Term) → List (List Term) → List Pair
all_pairs [] polys = []
all_pairs (factor ∷ factors) [] = []
all_pairs (factor ∷ factors) (poly ∷ polys) = pairs_of factor poly ++ all_pairs factors polys

-- coefficients by monomials, with the product of a pair added
abbrev pub with_pair_added : (List ℕ → ℤ) → Pair → List ℕ → ℤ
with_pair_added at pair m = at m +ℤ chosen (place (pair_monomial pair) m) (pair_number pair) (pos 0)

-- with the products of all pairs added
abbrev pub with_pairs_added : (List ℕ → ℤ) → List Pair → List ℕ → ℤ
with_pairs_added at [] m = at m
with_pairs_added at (pair ∷ rest) m = with_pairs_added (with_pair_added at pair) rest m

-- in turn, each product is of a degree of at most 16, it fits, and so does the coefficient to which it is added
abbrev pub EachProductFits : (ℤ → Type 0) → (List ℕ → ℤ) → List Pair → Type 0
EachProductFits Fits at [] = ⊤
EachProductFits Fits at (pair ∷ rest) =
    (is_over (length pair.first.monomial + length pair.second.monomial) ≡ false) × Fits (pair_number pair)
    × Fits (with_pair_added at pair (pair_monomial pair)) × EachProductFits Fits (with_pair_added at pair) rest

-- so it is in 128 bits
abbrev pub ProductsFit : (List ℕ → ℤ) → List Pair → Type 0
ProductsFit at pairs = EachProductFits (FitsSigned w128) at pairs

-- no coefficient
abbrev pub nothing : List ℕ → ℤ
nothing m = pos 0

-- what the premises say is 0, one by one
abbrev pub AreZeros : List Claim → List (List Term) → Type 0
AreZeros [] [] = ⊤
AreZeros [] (poly ∷ polys) = ⊥
AreZeros (premise ∷ premises) [] = ⊥
AreZeros (premise ∷ premises) (poly ∷ polys) = (premise ≡ claims.Zero poly) × AreZeros premises polys

-- a sum of products, and what it is a multiple of
pub record Divided : Type 0 where
  pub polys : List (List Term)
  pub sum : List Term
  pub rest : List Term

-- ideal: the sum of the premises, each times its factor, divided by a number other than 0 that divides its coefficients
pub record IsIdealResult (divisor : ℤ) (factors : List (List Term)) (premises : List Claim) (it : Divided) : Type 0 where
  pub zeros : AreZeros premises it.polys
  pub counts : length factors ≡ length premises
  pub sum_is_poly : IsPoly it.sum
  pub numbers : (m : List ℕ) → number_at m it.sum ≡ with_pairs_added nothing (all_pairs factors it.polys) m
  pub nonzero : divisor ≢ pos 0
  pub rest_is : it.sum ≡ multiple_poly divisor it.rest

-- each number on the way fits, and each quotient
abbrev pub IdealFits : List (List Term) → Divided → Type 0
IdealFits factors it = ProductsFit nothing (all_pairs factors it.polys) × CoefficientsFit it.rest

-- the quotient is 0
abbrev pub SaysZero : Divided → Claim → Type 0
SaysZero it claim = claim ≡ claims.Zero it.rest

-- `ideal` allows exactly its result, where each number on the way fits and each quotient does
abbrev pub IdealAllowsItsResult : Type 0
IdealAllowsItsResult =
    (lemmas : Lemmas) (goal : GoalData) (nodes : List Node) (literal : Option Claim) (divisor : ℤ) (factors : List (List Term))
    (premises : List Claim) → All IsWellMade premises → All IsPoly factors →
    AllowsResult (IsIdealResult divisor factors premises) (IdealFits factors) SaysZero
    (RuleAllows lemmas goal nodes literal (rules.Ideal divisor factors) premises)

-- ---- differences: `poly`

-- two readings, and the first less the second
pub record PolyDifference : Type 0 where
  pub left : List Term
  pub right : List Term
  pub poly : List Term

-- those of two whole numbers of the table
pub record IsPolyDifferenceOf (table : List Node) (a b : ℕ) (it : PolyDifference) : Type 0 where
  pub left_is : poly_reading table a ≡ Some it.left
  pub right_is : poly_reading table b ≡ Some it.right
  pub is_poly : IsPoly it.poly
  pub numbers : (m : List ℕ) → number_at m it.poly ≡ number_at m it.left +ℤ negsuc 0 *ℤ number_at m it.right

-- -1 times the term fits, and so does the coefficient of its monomial to which that is added
abbrev pub TermIsTakenOff : List Term → Term → Type 0
TermIsTakenOff terms term =
    FitsSigned w128 (negsuc 0 *ℤ term.coefficient) × FitsSigned w128 (number_at term.monomial terms +ℤ negsuc 0 *ℤ term.coefficient)

-- so it is with each term of the second
abbrev pub PolyDifferenceFits : PolyDifference → Type 0
PolyDifferenceFits it = All (TermIsTakenOff it.left) it.right

-- the difference is 0
abbrev pub SaysNoDifference : PolyDifference → Claim → Type 0
SaysNoDifference it claim = claim ≡ claims.Zero it.poly

-- poly: the difference of two whole numbers that are equal
abbrev pub IsPolyResult : List Node → List Claim → PolyDifference → Type 0
IsPolyResult nodes premises it = (a : ℕ) × (b : ℕ) × (premises ≡ claims.Same a b ∷ []) × IsPolyDifferenceOf nodes a b it

-- the polynomial difference of two terms is defined exactly where their readings are and each number on the way fits, and it is that difference
abbrev pub PolyDifferencesAreExact : Type 0
PolyDifferencesAreExact =
    (nodes : List Node) (a b : ℕ) (poly : List Term) →
    (poly_difference nodes a b ≡ Some poly)
    ↔ ((it : PolyDifference) × IsPolyDifferenceOf nodes a b it × PolyDifferenceFits it × (poly ≡ it.poly))

-- `poly` allows exactly its result, where each number on the way fits
abbrev pub PolyAllowsItsResult : Type 0
PolyAllowsItsResult =
    (lemmas : Lemmas) (goal : GoalData) (nodes : List Node) (literal : Option Claim) (premises : List Claim) →
    AllowsResult (IsPolyResult nodes premises) PolyDifferenceFits SaysNoDifference (RuleAllows lemmas goal nodes literal rules.Poly premises)
