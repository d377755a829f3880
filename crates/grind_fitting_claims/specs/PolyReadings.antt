-- What a term is read as, as a polynomial, where each number on the way keeps to a bound, or over whole numbers without bounds.
use Rattle.std.specs.Prelude.{◌≡◌, ◌⊎◌, ◌↔◌, ℕ, ◌+◌, List, All, Some, Bool, true, false, ℤ, ◌+ℤ◌, FitsSigned}
use Rattle.std.specs.Int.{w128}
use Rattle.grind_term_graph.specs.declared.node.Node.{Node}
use Rattle.grind_term_graph.specs.Terms.{int, sort_at}
use Rattle.grind_reach.specs.Reached.{HaveEarlierArguments}
use Rattle.grind_polynomials.specs.declared.poly.Term.{Term}
use Rattle.grind_polynomials.specs.Polynomials.{IsPoly, degree, is_over}
use Rattle.grind_polynomials.specs.Sums.{signed}
use Rattle.grind_polynomials.specs.Readings.{number_poly, node_poly}
use Rattle.grind_differences.specs.Differences.{poly_reading}
use Rattle.grind_fitting_claims.specs.Derivations.{IsRead}
use Rattle.grind_fitting_claims.specs.LinearReadings.{WithoutBounds}
use Rattle.grind_fitting_claims.specs.PolyResults.{number_at, pairs_of, with_pairs_added, EachProductFits, nothing}

-- the term fits, and so does the coefficient of its monomial with it added or taken off
abbrev pub TermFitsIn : (ℤ → Type 0) → Bool → (List ℕ → ℤ) → Term → Type 0
TermFitsIn Fits minus at term = Fits term.coefficient × Fits (at term.monomial +ℤ signed minus term.coefficient)

-- so it is with each of the terms
abbrev pub TermsFitIn : (ℤ → Type 0) → Bool → (List ℕ → ℤ) → List Term → Type 0
TermsFitIn Fits minus at terms = All (TermFitsIn Fits minus at) terms

-- the polynomial with these coefficients, and another added or taken off
pub record IsPolySumOf (minus : Bool) (at : List ℕ → ℤ) (b : List Term) (poly : List Term) : Type 0 where
  pub is_poly : IsPoly poly
  pub numbers : (m : List ℕ) → number_at m poly ≡ at m +ℤ signed minus (number_at m b)

-- the polynomial has the coefficients of the sum of the products of terms
pub record IsPolyProductOf (a b : List Term) (poly : List Term) : Type 0 where
  pub is_poly : IsPoly poly
  pub numbers : (m : List ℕ) → number_at m poly ≡ with_pairs_added nothing (pairs_of a b) m

-- the product of two polynomials, the node n: the node itself where their degrees are together over 16, else that sum
abbrev pub IsReadProduct : (ℤ → Type 0) → ℕ → List Term → List Term → List Term → Type 0
IsReadProduct Fits n a b poly =
    ((is_over (degree a + degree b) ≡ true) × (poly ≡ node_poly n))
    ⊎ ((is_over (degree a + degree b) ≡ false) × EachProductFits Fits nothing (pairs_of a b) × IsPolyProductOf a b poly)

-- the term n is read as the polynomial, and each number that is made on the way fits
abbrev pub IsPolyReadAs : (ℤ → Type 0) → List Node → ℕ → List Term → Type 0
IsPolyReadAs Fits nodes n poly =
    IsRead (λ (number : ℤ) (made : List Term). made ≡ number_poly number) (λ (m : ℕ) (made : List Term). made ≡ node_poly m)
    (λ (left right made : List Term). TermsFitIn Fits false (λ m. number_at m left) right × IsPolySumOf false (λ m. number_at m left) right made)
    (λ (inner made : List Term). TermsFitIn Fits true nothing inner × IsPolySumOf true nothing inner made) (IsReadProduct Fits) nodes n poly

-- the reading of a term as a polynomial is defined exactly where it is a whole number, is read so, and each number on the way fits in
-- 128 bits
abbrev pub PolyReadingsAreExact : Type 0
PolyReadingsAreExact =
    (nodes : List Node) → HaveEarlierArguments nodes → (n : ℕ) (poly : List Term) →
    (poly_reading nodes n ≡ Some poly) ↔ ((sort_at nodes n ≡ Some int) × IsPolyReadAs (FitsSigned w128) nodes n poly)

-- over whole numbers without bounds a term is read as at most one polynomial
abbrev pub PolyReadingsAreOne : Type 0
PolyReadingsAreOne =
    (nodes : List Node) (n : ℕ) (one other : List Term) → IsPolyReadAs WithoutBounds nodes n one → IsPolyReadAs WithoutBounds nodes n other →
    one ≡ other

-- what is read as a polynomial where each number on the way fits is so read without bounds
abbrev pub PolyBoundsOnlyRefuse : Type 0
PolyBoundsOnlyRefuse =
    (nodes : List Node) (n : ℕ) (poly : List Term) → IsPolyReadAs (FitsSigned w128) nodes n poly → IsPolyReadAs WithoutBounds nodes n poly
