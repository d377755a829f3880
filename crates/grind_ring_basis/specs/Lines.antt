-- Which line states a normal form, or that a polynomial with the normal form 0 is 0.
use Rattle.std.specs.Prelude.{◌≡◌, ℕ, List, [], ◌∷◌, slice_get, slice_set, Some, Result, Ok, neg_ℤ}
use Rattle.grind_monomials.specs.Monomials.{quotient}
use Rattle.grind_polynomials.specs.declared.poly.Term.{Term}
use Rattle.grind_polynomials.specs.declared.poly.PolyRefusal.{PolyRefusal}
use Rattle.grind_normal_forms.specs.declared.factors.Factors.{Factors}
use Rattle.grind_polynomials.specs.Polynomials.{term_of, fit_or_refuse}
use Rattle.grind_polynomials.specs.Readings.{number_poly}
use Rattle.grind_polynomials.specs.Sums.{and_then, sum_product}
use Rattle.grind_normal_forms.specs.Pairs.{divided_by, lead_coefficient, lead_monomial, lead_multiple}
use Rattle.grind_normal_forms.specs.FinalFactors.{IsFinal, FactorNumbersFit}
use Rattle.grind_ring_basis.specs.declared.types.Fact.{Fact}
use Rattle.grind_ring_basis.specs.declared.types.Basis.{Basis}
use Rattle.grind_ring_basis.specs.declared.types.Share.{Share}
use Rattle.grind_ring_basis.specs.declared.types.Pair.{Pair}
use Rattle.grind_ring_basis.specs.declared.types.Places.{Places}
use Rattle.grind_ring_basis.specs.declared.types.Combination.{Combination}
use Rattle.grind_ring_basis.specs.Bases.{ReducesToZero}
use Rattle.grind_ring_basis.specs.Pairs.{IsPairAt}
use Rattle.grind_ring_basis.specs.Shares.{share, shares_of, in_order, IsLineOver}

-- the factors of the reduction of the polynomial; each number in them fits in 128 bits
pub record AreFactors (basis : Basis) (poly : List Term) (factors : Factors) : Type 0 where
  pub final : IsFinal basis.elements poly factors
  pub fits : FactorNumbersFit factors

-- the premises of the line for the normal form of a fact: the fact as often as its reduction took it, and the elements
abbrev pub fact_shares : Basis → Fact → Factors → List (ℕ × Share)
fact_shares basis it factors =
    share it.post it.poly (number_poly factors.own) ∷ shares_of basis.posts basis.elements factors.list

-- the line that states that a normal form of the fact, which is this rest, is 0
pub record IsPostLine (basis : Basis) (it : Fact) (rest : List Term) (line : Combination) : Type 0 where
  pub factors : Factors
  pub factors_are : AreFactors basis it.poly factors
  pub line_is : IsLineOver factors.divisor (in_order (fact_shares basis it factors)) rest line

-- how often the first of two polynomials is taken in their S-polynomial
abbrev pub first_multiple : ℕ → List Term → List Term → List Term
first_multiple h a b = term_of (divided_by h (lead_coefficient b)) (quotient (lead_multiple a b) (lead_monomial a)) ∷ []

-- how often the second is taken, where that fits: it is taken off, so the number is negated
abbrev pub second_multiple : ℕ → List Term → List Term → Result (List Term) PolyRefusal
second_multiple h a b =
    and_then (λ k. Ok (term_of k (quotient (lead_multiple a b) (lead_monomial b)) ∷ []))
    (fit_or_refuse (neg_ℤ (divided_by h (lead_coefficient a))))

-- the factors of the elements, where the S-polynomial of a and b, which stand at these places, is taken `own` times: how
-- often it takes the two is added to their factors
pub record AreShared (h : ℕ) (a b : List Term) (places : Places) (factors : Factors) (all : List (List Term)) : Type 0 where
  pub first : List Term
  pub second : List Term
  pub more_first : List Term
  pub more_second : List Term
  pub first_is : slice_get factors.list places.first ≡ Some first
  pub second_is : slice_get factors.list places.second ≡ Some second
  pub more_first_is : sum_product first (number_poly factors.own) (first_multiple h a b) ≡ Ok more_first
  pub more_second_is : and_then (sum_product second (number_poly factors.own)) (second_multiple h a b) ≡ Ok more_second
  pub all_are : all ≡ slice_set (slice_set factors.list places.first more_first) places.second more_second

-- the line that states that a normal form of the S-polynomial of the elements at these places, which is this rest, is 0
pub record IsPairLine (basis : Basis) (places : Places) (pair : Pair) (rest : List Term) (line : Combination) : Type 0 where
  pub pair_is : IsPairAt basis places pair
  pub factors : Factors
  pub factors_are : AreFactors basis pair.poly factors
  pub all : List (List Term)
  pub all_are : AreShared pair.divisor pair_is.first pair_is.second places factors all
  pub line_is : IsLineOver factors.divisor (in_order (shares_of basis.posts basis.elements all)) rest line

-- the line that states that a polynomial whose normal form is 0 is 0
pub record IsDifferenceLine (basis : Basis) (poly : List Term) (line : Combination) : Type 0 where
  pub reduces : ReducesToZero basis poly
  pub factors : Factors
  pub factors_are : AreFactors basis poly factors
  pub line_is : IsLineOver factors.divisor (in_order (shares_of basis.posts basis.elements factors.list)) poly line
