-- What S-polynomials, normal forms and their factors mean, over whole numbers without bound.
use Rattle.std.specs.Prelude.{◌≡◌, ◌≢◌, ℕ, List, [], Result, Ok, Err, ℤ, pos, ◌+ℤ◌, ◌*ℤ◌, neg_ℤ}
use Rattle.grind_monomials.specs.Monomials.{quotient}
use Rattle.grind_monomials.specs.Counts.{monomial_value}
use Rattle.grind_polynomials.specs.declared.poly.Term.{Term}
use Rattle.grind_polynomials.specs.declared.poly.PolyRefusal.{PolyRefusal}
use Rattle.grind_polynomials.specs.declared.poly.PolyRefusal.TheVariants.{Overflow}
use Rattle.grind_polynomials.specs.Values.{poly_value, Vanishes}
use Rattle.grind_normal_forms.specs.declared.reduction.Reduced.{Reduced}
use Rattle.grind_normal_forms.specs.declared.factors.Factors.{Factors}
use Rattle.grind_normal_forms.specs.Pairs.{divided_by, lead_coefficient, lead_monomial, lead_multiple, s_polynomial, IsSPolynomial}
use Rattle.grind_normal_forms.specs.Reduction.{reduced_of, Reduces, IsNormal}
use Rattle.grind_normal_forms.specs.Gathering.{IsFactors, products_value}
use Rattle.grind_normal_forms.specs.FinalFactors.{IsFinal}

-- the value of an S-polynomial is that of the first times its factor, less that of the second times its factor
abbrev pub SPolynomialsHaveTheirValues : Type 0
SPolynomialsHaveTheirValues =
    (v : ℕ → ℤ) (h : ℕ) (a b poly : List Term) → s_polynomial h a b ≡ Ok poly →
    poly_value v poly
    ≡ ((divided_by h (lead_coefficient b) *ℤ monomial_value v (quotient (lead_multiple a b) (lead_monomial a))) *ℤ poly_value v a)
    +ℤ neg_ℤ ((divided_by h (lead_coefficient a) *ℤ monomial_value v (quotient (lead_multiple a b) (lead_monomial b))) *ℤ poly_value v b)

-- two polynomials have one S-polynomial, or none for one cause
abbrev pub SPolynomialsAreOne : Type 0
SPolynomialsAreOne =
    (a b : List Term) (one other : Result (List Term) PolyRefusal) → IsSPolynomial a b one → IsSPolynomial a b other → one ≡ other

-- where each basis element has the value 0, the factor times the polynomial has the value of the normal form's rest
abbrev pub NormalFormsHaveTheirValues : Type 0
NormalFormsHaveTheirValues =
    (v : ℕ → ℤ) (basis : List (List Term)) (p : List Term) (normal : Reduced) → IsNormal basis p normal → Vanishes v basis →
    normal.factor *ℤ poly_value v p ≡ poly_value v normal.rest

-- a rest without terms has the factor 1
abbrev pub ZeroRestsHaveFactorOne : Type 0
ZeroRestsHaveFactorOne =
    (basis : List (List Term)) (p : List Term) (normal : Reduced) → IsNormal basis p normal → normal.rest ≡ [] → normal.factor ≡ pos 1

-- a reduction has one answer
abbrev pub ReductionsHaveOneAnswer : Type 0
ReductionsHaveOneAnswer =
    (basis : List (List Term)) (now : Reduced) (one other : Result Reduced PolyRefusal) →
    Reduces basis now one → Reduces basis now other → one ≡ other

-- a polynomial has one normal form by a basis
abbrev pub NormalFormsAreOne : Type 0
NormalFormsAreOne =
    (basis : List (List Term)) (p : List Term) (one other : Reduced) → IsNormal basis p one → IsNormal basis p other → one ≡ other

-- where there is a normal form, each coefficient on the way to it fits
abbrev pub NormalFormsFit : Type 0
NormalFormsFit =
    (basis : List (List Term)) (p : List Term) (normal : Reduced) → IsNormal basis p normal →
    Reduces basis (reduced_of (pos 1) p) (Err Overflow) → ⊥

-- what factors are for: where there is a rest, the divisor times the rest is `own` times the polynomial and the sum of the
-- products; else `own` is 0, and the divisor times the polynomial is the sum of the products
abbrev pub FactorsHaveTheirValues : Type 0
FactorsHaveTheirValues =
    (v : ℕ → ℤ) (basis : List (List Term)) (p : List Term) (factors : Factors) (normal : Reduced) →
    IsFactors basis p factors → IsNormal basis p normal →
    (normal.rest ≢ [] → factors.divisor *ℤ poly_value v normal.rest
    ≡ (factors.own *ℤ poly_value v p) +ℤ products_value v basis factors.list)
    × (normal.rest ≡ [] → (factors.own ≡ pos 0) × (factors.divisor *ℤ poly_value v p ≡ products_value v basis factors.list))

-- a reduction has one list of factors, over whole numbers without bound
abbrev pub FinalFactorsAreOne : Type 0
FinalFactorsAreOne =
    (basis : List (List Term)) (p : List Term) (one other : Factors) → IsFinal basis p one → IsFinal basis p other → one ≡ other
