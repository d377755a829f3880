-- The polynomial in which two leading terms cancel.
use Rattle.std.proofs.Common.{◌≡◌, ◌≢◌, inl, inr, ℕ, true, false, List, [], ◌∷◌, length, ℤ, pos, ◌+ℤ◌, ◌*ℤ◌, neg_ℤ, unsigned_abs, Result, Ok, Err, arith, sym, ap, ◌∙◌, refl, subst}
use Rattle.std.proofs.lemmas.Bool.{cond-true, cond-false, cases_Bool}
use Rattle.std.proofs.lemmas.Nat.Gcd.{same_from_IsGcd}
use Rattle.grind_lemmas.proofs.Rings.{linear}
use Rattle.grind_monomials.specs.Monomials.{IsMonomial, quotient}
use Rattle.grind_monomials.specs.Counts.{monomial_value}
use Rattle.grind_monomials.proofs.CountLemmas.{rises-product, rises-quotient}
use Rattle.grind_polynomials.specs.declared.poly.Term.{Term}
use Rattle.grind_polynomials.specs.declared.poly.PolyRefusal.{PolyRefusal}
use Rattle.grind_polynomials.specs.declared.poly.PolyRefusal.TheVariants.{Degree}
use Rattle.grind_polynomials.specs.Polynomials.{IsPoly, is_over}
use Rattle.grind_polynomials.specs.Sums.{and_then, with_multiples}
use Rattle.grind_polynomials.specs.Values.{poly_value}
use Rattle.grind_normal_forms.specs.Pairs.{divided_by, lead_coefficient, lead_monomial, IsLeadGcd, lead_multiple, s_polynomial, IsSPolynomial}
use Rattle.grind_polynomials.proofs.Fits.{ok-err}
use Rattle.grind_polynomials.proofs.Falling.{made_of, poly-multiples}
use Rattle.grind_polynomials.proofs.SumValues.{value-multiples}

pub mono-lead : (a : List Term) → IsPoly a → IsMonomial (lead_monomial a)
mono-lead [] poly = tt
mono-lead (term ∷ rest) poly = poly.0

-- what a leading monomial lacks of the least common multiple is a monomial
pub mono-cofactor : (a b : List Term) (whole kept lead part now : List ℕ) → IsMonomial (lead_monomial a) → IsMonomial (lead_monomial b)
    → whole ≡ lead_multiple a b → kept ≡ whole → part ≡ quotient kept lead → now ≡ part → IsMonomial now
mono-cofactor a b whole kept lead part now one two e f g h =
    subst IsMonomial (sym (h ∙ g ∙ ap (λ (n : List ℕ). quotient n lead) (f ∙ e)))
    (rises-quotient (lead_multiple a b) lead 0
    (rises-product (lead_monomial a) (quotient (lead_monomial b) (lead_monomial a)) 0 one (rises-quotient (lead_monomial b) (lead_monomial a) 0 two)))

pub nonzero-lead : (a : List Term) → IsPoly a → a ≢ [] → lead_coefficient a ≢ pos 0
nonzero-lead [] poly some e = some refl
nonzero-lead (term ∷ rest) poly some e = poly.1 e

module _ (a b : List Term) (h : ℕ) where
  pub s-over : is_over (length (lead_multiple a b)) ≡ true → s_polynomial h a b ≡ Err Degree
  unfolding s_polynomial
  s-over e = cond-true (is_over (length (lead_multiple a b))) _ _ e

  s-opened : is_over (length (lead_multiple a b)) ≡ false → s_polynomial h a b
      ≡ and_then (with_multiples true (divided_by h (lead_coefficient a)) (quotient (lead_multiple a b) (lead_monomial b)) b)
      (with_multiples false (divided_by h (lead_coefficient b)) (quotient (lead_multiple a b) (lead_monomial a)) a [])
  unfolding s_polynomial
  s-opened e = cond-false (is_over (length (lead_multiple a b))) _ _ e

  pub s-within : (first second : ℤ) (left right : List ℕ) → is_over (length (lead_multiple a b)) ≡ false
      → first ≡ divided_by h (lead_coefficient b) → second ≡ divided_by h (lead_coefficient a)
      → left ≡ quotient (lead_multiple a b) (lead_monomial a) → right ≡ quotient (lead_multiple a b) (lead_monomial b)
      → s_polynomial h a b ≡ and_then (with_multiples true second right b) (with_multiples false first left a [])
  s-within first second left right judged e f l r =
      s-opened judged
      ∙ (λ i. and_then (with_multiples true (sym f i) (sym r i) b) (with_multiples false (sym e i) (sym l i) a []))

  pub poly-s : (poly : List Term) → IsPoly a → IsPoly b → s_polynomial h a b ≡ Ok poly → IsPoly poly
  poly-s poly one two e = elim (cases_Bool (is_over (length (lead_multiple a b)))) [
    | inl over ↦ absurd (ok-err (s_polynomial h a b) poly Degree e (s-over over))
    | inr within ↦
        let w = made_of (with_multiples true (divided_by h (lead_coefficient a)) (quotient (lead_multiple a b) (lead_monomial b)) b)
        (with_multiples false (divided_by h (lead_coefficient b)) (quotient (lead_multiple a b) (lead_monomial a)) a []) poly
        (sym (s-opened within) ∙ e) in
        let whole = rises-product (lead_monomial a) (quotient (lead_monomial b) (lead_monomial a)) 0 (mono-lead a one)
        (rises-quotient (lead_monomial b) (lead_monomial a) 0 (mono-lead b two)) in
        poly-multiples true (divided_by h (lead_coefficient a)) (quotient (lead_multiple a b) (lead_monomial b)) b w.0 poly
        (rises-quotient (lead_multiple a b) (lead_monomial b) 0 whole) two
        (poly-multiples false (divided_by h (lead_coefficient b)) (quotient (lead_multiple a b) (lead_monomial a)) a [] w.0
        (rises-quotient (lead_multiple a b) (lead_monomial a) 0 whole) one tt w.1) w.2
  ]

  pub value-s : (v : ℕ → ℤ) (poly : List Term) → s_polynomial h a b ≡ Ok poly → poly_value v poly
      ≡ (divided_by h (lead_coefficient b) *ℤ monomial_value v (quotient (lead_multiple a b) (lead_monomial a))) *ℤ poly_value v a
      +ℤ neg_ℤ ((divided_by h (lead_coefficient a) *ℤ monomial_value v (quotient (lead_multiple a b) (lead_monomial b))) *ℤ poly_value v b)
  value-s v poly e = elim (cases_Bool (is_over (length (lead_multiple a b)))) [
    | inl over ↦ absurd (ok-err (s_polynomial h a b) poly Degree e (s-over over))
    | inr within ↦
        let w = made_of (with_multiples true (divided_by h (lead_coefficient a)) (quotient (lead_multiple a b) (lead_monomial b)) b)
        (with_multiples false (divided_by h (lead_coefficient b)) (quotient (lead_multiple a b) (lead_monomial a)) a []) poly
        (sym (s-opened within) ∙ e) in
        let one = value-multiples v false (divided_by h (lead_coefficient b)) (quotient (lead_multiple a b) (lead_monomial a)) a [] w.0 w.1 in
        let two = value-multiples v true (divided_by h (lead_coefficient a)) (quotient (lead_multiple a b) (lead_monomial b)) b w.0 poly w.2 in
        omega (arith, linear)
  ]

-- two others have one S-polynomial, or none for one cause
pub s-one : (a b : List Term) (one other : Result (List Term) PolyRefusal) → IsSPolynomial a b one → IsSPolynomial a b other → one ≡ other
s-one a b one other first second =
    let same = same_from_IsGcd (unsigned_abs (lead_coefficient a)) (unsigned_abs (lead_coefficient b)) first.divisor second.divisor
    first.divisor_is second.divisor_is in
    sym first.answer_is ∙ ap (λ (h : ℕ). s_polynomial h a b) same ∙ second.answer_is

-- and it is the one with any such divisor
pub s-by : (a b : List Term) (h : ℕ) (answer : Result (List Term) PolyRefusal) → IsSPolynomial a b answer → IsLeadGcd a b h
    → s_polynomial h a b ≡ answer
s-by a b h answer made gcd =
    ap (λ (k : ℕ). s_polynomial k a b)
    (same_from_IsGcd (unsigned_abs (lead_coefficient a)) (unsigned_abs (lead_coefficient b)) h made.divisor gcd made.divisor_is)
    ∙ made.answer_is
