-- S-polynomials: where there is none for its degree, the degree is too high.
use Rattle.std.proofs.Common.{◌≡◌, inl, inr, ℕ, Bool, true, false, List, [], ◌∷◌, length, ℤ, Err, sym, ◌∙◌, refl}
use Rattle.std.proofs.lemmas.Bool.{cond-false, ltb-true}
use Rattle.grind_monomials.specs.Monomials.{quotient}
use Rattle.grind_polynomials.specs.declared.poly.Term.{Term}
use Rattle.grind_polynomials.specs.declared.poly.PolyRefusal.{PolyRefusal}
use Rattle.grind_polynomials.specs.declared.poly.PolyRefusal.TheVariants.{Overflow, Degree}
use Rattle.grind_polynomials.specs.Polynomials.{is_over}
use Rattle.grind_polynomials.specs.Sums.{with_multiple, with_multiples}
use Rattle.grind_normal_forms.specs.Pairs.{divided_by, lead_coefficient, lead_monomial, lead_multiple, s_polynomial, IsSPolynomial}
use Rattle.grind_polynomials.proofs.Fits.{ok-err}
use Rattle.grind_polynomials.proofs.Products.{multiples-nil, multiples-cons}
use Rattle.grind_polynomials.proofs.Degrees.{refused, multiple-refuses}
use Rattle.grind_ring_basis.specs.Pairs.{IsTooHigh}

multiples-refuse : (minus : Bool) (c : ℤ) (m : List ℕ) (bs terms : List Term) (e : PolyRefusal) → with_multiples minus c m bs terms ≡ Err e
    → e ≡ Overflow
multiples-refuse minus c m [] terms e h =
    absurd (ok-err (with_multiples minus c m [] terms) terms e (multiples-nil minus c m terms) h)
multiples-refuse minus c m (b ∷ bs) terms e h =
    elim (refused (with_multiples minus c m bs) (with_multiple minus c m b terms) e (sym (multiples-cons minus c m b bs terms) ∙ h)) [
      | inl over ↦ multiple-refuses minus c m b terms e over
      | inr made ↦ multiples-refuse minus c m bs made.0 e made.2
    ]

degree-not_overflow : Degree ≡ Overflow → ⊥
degree-not_overflow e = cc

-- where the degree is low enough, only a coefficient is refused
low-refused : (h : ℕ) (a b : List Term) → is_over (length (lead_multiple a b)) ≡ false → s_polynomial h a b ≡ Err Degree → ⊥
unfolding s_polynomial
low-refused h a b low e =
    let c = divided_by h (lead_coefficient a) in
    let d = divided_by h (lead_coefficient b) in
    let m = quotient (lead_multiple a b) (lead_monomial b) in
    let n = quotient (lead_multiple a b) (lead_monomial a) in
    elim (refused (with_multiples true c m b) (with_multiples false d n a []) Degree
    (sym (cond-false (is_over (length (lead_multiple a b))) _ _ low) ∙ e)) [
      | inl over ↦ degree-not_overflow (multiples-refuse false d n a [] Degree over)
      | inr made ↦ degree-not_overflow (multiples-refuse true c m b made.0 Degree made.2)
    ]

pub too_high : (a b : List Term) → IsSPolynomial a b (Err Degree) → IsTooHigh a b
too_high a b is = at_test (is_over (length (lead_multiple a b))) refl
  where
    at_test : (t : Bool) → is_over (length (lead_multiple a b)) ≡ t → IsTooHigh a b
    at_test true over = ltb-true 16 (length (lead_multiple a b)) over
    at_test false low = absurd (low-refused is.divisor a b low is.answer_is)
