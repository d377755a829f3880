-- How often two elements are taken in a multiple of their S-polynomial.
use Rattle.std.proofs.Common.{◌≡◌, ◌≢◌, ℕ, List, [], ◌∷◌, ℤ, pos, neg_ℤ, unsigned_abs, Option, None, Result, Ok, Err, arith, sym, ap, ◌∙◌}
use Rattle.std.specs.Int.{◌∣◌}
use borrow.Author.Differences.{ints}
use Rattle.grind_monomials.specs.Monomials.{quotient}
use Rattle.grind_polynomials.specs.declared.poly.Term.{Term}
use Rattle.grind_polynomials.specs.declared.poly.PolyRefusal.{PolyRefusal}
use Rattle.grind_polynomials.specs.declared.poly.PolyRefusal.TheVariants.{Overflow}
use Rattle.grind_polynomials.specs.Polynomials.{term_of, fit_or_refuse}
use Rattle.grind_normal_forms.specs.Pairs.{divided_by, lead_coefficient, lead_monomial, lead_multiple}
use Rattle.grind_polynomials.specs.Readings.{answered}
use Rattle.grind_polynomials.specs.Sums.{and_then, sum_product}
use Rattle.grind_normal_forms.proofs.ContentLemmas.{divided-nonzero}
use Rattle.grind_polynomials.proofs.Fits.{fit_is}
use Rattle.grind_ring_basis.specs.Lines.{first_multiple, second_multiple}

pub quotient_nonzero : (h : ℕ) (z k : ℤ) → k ≡ divided_by h z → h ∣ unsigned_abs z → z ≢ pos 0 → k ≢ pos 0
quotient_nonzero h z k is divides some none = divided-nonzero h z divides some (sym is ∙ none)

pub turned_nonzero : (h : ℕ) (z k : ℤ) → fit_or_refuse (neg_ℤ (divided_by h z)) ≡ Ok k → h ∣ unsigned_abs z → z ≢ pos 0 → k ≢ pos 0
turned_nonzero h z k fits divides some none =
    divided-nonzero h z divides some (back (divided_by h z) (sym (fit_is (neg_ℤ (divided_by h z)) k fits) ∙ none))
  where
    back : (d : ℤ) → neg_ℤ d ≡ pos 0 → d ≡ pos 0
    back d e = omega (arith, ints)

module _ (q own multiple : List Term) (a b : List Term) (h : ℕ) (k : ℤ) (found : Option (List Term))
    (found_is : found ≡ answered (sum_product q own multiple)) where
  pub first_is : k ≡ divided_by h (lead_coefficient b) → multiple ≡ term_of k (quotient (lead_multiple a b) (lead_monomial a)) ∷ []
      → found ≡ answered (sum_product q own (first_multiple h a b))
  first_is k_is multiple_is =
      found_is
      ∙ ap (λ (m : List Term). answered (sum_product q own m))
      (multiple_is ∙ ap (λ (z : ℤ). term_of z (quotient (lead_multiple a b) (lead_monomial a)) ∷ []) k_is)

  pub second_is : fit_or_refuse (neg_ℤ (divided_by h (lead_coefficient a))) ≡ Ok k
      → multiple ≡ term_of k (quotient (lead_multiple a b) (lead_monomial b)) ∷ []
      → found ≡ answered (and_then (sum_product q own) (second_multiple h a b))
  second_is fits multiple_is =
      found_is ∙ ap (λ (m : List Term). answered (sum_product q own m)) multiple_is
      ∙ sym (ap (λ (r : Result ℤ PolyRefusal). answered (and_then (sum_product q own)
      (and_then (λ z. Ok (term_of z (quotient (lead_multiple a b) (lead_monomial b)) ∷ [])) r))) fits)

pub second_none : (q own a b : List Term) (h : ℕ) → fit_or_refuse (neg_ℤ (divided_by h (lead_coefficient a))) ≡ Err Overflow
    → None ≡ answered (and_then (sum_product q own) (second_multiple h a b))
second_none q own a b h over =
    sym (ap (λ (r : Result ℤ PolyRefusal). answered (and_then (sum_product q own)
    (and_then (λ z. Ok (term_of z (quotient (lead_multiple a b) (lead_monomial b)) ∷ [])) r))) over)
