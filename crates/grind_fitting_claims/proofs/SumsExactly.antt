-- A sum of multiples of forms is defined exactly where each number on the way fits, and it is that sum.
use Rattle.std.proofs.Common.{◌≡◌, ℤ, ◌+ℤ◌, ◌*ℤ◌, FitsSigned, Option, Some, None, refl, sym, ap, ◌∙◌, subst, inl, inr}
use Rattle.std.specs.Option.{option_and_then}
use Rattle.std.specs.Int.{w128}
use Rattle.std.proofs.lemmas.Option.{none-some}
use Rattle.grind_linear_forms.specs.Forms.{FormData, IsForm, fit}
use Rattle.grind_linear_forms.specs.Sums.{multiple, combination, multiplied, merged, scaled_form, scaled_sum}
use Rattle.grind_linear_forms.specs.Coefficients.{coefficient_at}
use Rattle.grind_linear_forms.proofs.Fits.{fit_in, fit_is, multiple_is, combination_is}
use Rattle.grind_linear_forms.proofs.Merging.{both-some}
use Rattle.grind_linear_forms.proofs.Rising.{rises-multiplied, rises-merged}
use Rattle.grind_linear_forms.proofs.ByNode.{sum-by_node, refusal-by_node, one-form}
use Rattle.grind_fitting_claims.specs.Results.{IsSumOf, CombinationFits, SumFits}
use Rattle.grind_fitting_claims.proofs.FormsFit.{fit_fits, multiple_fits}

-- ---- numbers
module _ (m x k y : ℤ) where
  fits_by : (z : ℤ) (first second : Option ℤ) → multiple m x ≡ first → multiple k y ≡ second →
      option_and_then (λ p. option_and_then (λ q. fit (p +ℤ q)) second) first ≡ Some z → CombinationFits m x k y
  fits_by z None second f g e = absurd (none-some z e)
  fits_by z (Some p) None f g e = absurd (none-some z e)
  fits_by z (Some p) (Some q) f g e =
      let sum : p +ℤ q ≡ m *ℤ x +ℤ k *ℤ y = λ i. multiple_is m x p f i +ℤ multiple_is k y q g i in (
        subst (FitsSigned w128) (multiple_is m x p f) (multiple_fits m x p f),
        subst (FitsSigned w128) (multiple_is k y q g) (multiple_fits k y q g),
        subst (FitsSigned w128) (fit_is (p +ℤ q) z e ∙ sum) (fit_fits (p +ℤ q) z e),
      )

  -- where there is a combination, its numbers fit
  pub combination_parts : (z : ℤ) → combination m x k y ≡ Some z → CombinationFits m x k y
  unfolding combination
  combination_parts z e = fits_by z (multiple m x) (multiple k y) refl refl e

  made : (p q z : ℤ) → multiple m x ≡ Some p → multiple k y ≡ Some q → fit (p +ℤ q) ≡ Some z → combination m x k y ≡ Some z
  unfolding combination
  made p q z e f h = rw (e, f) h

  -- and where they fit, there is one
  pub combination_there : CombinationFits m x k y → combination m x k y ≡ Some (m *ℤ x +ℤ k *ℤ y)
  unfolding multiple
  combination_there fits =
      made (m *ℤ x) (k *ℤ y) (m *ℤ x +ℤ k *ℤ y) (fit_in (m *ℤ x) fits.0) (fit_in (k *ℤ y) fits.1) (fit_in (m *ℤ x +ℤ k *ℤ y) fits.2)

-- ---- forms
pub sum_is_form : (a b sum : FormData) (m k : ℤ) → IsForm a → IsForm b → scaled_sum a m b k ≡ Some sum → IsForm sum
sum_is_form a b sum m k left right e =
    let w = both-some (merged m a.parts k b.parts) (combination m a.constant k b.constant) sum e in
    rises-merged m k a.parts b.parts 0 sum.parts left right w.0

pub multiple_is_form : (a form : FormData) (m : ℤ) → IsForm a → scaled_form m a ≡ Some form → IsForm form
multiple_is_form a form m is e =
    let w = both-some (multiplied m a.parts) (multiple m a.constant) form e in rises-multiplied m a.parts 0 form.parts is w.0

module _ (a b : FormData) (m k : ℤ) (left : IsForm a) (right : IsForm b) where
  pub sum_is : (sum : FormData) → scaled_sum a m b k ≡ Some sum → IsSumOf m a k b sum
  sum_is sum e =
      let w = sum-by_node a b sum m k left right e in record {
        is_form = sum_is_form a b sum m k left right e;
        nodes = λ n. combination_is m (coefficient_at n a.parts) k (coefficient_at n b.parts) (coefficient_at n sum.parts) (w.0 n);
        constants = combination_is m a.constant k b.constant sum.constant w.1;
      }

  pub sum_fits : (sum : FormData) → scaled_sum a m b k ≡ Some sum → SumFits m a k b
  sum_fits sum e =
      let w = sum-by_node a b sum m k left right e in (
        λ n. combination_parts m (coefficient_at n a.parts) k (coefficient_at n b.parts) (coefficient_at n sum.parts) (w.0 n),
        combination_parts m a.constant k b.constant sum.constant w.1,
      )

  -- where each number fits, there is a sum
  pub sum_made : SumFits m a k b → (sum : FormData) × (scaled_sum a m b k ≡ Some sum)
  sum_made fits = at_answer (scaled_sum a m b k) refl
    where
      at_answer : (answer : Option FormData) → scaled_sum a m b k ≡ answer → (sum : FormData) × (scaled_sum a m b k ≡ Some sum)
      at_answer (Some sum) e = (sum, e)
      at_answer None e = absurd (elim (refusal-by_node a b m k left right e) [
        | inl w ↦ none-some (m *ℤ coefficient_at w.0 a.parts +ℤ k *ℤ coefficient_at w.0 b.parts)
            (sym w.1 ∙ combination_there m (coefficient_at w.0 a.parts) k (coefficient_at w.0 b.parts) (fits.0 w.0))
        | inr none ↦ none-some (m *ℤ a.constant +ℤ k *ℤ b.constant)
            (sym none ∙ combination_there m a.constant k b.constant fits.1)
      ])

  -- and it is this one
  pub sum_there : (sum : FormData) → IsSumOf m a k b sum → SumFits m a k b → scaled_sum a m b k ≡ Some sum
  sum_there sum is fits =
      let w = sum_made fits in
      let it = sum_is w.0 w.1 in
      w.1 ∙ ap (λ (form : FormData). Some form)
      (one-form w.0 sum it.is_form is.is_form (λ n. it.nodes n ∙ sym (is.nodes n)) (it.constants ∙ sym is.constants))

  pub one_sum : (sum other : FormData) → IsSumOf m a k b sum → IsSumOf m a k b other → sum ≡ other
  one_sum sum other is also =
      one-form sum other is.is_form also.is_form (λ n. is.nodes n ∙ sym (also.nodes n)) (is.constants ∙ sym also.constants)
